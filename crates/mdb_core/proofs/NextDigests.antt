-- The next key among digests, by what a search from a bound finds first.
use Rattle.std.proofs.Common.{◌≡◌, ℕ, Bool, true, false, cond, not, List, [], ◌∷◌, map, refl, sym, ap, ◌∙◌, Bor, Option, Some, None, option_map, Ordering, Less, Equal, Greater}
use Rattle.std.specs.Prelude.{◌&&◌, MatchOption}
use Rattle.std.specs.Ordering.{is_lt, is_le}
use Rattle.std.specs.List.{filter}
use Rattle.smallvec.specs.SmallVec.{SmallVec}
use Rattle.base_model.specs.Bytes.{bytes_cmp}
use Rattle.trie_model.proofs.PlainEntries.{plain}
use Rattle.trie_items.specs.Sources.{is_ahead, next_key}
use Rattle.mdb_core.specs.Stores.{keys_of}
use Rattle.mdb_core.proofs.MapDigests.{key_items}

abbrev pub Entry : Type 0
Entry = SmallVec ℕ × List ℕ

abbrev pub first_of : List Entry → Option (List ℕ)
first_of [] = None
first_of (e ∷ es) = Some e.0.items

-- the first entry that passes a test which says of a key whether it is ahead
next_key-filter : (past : Bool) (from : List ℕ) (test : Entry → Bool) → ((e : Entry) → test e ≡ is_ahead past (bytes_cmp from e.0.items)) → (es : List Entry) → next_key past from (keys_of (map (plain key_items) es)) ≡ first_of (filter test es)
next_key-filter past from test same [] = refl
next_key-filter past from test same (e ∷ es) = go (is_ahead past (bytes_cmp from e.0.items)) refl (next_key-filter past from test same es)
  where
    go : (b : Bool) → is_ahead past (bytes_cmp from e.0.items) ≡ b → next_key past from (keys_of (map (plain key_items) es)) ≡ first_of (filter test es)
        → cond b (Some e.0.items) (next_key past from (keys_of (map (plain key_items) es))) ≡ first_of (cond (test e) (e ∷ filter test es) (filter test es))
    go true is ih = ap (λ t. first_of (cond t (e ∷ filter test es) (filter test es))) (sym (same e ∙ is))
    go false is ih = ih ∙ ap (λ t. first_of (cond t (e ∷ filter test es) (filter test es))) (sym (same e ∙ is))

-- what a search from a bound finds first
pub next_from : (es rest : List Entry) (from : List ℕ) (past : Bool) (test : Entry → Bool) → ((e : Entry) → test e ≡ is_ahead past (bytes_cmp from e.0.items)) → rest ≡ filter test es → first_of rest ≡ next_key past from (keys_of (map (plain key_items) es))
next_from es rest from past test same is = ap first_of is ∙ sym (next_key-filter past from test same es)

pub past_test : (o : Ordering) → (is_lt o && not false) ≡ is_ahead true o
past_test Less = refl
past_test Equal = refl
past_test Greater = refl

pub from_test : (o : Ordering) → (is_le o && not false) ≡ is_ahead false o
from_test Less = refl
from_test Equal = refl
from_test Greater = refl

abbrev pub Lent : Type 0
Lent = Bor (SmallVec ℕ) × Bor (List ℕ)

-- the key of the first entry that an iterator gives
pub first-lent : (r : Option Lent) (all rest : List Entry) → MatchOption r ((all ≡ []) × (rest ≡ [])) (λ p. all ≡ (p.0.now, p.1.now) ∷ rest) → option_map (λ (p : Lent). p.0.now.items) r ≡ first_of all
first-lent None all rest h = ap first_of (sym h.0)
first-lent (Some p) all rest h = ap first_of (sym h)
