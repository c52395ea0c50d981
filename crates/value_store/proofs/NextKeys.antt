-- The next key and the last one.
use Rattle.std.proofs.Common.{◌≡◌, ℕ, zero, suc, ◌-◌, ◌<◌, Bool, true, false, cond, not, List, [], ◌∷◌, map, length, refl, sym, ap, ◌∙◌, arith, Vec, Global, Bor, Option, Some, None, option_map, Ordering, Less, Equal, Greater}
use Rattle.std.specs.Prelude.{◌&&◌, slice_get, MatchOption, IfSome, IsSome}
use Rattle.std.specs.Ordering.{is_eq, is_lt, is_le}
use Rattle.std.specs.List.{filter}
use Rattle.std.proofs.lemmas.Bool.{false≢true}
use Rattle.std.specs.FinMap.{keys}
use Rattle.std.specs.Map.{keys_of}
use Rattle.trie_model.proofs.PlainEntries.{vec_items}
use Rattle.value_store.specs.Values.{Place, is_next, next_of, last_of}
use Rattle.value_store.specs.Index.{placed, places_of, AreInOrder}
use Rattle.value_store.proofs.IndexEntries.{entries-places_of}

abbrev pub Entry : Type 0
Entry = Vec ℕ Global × Place

abbrev pub first_key : List Entry → Option (List ℕ)
first_key [] = None
first_key (e ∷ es) = Some e.0.items

-- the keys of the map are those of its entries
pub keys-placed : (es : List Entry) → map (λ (e : List ℕ × Place). e.0) (map placed es) ≡ map vec_items (keys_of es)
keys-placed [] = refl
keys-placed (e ∷ es) = ap (λ r. e.0.items ∷ r) (keys-placed es)

-- the first entry that passes a test which says of a key whether it is a next one
pub next_of-filter : (from : List ℕ) (past : Bool) (test : Entry → Bool) → ((e : Entry) → test e ≡ is_next from past e.0.items) → (es : List Entry) → next_of (map vec_items (keys_of es)) from past ≡ first_key (filter test es)
next_of-filter from past test same [] = refl
next_of-filter from past test same (e ∷ es) = go (is_next from past e.0.items) refl (next_of-filter from past test same es)
  where
    go : (b : Bool) → is_next from past e.0.items ≡ b → next_of (map vec_items (keys_of es)) from past ≡ first_key (filter test es)
        → cond b (Some e.0.items) (next_of (map vec_items (keys_of es)) from past) ≡ first_key (cond (test e) (e ∷ filter test es) (filter test es))
    go true is ih = ap (λ t. first_key (cond t (e ∷ filter test es) (filter test es))) (sym (same e ∙ is))
    go false is ih = ih ∙ ap (λ t. first_key (cond t (e ∷ filter test es) (filter test es))) (sym (same e ∙ is))

-- the entry at the last place has the last key
last_of-at : (es : List Entry) (i : ℕ) (e : Entry) → suc i ≡ length es → slice_get es i ≡ Some e → last_of (map vec_items (keys_of es)) ≡ Some e.0.items
last_of-at [] i e n h = absurd (omega (arith, n))
last_of-at (f ∷ []) zero e n h = ap (option_map (λ (x : Entry). x.0.items)) h
last_of-at (f ∷ []) (suc i) e n h = absurd (omega (arith, n))
last_of-at (f ∷ g ∷ es) zero e n h = absurd (omega (arith, n))
last_of-at (f ∷ g ∷ es) (suc i) e n h = last_of-at (g ∷ es) i e (omega (arith, n)) h

pub last_of-entry : (es : List Entry) (e : Entry) → slice_get es (length es - 1) ≡ Some e → last_of (map vec_items (keys_of es)) ≡ Some e.0.items
last_of-entry [] e h = absurd cc
last_of-entry (f ∷ es) e h = last_of-at (f ∷ es) (length (f ∷ es) - 1) e (omega arith) h

-- the keys of the map
pub keys-places_of : (es : List Entry) → AreInOrder es → keys (places_of es) ≡ map vec_items (keys_of es)
keys-places_of es h = ap (map (λ (e : List ℕ × Place). e.0)) (entries-places_of es h) ∙ keys-placed es

pub last_of-none : (es : List Entry) → (0 < length es → ⊥) → last_of (map vec_items (keys_of es)) ≡ None
last_of-none [] h = refl
last_of-none (e ∷ es) h = absurd (h (omega arith))

-- what a search from a bound finds first
pub next_from : (es rest : List Entry) (from : List ℕ) (past : Bool) (test : Entry → Bool) → ((e : Entry) → test e ≡ is_next from past e.0.items) → rest ≡ filter test es → first_key rest ≡ next_of (map vec_items (keys_of es)) from past
next_from es rest from past test same is = ap first_key is ∙ sym (next_of-filter from past test same es)

pub past_test : (o : Ordering) → (is_lt o && not false) ≡ is_lt o
past_test Less = refl
past_test Equal = refl
past_test Greater = refl

pub from_test : (o : Ordering) → (is_le o && not false) ≡ cond (is_eq o) true (is_lt o)
from_test Less = refl
from_test Equal = refl
from_test Greater = refl

abbrev pub Lent : Type 0
Lent = Bor (Vec ℕ Global) × Bor Place

abbrev pub lent_key : Option Lent → Option (List ℕ)
lent_key r = option_map (λ p. p.0.now.items) r

-- the key of the first entry that an iterator gives
pub first-lent : (r : Option Lent) (all rest : List Entry) → MatchOption r ((all ≡ []) × (rest ≡ [])) (λ p. all ≡ (p.0.now, p.1.now) ∷ rest) → lent_key r ≡ first_key all
first-lent None all rest h = ap first_key (sym h.0)
first-lent (Some p) all rest h = ap first_key (sym h)

-- the key of the last entry
pub last-lent : (r : Option Lent) (es : List Entry) → (0 < length es → IsSome r) → IfSome r (λ p. slice_get es (length es - 1) ≡ Some (p.0.now, p.1.now)) → lent_key r ≡ last_of (map vec_items (keys_of es))
last-lent None es some h = sym (last_of-none es (λ few. absurd (false≢true (some few))))
last-lent (Some p) es some h = sym (last_of-entry es (p.0.now, p.1.now) h)
