-- Keys that are each above the one before, and pairs with such keys.
use Rattle.std.proofs.Common.{◌≡◌, ℕ, zero, suc, ◌<◌, ◌≤◌, Bool, true, false, ◌&&◌, leb, List, [], ◌∷◌, length, map, take, get_or, refl, arith, Option, Some, None, Ordering, Less, Equal, Greater}
use Rattle.std.specs.List.{AllByRecursion}
use Rattle.std.specs.Ordering.{is_lt}
use Rattle.std.proofs.lemmas.Bool.Decides.{nat_tests}
use Rattle.std.proofs.lemmas.Cmp.{nat_list_cmp_total}
use Rattle.base_model.specs.Bytes.{bytes_cmp}
use Rattle.trie_model.specs.Maps.{key_limit, digest_entry}
use Rattle.trie_model.proofs.Lists.{All-weaker}
use Rattle.trie_items.specs.Sources.{AreAscending}
use Rattle.node_table.specs.Pairs.{KeptPair, key_of, keys_of, pairs_of, AreShort, is_above, are_good}

both : (a b : Bool) → (a && b) ≡ true → (a ≡ true) × (b ≡ true)
both true b e = (refl, e)
both false b e = absurd cc

less : (o : Ordering) → is_lt o ≡ true → o ≡ Less
less Less e = refl
less Equal e = absurd cc
less Greater e = absurd cc

fits : (n : ℕ) → leb n key_limit ≡ true → n ≤ key_limit
fits n e = grind (arith, nat_tests)

tested : (n : ℕ) → n ≤ key_limit → leb n key_limit ≡ true
tested n l = grind (arith, nat_tests)

-- the parts of a test of keys
parts : (last : Option (List ℕ)) (k : List ℕ) (ks : List (List ℕ)) → are_good last (k ∷ ks) ≡ true → (is_above last k ≡ true) × (length k ≤ key_limit) × (are_good (Some k) ks ≡ true)
parts last k ks e =
    let outer = both (is_above last k && leb (length k) key_limit) (are_good (Some k) ks) e in
    let inner = both (is_above last k) (leb (length k) key_limit) outer.0 in
    (inner.0, fits (length k) inner.1, outer.1)

-- all are above the last one
above_all : (last : List ℕ) (ks : List (List ℕ)) → are_good (Some last) ks ≡ true → AllByRecursion (λ k. bytes_cmp last k ≡ Less) ks
above_all last [] e = tt
above_all last (k ∷ ks) e =
    let p = parts (Some last) k ks e in
    let low = less (bytes_cmp last k) p.0 in
    (low, All-weaker (λ l. bytes_cmp k l ≡ Less) (λ l. bytes_cmp last l ≡ Less) ks (λ l h. nat_list_cmp_total.trans last k l low h) (above_all k ks p.2))

-- keys that pass ascend and are short
pub good_keys : (last : Option (List ℕ)) (ks : List (List ℕ)) → are_good last ks ≡ true → AreAscending ks × AreShort ks
good_keys last [] e = (tt, tt)
good_keys last (k ∷ ks) e =
    let p = parts last k ks e in
    let r = good_keys (Some k) ks p.2 in
    ((above_all k ks p.2, r.0), (p.1, r.1))

-- and such keys pass
pub keys_pass : (ks : List (List ℕ)) → AreAscending ks → AreShort ks → are_good None ks ≡ true
keys_pass [] a s = refl
keys_pass (k ∷ ks) a s = rw (tested (length k) s.0) (behind k ks a.0 a.1 s.1)
  where
    behind : (last : List ℕ) (ks : List (List ℕ)) → AllByRecursion (λ k. bytes_cmp last k ≡ Less) ks → AreAscending ks → AreShort ks → are_good (Some last) ks ≡ true
    behind last [] h a s = refl
    behind last (k ∷ ks) h a s = rw (h.0, tested (length k) s.0) (behind k ks a.0 a.1 s.1)

-- ---- pairs

at_key : (k : List ℕ) (ps : List KeptPair) (i : ℕ) (d : KeptPair) → AllByRecursion (λ l. bytes_cmp k l ≡ Less) (keys_of ps) → i < length ps → bytes_cmp k (key_of (get_or ps i d)) ≡ Less
at_key k [] i d h l = absurd (omega arith)
at_key k (p ∷ ps) zero d h l = h.0
at_key k (p ∷ ps) (suc i) d h l = at_key k ps i d h.1 (omega arith)

-- the pairs in front of one have lower keys
pub lower_ahead : (ps : List KeptPair) (i : ℕ) (d : KeptPair) → AreAscending (keys_of ps) → i < length ps → AllByRecursion (λ (e : List ℕ × List ℕ). bytes_cmp e.0 (key_of (get_or ps i d)) ≡ Less) (map digest_entry (pairs_of (take i ps)))
lower_ahead [] i d h l = absurd (omega arith)
lower_ahead (p ∷ ps) zero d h l = tt
lower_ahead (p ∷ ps) (suc i) d h l = (at_key (key_of p) ps i d h.0 (omega arith), lower_ahead ps i d h.1 (omega arith))
