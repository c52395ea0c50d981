-- Rows with keys that rise, looked up by their keys.
use Rattle.std.proofs.Common.{◌≡◌, ℕ, zero, suc, ◌<◌, ◌≤◌, Bool, true, false, cond, List, [], ◌∷◌, length, map, get_or, refl, sym, ap, ◌∙◌, subst, arith, Some, None, Result, Ok, Err, Ordering, Less, Equal, Greater, ◌⊎◌, inl, inr}
use Rattle.std.specs.Prelude.{IfOk, IfErr}
use Rattle.std.specs.List.{AllByRecursion}
use Rattle.std.specs.List.Sorted.{IsSearchInRange, IsBinarySearchResult, IsNonDecreasingBy}
use Rattle.std.specs.Ordering.{is_eq, ordering_index, ordering_reverse}
use Rattle.std.proofs.lemmas.Bool.{cases_lt}
use Rattle.std.proofs.lemmas.List.{get_or_default}
use Rattle.std.proofs.lemmas.List.Sorted.{IsNonDecreasingBy-from_default}
use Rattle.trie_model.specs.Bits.{IsRising, key_cmp, same_key}
use Rattle.trie_model.specs.Items.{Item, places}
use Rattle.trie_model.specs.Table.{Row, node_keys, row_at, items_table}
use Rattle.trie_model.proofs.NodeKeys.{node_keys-rise}
use Rattle.trie_model.proofs.Prefixes.{same_key-is, same_key-itself}
use Rattle.bit_keys.specs.Order.{key_cmp_total, same_key_ties}
use Rattle.trie_items.specs.Sources.{row_of}
use Rattle.node_table.specs.Rows.{row_key}

no_row : Row
no_row = ([], record { digest = None; children = [] })

-- ---- the order of keys

turned : (a b : List Bool) (o : Ordering) → key_cmp a b ≡ o → key_cmp b a ≡ ordering_reverse o
turned a b o e = key_cmp_total.antisymm b a ∙ ap ordering_reverse e

same : (a b : List Bool) → key_cmp a b ≡ Equal → same_key a b ≡ true
same a b e = same_key_ties a b ∙ ap is_eq e

other : (a b : List Bool) (o : Ordering) → key_cmp a b ≡ o → is_eq o ≡ false → same_key a b ≡ false
other a b o e f = same_key_ties a b ∙ ap is_eq e ∙ f

-- ---- keys by their places

above_at : (k : List Bool) (rs : List Row) (i : ℕ) (d : Row) → AllByRecursion (λ l. key_cmp k l ≡ Less) (map row_key rs) → i < length rs → key_cmp k (get_or rs i d).0 ≡ Less
above_at k [] i d h l = absurd (omega arith)
above_at k (r ∷ rs) zero d h l = h.0
above_at k (r ∷ rs) (suc i) d h l = above_at k rs i d h.1 (omega arith)

-- of two keys, the later is the greater
rising_at : (rs : List Row) (i j : ℕ) (d : Row) → IsRising (map row_key rs) → i < j → j < length rs → key_cmp (get_or rs i d).0 (get_or rs j d).0 ≡ Less
rising_at [] i j d h l m = absurd (omega arith)
rising_at (r ∷ rs) i zero d h l m = absurd (omega arith)
rising_at (r ∷ rs) zero (suc j) d h l m = above_at r.0 rs j d h.0 (omega arith)
rising_at (r ∷ rs) (suc i) (suc j) d h l m = rising_at rs i j d h.1 (omega arith) (omega arith)

later : (a b k : List Bool) → key_cmp a b ≡ Less → ordering_index (key_cmp a k) ≤ ordering_index (key_cmp b k)
later a b k h = go (key_cmp a k) refl
  where
    go : (o : Ordering) → key_cmp a k ≡ o → ordering_index o ≤ ordering_index (key_cmp b k)
    go Less e = omega arith
    go Equal e =
        let f : key_cmp b k ≡ Greater = ap (key_cmp b) (sym (same_key-is a k (same a k e))) ∙ turned a b Less h in
        rw f (omega arith)
    go Greater e =
        let f : key_cmp b k ≡ Greater = turned k b Less (key_cmp_total.trans k a b (turned a k Greater e) h) in
        rw f (omega arith)

-- the comparisons with one key rise
comparisons_rise : (rs : List Row) (k : List Bool) → IsRising (map row_key rs) → IsNonDecreasingBy (λ (r : Row). ordering_index (key_cmp r.0 k)) rs
comparisons_rise rs k h = IsNonDecreasingBy-from_default (λ (r : Row). ordering_index (key_cmp r.0 k)) rs no_row (λ i j le in_range.
    go i j in_range (cases_lt i j) le)
  where
    go : (i j : ℕ) → j < length rs → (i < j) ⊎ (j ≤ i) → i ≤ j → ordering_index (key_cmp (get_or rs i no_row).0 k) ≤ ordering_index (key_cmp (get_or rs j no_row).0 k)
    go i j m (inl l) le = later (get_or rs i no_row).0 (get_or rs j no_row).0 k (rising_at rs i j no_row h l m)
    go i j m (inr l) le =
        let e : i ≡ j = omega arith in
        subst (λ n. ordering_index (key_cmp (get_or rs i no_row).0 k) ≤ ordering_index (key_cmp (get_or rs n no_row).0 k)) e (omega arith)

-- ---- look-ups

-- a row is found by its key
row_of-at : (rs : List Row) (i : ℕ) (k : List Bool) (d : Row) → IsRising (map row_key rs) → i < length rs → (get_or rs i d).0 ≡ k → row_of k rs ≡ Some (get_or rs i d).1
row_of-at [] i k d h l e = absurd (omega arith)
row_of-at (r ∷ rs) zero k d h l e = ap (λ b. cond b (Some r.1) (row_of k rs)) (subst (λ x. same_key k x ≡ true) (sym e) (same_key-itself k))
row_of-at (r ∷ rs) (suc i) k d h l e =
    let less : key_cmp r.0 k ≡ Less = subst (λ x. key_cmp r.0 x ≡ Less) e (above_at r.0 rs i d h.0 (omega arith)) in
    ap (λ b. cond b (Some r.1) (row_of k rs)) (other k r.0 Greater (turned r.0 k Less less) refl) ∙ row_of-at rs i k d h.1 (omega arith) e

-- a row that stands at a place and has a key is what is found
pub row_of-seen : (rs vs : List Row) (i : ℕ) (k : List Bool) (x y : Row) → IsRising (map row_key rs) → rs ≡ vs → i < length rs → x ≡ get_or rs i x → y ≡ get_or rs i y → true ≡ same_key x.0 k → row_of k vs ≡ Some y.1
row_of-seen rs vs i k x y h e l p q s =
    let key : (get_or rs i y).0 ≡ k = ap (λ (r : Row). r.0) (get_or_default rs i y x l ∙ sym p) ∙ same_key-is x.0 k (sym s) in
    ap (row_of k) (sym e) ∙ row_of-at rs i k y h l key ∙ ap (λ (r : Row). Some r.1) (sym q)

-- none is found where no key is the same
row_of-none : (rs : List Row) (k : List Bool) → ((i : ℕ) → i < length rs → same_key k (get_or rs i no_row).0 ≡ false) → row_of k rs ≡ None
row_of-none [] k h = refl
row_of-none (r ∷ rs) k h = ap (λ b. cond b (Some r.1) (row_of k rs)) (h 0 (omega arith)) ∙ row_of-none rs k (λ i l. h (suc i) (omega arith))

-- what a binary search ends at
pub searched : (rs : List Row) (k : List Bool) → IsRising (map row_key rs) → (r : Result ℕ ℕ) → IsSearchInRange r (length rs) → IsBinarySearchResult (λ (x : Row). key_cmp x.0 k) rs r
    → record { found : IfOk r (λ at. (d : Row) → row_of k rs ≡ Some (get_or rs at d).1); absent : IfErr r (λ at. row_of k rs ≡ None) }
searched rs k h (Ok at) l equal = record {
  found = λ d. row_of-at rs at k d h l (same_key-is (get_or rs at d).0 k (same (get_or rs at d).0 k (equal d)));
  absent = tt;
}
searched rs k h (Err at) l parted = record {
  found = tt;
  absent =
      let sides = parted (comparisons_rise rs k h) in
      row_of-none rs k (λ i m. go i m (cases_lt i at) sides.0 sides.1);
}
  where
    go : (i : ℕ) → i < length rs → (i < at) ⊎ (at ≤ i)
        → ((j : ℕ) (d : Row) → 0 ≤ j → j < at → key_cmp (get_or rs j d).0 k ≡ Less) → ((j : ℕ) (d : Row) → at ≤ j → j < length rs → key_cmp (get_or rs j d).0 k ≡ Greater)
        → same_key k (get_or rs i no_row).0 ≡ false
    go i m (inl n) low high = other k (get_or rs i no_row).0 Greater (turned (get_or rs i no_row).0 k Less (low i no_row (omega arith) n)) refl
    go i m (inr n) low high = other k (get_or rs i no_row).0 Less (turned (get_or rs i no_row).0 k Greater (high i no_row n m)) refl

-- ---- the rows of a table

keys_of_rows : (w : ℕ) (is : List Item) (ks : List (List Bool)) → map row_key (map (row_at w is) ks) ≡ ks
keys_of_rows w is [] = refl
keys_of_rows w is (k ∷ ks) = ap (λ r. k ∷ r) (keys_of_rows w is ks)

-- the keys of a table rise
pub table_rises : (w : ℕ) (is : List Item) (rs : List Row) → rs ≡ items_table w is → IsRising (map row_key rs)
unfolding items_table
table_rises w is rs e = subst (λ r. IsRising (map row_key r)) (sym e) (subst IsRising (sym (keys_of_rows w is (node_keys w (places is)))) (node_keys-rise w (places is)))
