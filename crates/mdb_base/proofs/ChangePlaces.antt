-- Where a change goes among changes with keys that strictly increase.
use Rattle.std.proofs.Common.{◌≡◌, ℕ, zero, suc, ◌-◌, ◌<◌, ◌≤◌, true, List, [], ◌∷◌, length, get_or, set, refl, sym, ap, ◌∙◌, subst, arith, Option, Some, None, Result, Ok, Err, Ordering, Less, Equal, Greater, ◌⊎◌, inl, inr}
use Rattle.std.specs.Prelude.{IfOk, IfErr, slice_get}
use Rattle.std.specs.List.{insert}
use Rattle.std.specs.List.Sorted.{IsSearchInRange, IsBinarySearchResult, IsNonDecreasingBy}
use Rattle.std.specs.Ordering.{is_lt, match_ordering, ordering_index, ordering_reverse}
use Rattle.std.specs.Cmp.{tied_itself}
use Rattle.std.proofs.lemmas.Bool.{cases_lt}
use Rattle.std.proofs.lemmas.Cmp.{nat_list_cmp_total}
use Rattle.std.proofs.lemmas.Option.{get_or_from_slice_get}
use Rattle.std.proofs.lemmas.List.Sorted.{IsNonDecreasingBy-from_default}
use Rattle.base_model.specs.Bytes.{bytes_cmp}
use Rattle.trie_model.proofs.Entries.{tied_equal}
use Rattle.batch_model.specs.Batch.{Change, AreRising, set_change}
use Rattle.batch_model.proofs.SetChanges.{less, lower}
use Rattle.mdb_base.specs.Batches.{IsPlaceOf, IsGapFor}

-- the order of two keys, the other way round
turned : (a b : List ℕ) (o : Ordering) → bytes_cmp a b ≡ o → bytes_cmp b a ≡ ordering_reverse o
turned a b o e = nat_list_cmp_total.antisymm b a ∙ ap ordering_reverse e

nothing : Change
nothing = record { key = []; value = None }

-- ---- keys by their places

above_last : (last : List ℕ) (cs : List Change) (j : ℕ) → AreRising (Some last) cs → j < length cs → bytes_cmp last (get_or cs j nothing).key ≡ Less
above_last last [] j h l = absurd (omega arith)
above_last last (c ∷ cs) zero h l = less (bytes_cmp last c.key) h.0
above_last last (c ∷ cs) (suc j) h l = above_last last cs j (lower last c.key cs h.0 h.1) (omega arith)

-- of two keys, the later is the greater
in_order : (last : Option (List ℕ)) (cs : List Change) (i j : ℕ) → AreRising last cs → i < j → j < length cs → bytes_cmp (get_or cs i nothing).key (get_or cs j nothing).key ≡ Less
in_order last [] i j h l m = absurd (omega arith)
in_order last (c ∷ cs) i zero h l m = absurd (omega arith)
in_order last (c ∷ cs) zero (suc j) h l m = above_last c.key cs j h.1 (omega arith)
in_order last (c ∷ cs) (suc i) (suc j) h l m = in_order (Some c.key) cs i j h.1 (omega arith) (omega arith)

-- ---- the comparisons with one key rise

later : (a b key : List ℕ) → bytes_cmp a b ≡ Less → ordering_index (bytes_cmp a key) ≤ ordering_index (bytes_cmp b key)
later a b key h = go (bytes_cmp a key) refl
  where
    go : (o : Ordering) → bytes_cmp a key ≡ o → ordering_index o ≤ ordering_index (bytes_cmp b key)
    go Less e = omega arith
    go Equal e =
        let f : bytes_cmp b key ≡ Greater = ap (bytes_cmp b) (sym (tied_equal a key e)) ∙ turned a b Less h in
        rw f (omega arith)
    go Greater e =
        let f : bytes_cmp b key ≡ Greater = turned key b Less (nat_list_cmp_total.trans key a b (turned a key Greater e) h) in
        rw f (omega arith)

comparisons_rise : (cs : List Change) (key : List ℕ) → AreRising None cs → IsNonDecreasingBy (λ (c : Change). ordering_index (bytes_cmp c.key key)) cs
comparisons_rise cs key h = IsNonDecreasingBy-from_default (λ (c : Change). ordering_index (bytes_cmp c.key key)) cs nothing (λ i j le in_range.
    go i j in_range (cases_lt i j) le)
  where
    go : (i j : ℕ) → j < length cs → (i < j) ⊎ (j ≤ i) → i ≤ j → ordering_index (bytes_cmp (get_or cs i nothing).key key) ≤ ordering_index (bytes_cmp (get_or cs j nothing).key key)
    go i j m (inl l) le = later (get_or cs i nothing).key (get_or cs j nothing).key key (in_order None cs i j h l m)
    go i j m (inr l) le =
        let e : i ≡ j = omega arith in
        subst (λ k. ordering_index (bytes_cmp (get_or cs i nothing).key key) ≤ ordering_index (bytes_cmp (get_or cs k nothing).key key)) e (omega arith)

-- ---- the places

-- a change takes the place of the one with its key
set_change-place : (last : Option (List ℕ)) (cs : List Change) (c : Change) (at : ℕ) → AreRising last cs → at < length cs → (get_or cs at nothing).key ≡ c.key → set_change cs c ≡ set cs at c
set_change-place last [] c at h l e = absurd (omega arith)
set_change-place last (x ∷ xs) c zero h l e =
    let f : bytes_cmp c.key x.key ≡ Equal = ap (bytes_cmp c.key) e ∙ tied_itself nat_list_cmp_total c.key in
    ap (λ o. match_ordering o (c ∷ x ∷ xs) (c ∷ xs) (x ∷ set_change xs c)) f
set_change-place last (x ∷ xs) c (suc at) h l e =
    let f : bytes_cmp x.key c.key ≡ Less = ap (bytes_cmp x.key) (sym e) ∙ above_last x.key xs at h.1 (omega arith) in
    ap (λ o. match_ordering o (c ∷ x ∷ xs) (c ∷ xs) (x ∷ set_change xs c)) (turned x.key c.key Less f)
    ∙ ap (λ r. x ∷ r) (set_change-place (Some x.key) xs c at h.1 (omega arith) e)

-- a change goes behind the lower keys
set_change-gap : (cs : List Change) (c : Change) (at : ℕ) → at ≤ length cs
    → ((k : ℕ) → k < at → bytes_cmp (get_or cs k nothing).key c.key ≡ Less)
    → ((k : ℕ) → at ≤ k → k < length cs → bytes_cmp (get_or cs k nothing).key c.key ≡ Greater)
    → set_change cs c ≡ insert cs at c
set_change-gap [] c zero l below above = refl
set_change-gap [] c (suc at) l below above = absurd (omega arith)
set_change-gap (x ∷ xs) c zero l below above =
    ap (λ o. match_ordering o (c ∷ x ∷ xs) (c ∷ xs) (x ∷ set_change xs c)) (turned x.key c.key Greater (above 0 (omega arith) (omega arith)))
set_change-gap (x ∷ xs) c (suc at) l below above =
    ap (λ o. match_ordering o (c ∷ x ∷ xs) (c ∷ xs) (x ∷ set_change xs c)) (turned x.key c.key Less (below 0 (omega arith)))
    ∙ ap (λ r. x ∷ r) (set_change-gap xs c at (omega arith) (λ k m. below (suc k) (omega arith)) (λ k m n. above (suc k) (omega arith) (omega arith)))

-- what a binary search ends at
pub searched : (cs : List Change) (key : List ℕ) → AreRising None cs → (r : Result ℕ ℕ) → IsSearchInRange r (length cs) → IsBinarySearchResult (λ (c : Change). bytes_cmp c.key key) cs r
    → record { found : IfOk r (IsPlaceOf cs key); absent : IfErr r (IsGapFor cs key) }
searched cs key h (Ok at) l equal = record {
  found = record { inside = l; set = λ c same. set_change-place None cs c at h l (tied_equal (get_or cs at nothing).key key (equal nothing) ∙ sym same) };
  absent = tt;
}
searched cs key h (Err at) l parted = record {
  found = tt;
  absent = record {
    inside = l;
    set = λ c same. set_change-gap cs c at l
        (λ k m. ap (bytes_cmp (get_or cs k nothing).key) same ∙ (parted (comparisons_rise cs key h)).0 k nothing (omega arith) m)
        (λ k m n. ap (bytes_cmp (get_or cs k nothing).key) same ∙ (parted (comparisons_rise cs key h)).1 k nothing m n);
  };
}

-- a key above the last one goes behind all
pub above_all : (cs : List Change) (key : List ℕ) (last : Change) → AreRising None cs → slice_get cs (length cs - 1) ≡ Some last → is_lt (bytes_cmp last.key key) ≡ true → IsGapFor cs key (length cs)
above_all cs key last h e t = record {
  inside = omega arith;
  set = λ c same. set_change-gap cs c (length cs) (omega arith)
      (λ k m. ap (bytes_cmp (get_or cs k nothing).key) same ∙ each k (cases_lt k (length cs - 1)) m)
      (λ k m n. absurd (omega arith));
}
  where
    top : (k : ℕ) → k ≡ length cs - 1 → bytes_cmp (get_or cs k nothing).key key ≡ Less
    top k f = ap (λ i. bytes_cmp (get_or cs i nothing).key key) f ∙ ap (λ (x : Change). bytes_cmp x.key key) (get_or_from_slice_get cs (length cs - 1) last nothing e) ∙ less (bytes_cmp last.key key) t

    each : (k : ℕ) → (k < length cs - 1) ⊎ (length cs - 1 ≤ k) → k < length cs → bytes_cmp (get_or cs k nothing).key key ≡ Less
    each k (inl l) m = nat_list_cmp_total.trans (get_or cs k nothing).key (get_or cs (length cs - 1) nothing).key key (in_order None cs k (length cs - 1) h l (omega arith)) (top (length cs - 1) refl)
    each k (inr l) m = top k (omega arith)

-- ---- places of equal keys among equal changes

pub place_along : (cs ds : List Change) (key other : List ℕ) (at : ℕ) → cs ≡ ds → key ≡ other → IsPlaceOf cs key at → IsPlaceOf ds other at
place_along cs ds key other at e f h = subst (λ (k : List ℕ). IsPlaceOf ds k at) f (subst (λ (xs : List Change). IsPlaceOf xs key at) e h)

pub gap_along : (cs ds : List Change) (key other : List ℕ) (at : ℕ) → cs ≡ ds → key ≡ other → IsGapFor cs key at → IsGapFor ds other at
gap_along cs ds key other at e f h = subst (λ (k : List ℕ). IsGapFor ds k at) f (subst (λ (xs : List Change). IsGapFor xs key at) e h)
