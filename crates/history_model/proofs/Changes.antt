-- What changes make of a map, and their order.
use Rattle.std.proofs.Common.{◌≡◌, ℕ, Bool, true, false, cond, List, [], ◌∷◌, map, refl, sym, ap, ◌∙◌, subst, Option, Some, None, Ordering, Less, Equal, Greater}
use Rattle.std.specs.Prelude.{T, ◌&&◌}
use Rattle.std.specs.List.{filter}
use Rattle.std.specs.Ordering.{is_lt, is_eq, eq_by_cmp}
use Rattle.std.specs.FinMap.{get, find, is_sorted}
use Rattle.std.specs.FinMap.Entries.{below_all, where_key, is_sorted-where_key, find-where_key}
use Rattle.base_model.specs.Bytes.{bytes_cmp}
use Rattle.trie_model.specs.Maps.{Map}
use Rattle.trie_model.proofs.Entries.{tied_equal, same_by_gets}
use Rattle.range_model.specs.Ranges.{Range, holds, everything}
use Rattle.batch_model.specs.Batch.{AreRising, put_or_removed, after_batch}
use Rattle.batch_model.proofs.SetChanges.{get_changed}
use Rattle.history_model.specs.Changes.{Delta, same_value, deltas, lies_in, change_of, changes}
use Rattle.history_model.specs.Laws.{values_at, joined, ChangesLead, AllChangesLead, ChangesRise, DeltasRise, DeltasDiffer, NoneToItself, StepsAddUp}
use Rattle.history_model.proofs.Values.{same_key, key-itself, value-itself, one_value}
use Rattle.history_model.proofs.Deltas.{Values, keyed, differ, values_at-deltas, deltas-sorted, deltas-differ}

pub first : (a b : Bool) → T (a && b) → T a
first true b p = tt
first false b p = absurd p

pub second : (a b : Bool) → T (a && b) → T b
second true b p = p
second false b p = absurd p

-- ---- deltas in order

abbrev pub AreSorted : List Delta → Type 0
AreSorted ds = T (is_sorted bytes_cmp (map keyed ds))

is_true : (b : Bool) → T b → b ≡ true
is_true true h = refl
is_true false h = absurd h

rising_behind : (k : List ℕ) (ds : List Delta) → T (below_all bytes_cmp k (map keyed ds)) → AreSorted ds → AreRising (Some k) (map change_of ds)
rising_behind k [] b h = tt
rising_behind k (d ∷ ds) b h = (is_true (is_lt (bytes_cmp k d.key)) (first _ _ b), rising_behind d.key ds (first _ _ h) (second _ _ h))

pub rising : (ds : List Delta) → AreSorted ds → AreRising None (map change_of ds)
rising [] h = tt
rising (d ∷ ds) h = (refl, rising_behind d.key ds (first _ _ h) (second _ _ h))

-- ---- what is found

-- a key below all is not found
pub not_found : (k : List ℕ) (ds : List Delta) → T (below_all bytes_cmp k (map keyed ds)) → values_at ds k ≡ None
not_found k [] h = refl
not_found k (d ∷ ds) h = go (bytes_cmp k d.key) refl (first _ _ h) (not_found k ds (second _ _ h))
  where
    go : (o : Ordering) → bytes_cmp k d.key ≡ o → T (is_lt (bytes_cmp k d.key)) → values_at ds k ≡ None → values_at (d ∷ ds) k ≡ None
    go Less e p ih = ap (λ o. cond (is_eq o) (Some (d.before, d.after)) (values_at ds k)) e ∙ ih
    go Equal e p ih = absurd (rw e at p)
    go Greater e p ih = absurd (rw e at p)

-- ---- what deltas make of a map

abbrev after_or : Option Values → Option (List ℕ) → Option (List ℕ)
after_or None v = v
after_or (Some u) v = u.1

get_after : (m : Map) (ds : List Delta) (q : List ℕ) → AreSorted ds → get (after_batch m (map change_of ds)) q ≡ after_or (values_at ds q) (get m q)
get_after m [] q h = refl
get_after m (d ∷ ds) q h =
    get_after (put_or_removed m d.key d.after) ds q (second _ _ h)
    ∙ ap (after_or (values_at ds q)) (get_changed m d.key d.after q)
    ∙ go (eq_by_cmp bytes_cmp q d.key) refl
  where
    gone : eq_by_cmp bytes_cmp q d.key ≡ true → values_at ds q ≡ None
    gone e = ap (values_at ds) (same_key q d.key e) ∙ not_found d.key ds (first _ _ h)

    go : (b : Bool) → eq_by_cmp bytes_cmp q d.key ≡ b → after_or (values_at ds q) (cond b d.after (get m q)) ≡ after_or (cond b (Some (d.before, d.after)) (values_at ds q)) (get m q)
    go true e = ap (λ o. after_or o d.after) (gone e)
    go false e = refl

-- ---- the laws

-- the deltas in a range
abbrev pub inside : Range → List Delta → List Delta
inside r ds = filter (lies_in r) ds

keyed-inside : (r : Range) (ds : List Delta) → map keyed (inside r ds) ≡ where_key bytes_cmp (holds r) (map keyed ds)
keyed-inside r [] = refl
keyed-inside r (d ∷ ds) = go (holds r d.key) (keyed-inside r ds)
  where
    go : (b : Bool) → map keyed (inside r ds) ≡ where_key bytes_cmp (holds r) (map keyed ds) → map keyed (cond b (d ∷ inside r ds) (inside r ds)) ≡ cond b (keyed d ∷ where_key bytes_cmp (holds r) (map keyed ds)) (where_key bytes_cmp (holds r) (map keyed ds))
    go true ih = ap (λ es. keyed d ∷ es) ih
    go false ih = ih

pub inside-sorted : (r : Range) (ds : List Delta) → AreSorted ds → AreSorted (inside r ds)
inside-sorted r ds h = subst (λ es. T (is_sorted bytes_cmp es)) (sym (keyed-inside r ds)) (is_sorted-where_key bytes_cmp (holds r) (map keyed ds) h)

pub values_at-inside : (r : Range) (ds : List Delta) (q : List ℕ) → values_at (inside r ds) q ≡ cond (holds r q) (values_at ds q) None
values_at-inside r ds q =
    ap (find bytes_cmp q) (keyed-inside r ds) ∙ find-where_key bytes_cmp (holds r) q (λ x t. ap (holds r) (sym (tied_equal q x t))) (map keyed ds)

get-changes : (m1 m2 : Map) (r : Range) (q : List ℕ) → get (after_batch m1 (changes m1 m2 r)) q ≡ get (cond (holds r q) m2 m1) q
get-changes m1 m2 r q =
    get_after m1 (inside r (deltas m1 m2)) q (inside-sorted r (deltas m1 m2) (deltas-sorted m1 m2))
    ∙ ap (λ u. after_or u (get m1 q)) (values_at-inside r (deltas m1 m2) q ∙ ap (λ u. cond (holds r q) u None) (values_at-deltas m1 m2 q))
    ∙ go (holds r q) (same_value (get m1 q) (get m2 q)) refl
  where
    go : (b s : Bool) → same_value (get m1 q) (get m2 q) ≡ s → after_or (cond b (cond s None (Some (get m1 q, get m2 q))) None) (get m1 q) ≡ get (cond b m2 m1) q
    go true true e = one_value (get m1 q) (get m2 q) e
    go true false e = refl
    go false s e = refl

pub changes_lead : ChangesLead
changes_lead = get-changes

pub all_changes_lead : AllChangesLead
all_changes_lead m1 m2 = same_by_gets (after_batch m1 (changes m1 m2 everything)) m2 (get-changes m1 m2 everything)

pub changes_rise : ChangesRise
changes_rise m1 m2 r = rising (inside r (deltas m1 m2)) (inside-sorted r (deltas m1 m2) (deltas-sorted m1 m2))

pub deltas_rise : DeltasRise
deltas_rise m1 m2 = rising (deltas m1 m2) (deltas-sorted m1 m2)

pub deltas_differ : DeltasDiffer
deltas_differ = deltas-differ

-- deltas in order that say nothing of any key are none
none_said : (ds : List Delta) → ((q : List ℕ) → values_at ds q ≡ None) → ds ≡ []
none_said [] h = refl
none_said (d ∷ ds) h = let t : values_at (d ∷ ds) d.key ≡ Some (d.before, d.after) = ap (λ b. cond b (Some (d.before, d.after)) (values_at ds d.key)) (key-itself d.key) in let n = h d.key in absurd (cc)

pub no_deltas : (m : Map) → deltas m m ≡ []
no_deltas m = none_said (deltas m m) (λ q. values_at-deltas m m q ∙ ap (λ s. cond s None (Some (get m q, get m q))) (value-itself (get m q)))

pub none_to_itself : NoneToItself
none_to_itself m r = ap (λ ds. map change_of (inside r ds)) (no_deltas m)

pub steps_add_up : StepsAddUp
steps_add_up a b c q =
    values_at-deltas a c q ∙ go (get a q) (get b q) (get c q) (same_value (get a q) (get b q)) (same_value (get b q) (get c q)) refl refl
    ∙ sym (ap (λ u. joined u (values_at (deltas b c) q)) (values_at-deltas a b q) ∙ ap (joined (differ a b q)) (values_at-deltas b c q))
  where
    go : (u v x : Option (List ℕ)) (s t : Bool) → same_value u v ≡ s → same_value v x ≡ t → cond (same_value u x) None (Some (u, x)) ≡ joined (cond s None (Some (u, v))) (cond t None (Some (v, x)))
    go u v x true true e f = let g = one_value u v e in let k = one_value v x f in ap (λ s. cond s None (Some (u, x))) (ap (same_value u) (sym (g ∙ k)) ∙ value-itself u)
    go u v x true false e f = let g = one_value u v e in ap (λ s. cond s None (Some (u, x))) (ap (λ u. same_value u x) g ∙ f) ∙ ap (λ u. Some (u, x)) g
    go u v x false true e f = let k = one_value v x f in ap (λ s. cond s None (Some (u, x))) (ap (same_value u) (sym k) ∙ e) ∙ ap (λ x. Some (u, x)) (sym k)
    go u v x false false e f = refl
