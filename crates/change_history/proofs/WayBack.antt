-- The way back over some deltas.
use Rattle.std.proofs.Common.{◌≡◌, ℕ, Bool, true, false, cond, List, [], ◌∷◌, ◌++◌, map, refl, sym, ap, ◌∙◌, subst, Option, Some, None}
use Rattle.std.specs.Prelude.{T, ◌&&◌}
use Rattle.std.specs.List.{filter}
use Rattle.std.specs.Ordering.{eq_by_cmp}
use Rattle.std.specs.FinMap.{get, is_sorted}
use Rattle.std.specs.FinMap.Entries.{below_all}
use Rattle.std.specs.Cmp.{eq_by_cmp_equiv}
use Rattle.std.proofs.lemmas.Cmp.{nat_list_cmp_total}
use Rattle.base_model.specs.Bytes.{bytes_cmp}
use Rattle.trie_model.specs.Maps.{Map}
use Rattle.range_model.specs.Ranges.{Range, everything}
use Rattle.batch_model.specs.Batch.{Change, AreRising, set_change, put_or_removed, after_batch}
use Rattle.batch_model.proofs.SetChanges.{set_changes_count_last}
use Rattle.history_model.specs.Changes.{Delta, same_value, deltas, lies_in, change_of, changes}
use Rattle.history_model.specs.Laws.{values_at}
use Rattle.history_model.proofs.Deltas.{Values, keyed, differ, values_at-deltas, deltas-sorted, one_list}
use Rattle.history_model.proofs.Changes.{AreSorted, first, second, all_changes_lead}
use Rattle.change_history.specs.Histories.{undo_of}

-- ---- one change after another

pub after_batch-push : (m : Map) (cs : List Change) (c : Change) → after_batch m (cs ++ c ∷ []) ≡ put_or_removed (after_batch m cs) c.key c.value
after_batch-push m [] c = refl
after_batch-push m (x ∷ cs) c = after_batch-push (put_or_removed m x.key x.value) cs c

-- a batch that has one change more, and does what so many changes do
pub one_undone : (m : Map) (batch : List Change) (cs : List Change) (c : Change) → AreRising None batch → after_batch m batch ≡ after_batch m cs → after_batch m (set_change batch c) ≡ after_batch m (cs ++ c ∷ [])
one_undone m batch cs c r e = set_changes_count_last m batch c r ∙ ap (λ (n : Map). put_or_removed n c.key c.value) e ∙ sym (after_batch-push m cs c)

-- ---- deltas the other way round

turn_back : Delta → Delta
turn_back d = record { key = d.key; before = d.after; after = d.before }

swapped : Option Values → Option Values
swapped None = None
swapped (Some u) = Some (u.1, u.0)

both : (a b : Bool) → T a → T b → T (a && b)
both true b p q = q
both false b p q = absurd p

below_back : (k : List ℕ) (ds : List Delta) → T (below_all bytes_cmp k (map keyed ds)) → T (below_all bytes_cmp k (map keyed (map turn_back ds)))
unfolding turn_back
below_back k [] h = tt
below_back k (d ∷ ds) h = both _ _ (first _ _ h) (below_back k ds (second _ _ h))

sorted_back : (ds : List Delta) → AreSorted ds → AreSorted (map turn_back ds)
unfolding turn_back
sorted_back [] h = tt
sorted_back (d ∷ ds) h = both (below_all bytes_cmp d.key (map keyed (map turn_back ds))) (is_sorted bytes_cmp (map keyed (map turn_back ds))) (below_back d.key ds (first _ _ h)) (sorted_back ds (second _ _ h))

values_back : (ds : List Delta) (q : List ℕ) → values_at (map turn_back ds) q ≡ swapped (values_at ds q)
unfolding turn_back swapped
values_back [] q = refl
values_back (d ∷ ds) q = go (eq_by_cmp bytes_cmp q d.key) (values_back ds q)
  where
    go : (b : Bool) → values_at (map turn_back ds) q ≡ swapped (values_at ds q) → cond b (Some (d.after, d.before)) (values_at (map turn_back ds) q) ≡ swapped (cond b (Some (d.before, d.after)) (values_at ds q))
    go true ih = refl
    go false ih = ih

same_back : (u v : Option (List ℕ)) → same_value u v ≡ same_value v u
same_back None None = refl
same_back None (Some v) = refl
same_back (Some u) None = refl
same_back (Some u) (Some v) = (eq_by_cmp_equiv nat_list_cmp_total).symm u v

deltas_back : (m1 m2 : Map) → deltas m2 m1 ≡ map turn_back (deltas m1 m2)
unfolding swapped
deltas_back m1 m2 = one_list (deltas m2 m1) (map turn_back (deltas m1 m2)) (deltas-sorted m2 m1) (sorted_back (deltas m1 m2) (deltas-sorted m1 m2)) (λ q.
    values_at-deltas m2 m1 q ∙ ap (λ s. cond s None (Some (get m2 q, get m1 q))) (same_back (get m2 q) (get m1 q)) ∙ go q (same_value (get m1 q) (get m2 q))
    ∙ ap swapped (sym (values_at-deltas m1 m2 q)) ∙ sym (values_back (deltas m1 m2) q))
  where
    go : (q : List ℕ) (s : Bool) → cond s None (Some (get m2 q, get m1 q)) ≡ swapped (cond s None (Some (get m1 q, get m2 q)))
    go q true = refl
    go q false = refl

undo-back : (ds : List Delta) → map undo_of ds ≡ map change_of (map turn_back ds)
unfolding turn_back
undo-back [] = refl
undo-back (d ∷ ds) = ap (λ cs. undo_of d ∷ cs) (undo-back ds)

filter-everything : (ds : List Delta) → filter (lies_in everything) ds ≡ ds
filter-everything [] = refl
filter-everything (d ∷ ds) = ap (λ ds. d ∷ ds) (filter-everything ds)

-- the deltas from one map to another lead back
pub undone : (m1 m2 : Map) (ds : List Delta) → ds ≡ filter (lies_in everything) (deltas m1 m2) → after_batch m2 (map undo_of ds) ≡ m1
undone m1 m2 ds e =
    ap (λ ds. after_batch m2 (map undo_of ds)) (e ∙ filter-everything (deltas m1 m2))
    ∙ ap (after_batch m2) (undo-back (deltas m1 m2) ∙ ap (map change_of) (sym (deltas_back m1 m2) ∙ sym (filter-everything (deltas m2 m1))))
    ∙ all_changes_lead m2 m1

-- so do all of them
pub undone_all : (m1 m2 : Map) (ds : List Delta) → ds ≡ deltas m1 m2 → after_batch m2 (map undo_of ds) ≡ m1
undone_all m1 m2 ds e = undone m1 m2 ds (e ∙ sym (filter-everything (deltas m1 m2)))
