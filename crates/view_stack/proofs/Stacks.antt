-- What each call leaves of a stack of views.
use Rattle.std.proofs.Common.{◌≡◌, ◌⊎◌, inl, inr, ℕ, ◌+◌, ◌-◌, ◌<◌, ◌≤◌, Bool, true, false, List, ◌∷◌, [], ◌++◌, length, refl, sym, ap, ◌∙◌, arith, Result, Ok, Err}
use Rattle.std.specs.Result.{OnOk, is_err}
use Rattle.std.proofs.lemmas.Bool.{both_ways}
use Rattle.std.proofs.lemmas.List.{same_from_push}
use Rattle.batch_model.specs.Batch.{Change}
use Rattle.view_model.specs.Forest.{is_prefix, payload}
use Rattle.view_model.specs.Calls.{number_limit, MayCommit}
use Rattle.view_model.proofs.Prefixes.{proper_not_itself}
use Rattle.view_stack.specs.declared.slot.Kept.{Kept}
use Rattle.view_stack.specs.declared.slot.Kept.TheVariants.{Committed, Invalid, Closed}
use Rattle.view_stack.specs.Slots.{TreeState}
use Rattle.view_stack.specs.Tree.{slot_at, kept_at, live_at, is_live_kept, kept_weight, added, added_committed, taken}
use Rattle.view_stack.specs.Links.{parent_at, IsOpen, IsOn, IsSound}
use Rattle.view_stack.specs.Paths.{path_by, tree_path}
use Rattle.view_stack.specs.EndedViews.{Ends, IsOver, IsBeside}
use Rattle.view_stack.specs.Forests.{forest_of, IsTree, IsStack}
use Rattle.view_stack.proofs.WrittenViews.{live_has, length-with_slot, length-with_more}
use Rattle.view_stack.proofs.Weights.{lighter}
use Rattle.view_stack.proofs.Paths.{tree_path-step, live_ahead}
use Rattle.view_stack.proofs.ManyViewsEnd.{count_same, ends_then}
use Rattle.view_stack.proofs.OneViewEnds.{dead_weight}
use Rattle.view_stack.proofs.LinksAfterCommit.{IsOnly, sound_taken, sound_direct}
use Rattle.view_stack.proofs.AddedViews.{added_is, sound_added}
use Rattle.view_stack.proofs.Forests.{path_of-forest, store-forest}
use Rattle.view_stack.proofs.ClosedViews.{marked_closed}
use Rattle.view_stack.proofs.Commits.{marked_taken}
use Rattle.view_stack.proofs.ForestGrowth.{marked_direct, marked_made}
use Rattle.view_stack.proofs.Refusals.{live_in_tree, IsWithin}

-- what ends weighs no more
pub weight_falls : {mark : Kept} {P : ℕ → Type 0} (t u : TreeState) → is_live_kept mark ≡ false → IsSound t → IsSound u → Ends mark P t u → u.weight ≤ t.weight
weight_falls {mark} {P} t u dead sound after e = omega (arith, sound.weighs, after.weighs, lighter t u (count_same t u e.parents_stay) each)
  where
    each : (n : ℕ) → kept_weight (kept_at u n) ≤ kept_weight (kept_at t n)
    each n = elim (e.kept n) [ inl same ↦ omega (arith, ap kept_weight same) | inr ended ↦ omega (arith, ap kept_weight ended.2, dead_weight mark dead) ]

-- ---- closing

pub stack_closed : (t u : TreeState) (room n : ℕ) → IsStack t room → IsSound u → live_at t n ≡ true → live_at u n ≡ false → Ends Closed (IsOver t n) t u → IsStack u room
stack_closed t u room n stack sound live dead e =
    let tree = stack.tree in
    let count = count_same t u e.parents_stay in
    record {
      tree = record {
        sound = sound;
        marked = marked_closed t u n tree.sound.linked.rooted sound.linked.rooted tree.marked live dead e;
        few = omega (arith, tree.few, count);
        light = omega (arith, tree.light, weight_falls t u refl tree.sound sound e);
      };
      one = stack.one;
      spare = omega (arith, stack.spare, count, e.capacity);
    }

-- ---- a commit

-- a view that may be committed is live on the store
pub next_on : (t : TreeState) (n : ℕ) → IsTree t → MayCommit (forest_of t) n → IsOn t t.last n
next_on t n tree may =
    let live = live_in_tree t n tree may.0 in
    let has = live_has t n live in
    let r = tree.sound.linked.rooted in
    let way : tree_path t (parent_at t n) ++ n ∷ [] ≡ tree_path t t.last ++ n ∷ [] =
    sym (tree_path-step t r.below n has) ∙ (sym (path_of-forest t n r.below has) ∙ (may.1 ∙ ap (λ p. p ++ n ∷ []) (store-forest t))) in
    record { live = live; parent = on_last live (same_from_push (tree_path t (parent_at t n)) (tree_path t t.last) n n way).0 }
  where
    on_last : live_at t n ≡ true → tree_path t (parent_at t n) ≡ tree_path t t.last → parent_at t n ≡ t.last
    on_last alive e = go (tree.sound.linked.rooted.stands n alive)
      where
        go : IsOpen t (parent_at t n) → parent_at t n ≡ t.last
        go (inl same) = same
        go (inr up) = absurd (proper_not_itself (tree_path t t.last) (tree_path t (parent_at t n)) (live_ahead t tree.sound.linked.rooted (parent_at t n) up) e)

pub ends_both : (t u v : TreeState) (n : ℕ) → Ends Invalid (IsBeside t n) t u → Ends Invalid (IsBeside u n) u v → Ends Invalid (IsBeside t n) t v
ends_both t u v n e d = ends_then t u v refl e d (λ m beside some. ap (λ ps. is_prefix (path_by ps n) (path_by ps m)) (sym e.parents_stay) ∙ beside some)

pub stack_taken : (t v : TreeState) (room n : ℕ) → IsStack t room → IsSound v → IsOnly v n → Ends Invalid (IsBeside t n) t v → IsStack (taken v n) room
stack_taken t v room n stack sound only e =
    let tree = stack.tree in
    let count = count_same t v e.parents_stay in
    let long = length-with_slot v n (record (slot_at v.slots n) { kept = Committed }) in
    record {
      tree = record {
        sound = sound_taken v n sound only;
        marked = marked_taken t v n tree.sound.linked.rooted tree.marked sound only e;
        few = omega (arith, tree.few, count, long);
        light = omega (arith, tree.light, weight_falls t v refl tree.sound sound e);
      };
      one = stack.one;
      spare = omega (arith, stack.spare, count, long, e.capacity);
    }

-- ---- a direct batch

pub stack_direct : (t v : TreeState) (room : ℕ) → IsStack t room → length t.slots < number_limit → 0 < room → IsSound v → v.top ≡ 0 → Ends Invalid (IsBeside t 0) t v → IsStack (added_committed v) (room - 1)
stack_direct t v room stack few some sound empty e =
    let tree = stack.tree in
    let count = count_same t v e.parents_stay in
    let long = length-with_more v (record { parent = v.last; first = 0; next = 0; prev = 0; kept = Committed }) in
    record {
      tree = record {
        sound = sound_direct v sound empty;
        marked = marked_direct t v tree.sound.linked.rooted tree.marked sound empty e;
        few = omega (arith, few, count, long);
        light = omega (arith, tree.light, weight_falls t v refl tree.sound sound e);
      };
      one = omega (arith, stack.one);
      spare = omega (arith, stack.spare, count, long, e.capacity, some);
    }

-- ---- a view more

-- more memory changes nothing else
pub tree_reserved : (t : TreeState) (capacity : ℕ) → IsTree t → IsTree (record t { capacity = capacity })
tree_reserved t capacity tree =
    let link = tree.sound.linked in
    let r = link.rooted in
    record {
      sound = record {
        linked = record {
          rooted = record { known = r.known; done = r.done; below = λ n h. r.below n (record { given = h.given; within = h.within }); stands = r.stands };
          highest = link.highest;
          first = λ p on some. (let h = link.first p on some in record { live = h.live; parent = h.parent });
          next = λ n live some. (let h = link.next n live some in (record { live = h.0.live; parent = h.0.parent }, h.1));
          lower = λ n m live on l. link.lower n m live (record { live = on.live; parent = on.parent }) l;
          prev = λ n live some. (let h = link.prev n live some in (record { live = h.0.live; parent = h.0.parent }, h.1));
          none = link.none;
        };
        weighs = tree.sound.weighs;
      };
      marked = record {
        committed = λ n h. tree.marked.committed n (record { given = h.given; within = h.within });
        invalid = λ n h. tree.marked.invalid n (record { given = h.given; within = h.within });
      };
      few = tree.few;
      light = tree.light;
    }

pub forest_reserved : (t : TreeState) (capacity : ℕ) → forest_of (record t { capacity = capacity }) ≡ forest_of t
unfolding forest_of
forest_reserved t capacity = refl

pub stack_made : (t : TreeState) (p room : ℕ) (k : Kept) (changes : List Change) → IsTree t → room ≤ 1 → length t.slots + (room + 1) ≤ t.capacity → IsOpen t p → is_live_kept k ≡ true → kept_weight k ≡ payload changes → IsWithin t changes → IsStack (added t p k) room
stack_made t p room k changes tree one spare on alive weighs within =
    let is = added_is t p k tree.sound.linked on in
    record {
      tree = record {
        sound = sound_added t p k tree.sound on alive;
        marked = marked_made t p k tree.sound tree.marked on alive;
        few = omega (arith, within.few, is.count);
        light = omega (arith, within.light, weighs);
      };
      one = one;
      spare = omega (arith, spare, is.count, is.capacity);
    }

-- one on the store stays where there is one
pub some_on : (t u : TreeState) (n : ℕ) → IsOn t t.last n → (n ≡ 0) ⊎ IsOn u u.last n → IsOn u u.last n
some_on t u n on (inl none) = absurd (let has = live_has t n on.live in omega (arith, none, has.given))
some_on t u n on (inr is) = is

pub stack_reserved : (t : TreeState) (capacity room : ℕ) → IsStack t room → t.capacity ≤ capacity → IsStack (record t { capacity = capacity }) room
stack_reserved t capacity room stack more = record { tree = tree_reserved t capacity stack.tree; one = stack.one; spare = omega (arith, stack.spare, more) }

-- with room for one that was not there
pub stack_with_room : (t : TreeState) (capacity : ℕ) → IsTree t → length t.slots + 1 ≤ capacity → IsStack (record t { capacity = capacity }) 1
stack_with_room t capacity tree more = record { tree = tree_reserved t capacity tree; one = omega arith; spare = more }

-- a call that did not fail
pub went_well : {A E : Type 0} {P : Type 0} (r : Result A E) (failed : Bool) → failed ≡ is_err r → failed ≡ false → OnOk r P → P
went_well {A} {E} {P} (Ok x) failed e f h = h
went_well {A} {E} {P} (Err x) failed e f h = absurd (both_ways failed f e)
