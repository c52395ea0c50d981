-- What a commit makes of the forest.
use Rattle.std.proofs.Common.{◌≡◌, ◌≢◌, ◌⊎◌, inl, inr, ℕ, Bool, true, false, cond, List, [], ◌∷◌, ◌++◌, map, refl, sym, ap, ◌∙◌, subst, arith, Option, None, lit<}
use Rattle.std.proofs.lemmas.Bool.{both_ways, false_from_ne_true, true_from_ne_false, cases_eq, and_left}
use Rattle.batch_model.specs.Batch.{Change}
use Rattle.view_model.specs.Forest.{View, is_prefix, is_proper_prefix, is_among, state_of, is_live}
use Rattle.view_model.specs.Calls.{committed, kept_by}
use Rattle.view_model.proofs.Prefixes.{proper_parts, proper_shorter, among_more, among_last, not_among_more}
use Rattle.view_stack.specs.declared.slot.Kept.{Kept}
use Rattle.view_stack.specs.declared.slot.Kept.TheVariants.{Live, Committed, Invalid, Closed}
use Rattle.view_stack.specs.Slots.{TreeState}
use Rattle.view_stack.specs.Tree.{Has, slot_at, kept_at, live_at, is_live_kept, taken}
use Rattle.view_stack.specs.Links.{parent_at, IsOn, IsRooted, IsSound}
use Rattle.view_stack.specs.Paths.{parents, tree_path}
use Rattle.view_stack.specs.EndedViews.{Ends, IsBeside}
use Rattle.view_stack.specs.Forests.{kept_batch, is_closed, kept_state, forest_of, IsMarked}
use Rattle.view_stack.proofs.WrittenViews.{live_has, same_parents, length-with_slot}
use Rattle.view_stack.proofs.Paths.{tree_path-step}
use Rattle.view_stack.proofs.ManyViewsEnd.{count_same, has_same, tree_path-ends, was_on}
use Rattle.view_stack.proofs.LinksAfterCommit.{IsOnly, kept_other, kept_here, sound_taken}
use Rattle.view_stack.proofs.LinksAfterCommit as takes
use Rattle.view_stack.proofs.Forests.{tree_view, view_as, view_moved, same_forest, same_views, is_live_state, state-view}

-- what is kept of a view after a commit: the same, unless it was live
abbrev pub After : Kept → Kept → Type 0
After was now = (now ≡ was) ⊎ ((is_live_kept was ≡ true) × ((now ≡ Invalid) ⊎ (now ≡ Committed)))

live_open : (k : Kept) → is_live_kept k ≡ true → is_closed k ≡ false
live_open (Live batch) h = refl
live_open Committed h = absurd (cc)
live_open Invalid h = absurd (cc)
live_open Closed h = absurd (cc)

-- it is closed where it was
after_closed : (was now : Kept) → After was now → is_closed now ≡ is_closed was
after_closed was now (inl e) = ap is_closed e
after_closed was now (inr (h, inl e)) = ap is_closed e ∙ sym (live_open was h)
after_closed was now (inr (h, inr e)) = ap is_closed e ∙ sym (live_open was h)

live_batch : (k : Kept) → kept_batch k ≡ cond (is_live_state (kept_state k)) (kept_batch k) None
live_batch (Live batch) = refl
live_batch Committed = refl
live_batch Invalid = refl
live_batch Closed = refl

-- the changes of a view that is still live are as they were, and those of no other are kept
after_batch : (was now : Kept) → After was now → kept_batch now ≡ cond (is_live_state (kept_state now)) (kept_batch was) None
after_batch was now (inl e) = live_batch now ∙ ap (λ (k : Kept). cond (is_live_state (kept_state now)) (kept_batch k) None) e
after_batch was now (inr (h, inl e)) = subst (λ (k : Kept). kept_batch k ≡ cond (is_live_state (kept_state k)) (kept_batch was) None) (sym e) refl
after_batch was now (inr (h, inr e)) = subst (λ (k : Kept). kept_batch k ≡ cond (is_live_state (kept_state k)) (kept_batch was) None) (sym e) refl

pub view_after : (store parent : List ℕ) (m : ℕ) (was now : Kept) → After was now → state_of store (view_as m parent now) ≡ kept_state now → view_as m parent now ≡ kept_by store (view_as m parent was)
view_after store parent m was now after state =
    let told : is_live_state (kept_state now) ≡ is_live store (view_as m parent was) =
    ap is_live_state (sym state) ∙ ap (λ c. is_live store (record { number = m; parent = parent; batch = None; closed = c })) (after_closed was now after) in
    ap (λ (b : Option (List Change)). mk b (is_closed now)) (after_batch was now after)
    ∙ (ap (λ x. mk (cond x (kept_batch was) None) (is_closed now)) told ∙ ap (λ c. mk (cond (is_live store (view_as m parent was)) (kept_batch was) None) c) (after_closed was now after))
  where
    mk : Option (List Change) → Bool → View
    mk b c = record { number = m; parent = parent; batch = b; closed = c }

-- a view, where the path of the store went on
pub view_kept : (t u : TreeState) (m : ℕ) → parents u.slots ≡ parents t.slots → IsRooted u → IsMarked u → Has t m → After (kept_at t m) (kept_at u m) → tree_view u m ≡ kept_by (tree_path u u.last) (tree_view t m)
view_kept t u m e r marked h after =
    let moved : tree_view u m ≡ view_as m (tree_path t (parent_at t m)) (kept_at u m) = view_moved t u m e h in
    moved ∙ view_after (tree_path u u.last) (tree_path t (parent_at t m)) m (kept_at t m) (kept_at u m) after (ap (state_of (tree_path u u.last)) (sym moved) ∙ state-view u m r marked (has_same t u m e h))

-- ---- a view is committed

-- Every live view beside the one that is committed has ended, and then it was committed.
module _ (t v : TreeState) (n : ℕ) (r : IsRooted t) (marked : IsMarked t) (s : IsSound v) (only : IsOnly v n) (e : Ends Invalid (IsBeside t n) t v) where
  after : IsSound (taken v n)
  after = sound_taken v n s only

  same_v : parents (taken v n).slots ≡ parents v.slots
  same_v = same_parents v (taken v n) (length-with_slot v n (record (slot_at v.slots n) { kept = Committed })) (takes.parent_same v n s.linked only)

  same : parents (taken v n).slots ≡ parents t.slots
  same = same_v ∙ e.parents_stay

  on : IsOn t t.last n
  on = subst (λ p. IsOn t p n) e.last (was_on {mark = Invalid} {P = IsBeside t n} t v v.last n refl e only.on)

  has : Has t n
  has = live_has t n on.live

  store : tree_path (taken v n) n ≡ tree_path t t.last ++ n ∷ []
  store = tree_path-ends t (taken v n) n same ∙ (tree_path-step t r.below n has ∙ ap (λ p. tree_path t p ++ n ∷ []) on.parent)

  back : (m : ℕ) → Has (taken v n) m → Has t m
  back m h = record { given = h.given; within = omega (arith, h.within, count_same t (taken v n) same) }

  kept_of : (m : ℕ) → After (kept_at t m) (kept_at (taken v n) m)
  kept_of m = elim (cases_eq m n) [ inl here ↦ at_it here | inr apart ↦ beside apart ]
    where
      at_it : m ≡ n → After (kept_at t m) (kept_at (taken v n) m)
      at_it here = inr (ap (live_at t) here ∙ on.live, inr (ap (kept_at (taken v n)) here ∙ kept_here v n s.linked only))

      beside : m ≢ n → After (kept_at t m) (kept_at (taken v n) m)
      beside apart = elim (e.kept m) [ inl k ↦ inl (kept_other v n s.linked only m apart ∙ k) | inr ended ↦ inr (ended.0, inl (kept_other v n s.linked only m apart ∙ ended.2)) ]

  committed_to : (m : ℕ) → Has t m → kept_at (taken v n) m ≡ Committed → is_among m (tree_path t t.last ++ n ∷ []) ≡ true
  committed_to m h is = elim (cases_eq m n) [ inl here ↦ subst (λ k. is_among k (tree_path t t.last ++ n ∷ []) ≡ true) (sym here) (among_last n (tree_path t t.last)) | inr apart ↦ beside apart ]
    where
      beside : m ≢ n → is_among m (tree_path t t.last ++ n ∷ []) ≡ true
      beside apart = elim (e.kept m) [
        | inl k ↦ among_more m (tree_path t t.last) (n ∷ []) ((marked.committed m h).0 (sym k ∙ (sym (kept_other v n s.linked only m apart) ∙ is)))
        | inr ended ↦ (let no : Invalid ≡ Committed = sym ended.2 ∙ (sym (kept_other v n s.linked only m apart) ∙ is) in absurd (cc))
      ]

  committed_from : (m : ℕ) → Has t m → is_among m (tree_path t t.last ++ n ∷ []) ≡ true → kept_at (taken v n) m ≡ Committed
  committed_from m h among = elim (cases_eq m n) [ inl here ↦ ap (kept_at (taken v n)) here ∙ kept_here v n s.linked only | inr apart ↦ beside apart ]
    where
      before : m ≢ n → is_among m (tree_path t t.last) ≡ true
      before apart = true_from_ne_false _ (λ no. both_ways _ (not_among_more m n (tree_path t t.last) no apart) among)

      beside : m ≢ n → kept_at (taken v n) m ≡ Committed
      beside apart =
          let was = (marked.committed m h).1 (before apart) in
          elim (e.kept m) [ inl k ↦ kept_other v n s.linked only m apart ∙ (k ∙ was) | inr ended ↦ absurd (both_ways _ (ap is_live_kept was) ended.0) ]

  invalid_beside : (m : ℕ) → Has t m → kept_at (taken v n) m ≡ Invalid → is_proper_prefix (tree_path t t.last ++ n ∷ []) (tree_path t m) ≡ false
  invalid_beside m h is = elim (cases_eq m n) [ inl here ↦ (let no : Committed ≡ Invalid = sym (ap (kept_at (taken v n)) here ∙ kept_here v n s.linked only) ∙ is in absurd (cc)) | inr apart ↦ beside apart ]
    where
      way : tree_path t t.last ++ n ∷ [] ≡ tree_path t n
      way = sym (tree_path-step t r.below n has ∙ ap (λ p. tree_path t p ++ n ∷ []) on.parent)

      beside : m ≢ n → is_proper_prefix (tree_path t t.last ++ n ∷ []) (tree_path t m) ≡ false
      beside apart = elim (e.kept m) [
        | inl k ↦ (let was = marked.invalid m h (sym k ∙ (sym (kept_other v n s.linked only m apart) ∙ is)) in
            false_from_ne_true _ (λ yes. both_ways _ was (proper_shorter (tree_path t t.last) (n ∷ []) (tree_path t m) (proper_parts _ (tree_path t m) yes).0 (lit< tt))))
        | inr ended ↦ ap (λ p. is_proper_prefix p (tree_path t m)) way ∙ and_left (is_prefix (tree_path t n) (tree_path t m)) _ (ended.1 has.given)
      ]

  pub marked_taken : IsMarked (taken v n)
  marked_taken = record {
    committed = λ m h. ((λ is. ap (is_among m) store ∙ committed_to m (back m h) is), (λ among. committed_from m (back m h) (sym (ap (is_among m) store) ∙ among)));
    invalid = λ m h is. ap (λ p. is_proper_prefix p (tree_path (taken v n) m)) store ∙ (ap (is_proper_prefix (tree_path t t.last ++ n ∷ [])) (tree_path-ends t (taken v n) m same) ∙ invalid_beside m (back m h) is);
  }

  pub forest_taken : forest_of (taken v n) ≡ committed (forest_of t) n
  unfolding forest_of
  forest_taken =
      same_forest store
      (same_views t (taken v n) (kept_by (tree_path (taken v n) n)) (count_same t (taken v n) same) (λ m h. view_kept t (taken v n) m same after.linked.rooted marked_taken h (kept_of m))
      ∙ ap (λ p. map (kept_by p) (forest_of t).views) store)
