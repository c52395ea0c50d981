-- What closing makes of the forest.
use Rattle.std.proofs.Common.{◌≡◌, ◌↔◌, inl, inr, ℕ, Bool, true, false, cond, map, refl, sym, ap, ◌∙◌, arith, None}
use Rattle.std.proofs.lemmas.Bool.{both_ways}
use Rattle.view_model.specs.Forest.{path, is_prefix, is_proper_prefix, is_among}
use Rattle.view_model.specs.Calls.{closed, closed_by}
use Rattle.view_model.proofs.Prefixes.{proper_of_prefix, prefix_of_prefix}
use Rattle.view_stack.specs.declared.slot.Kept.{Kept}
use Rattle.view_stack.specs.declared.slot.Kept.TheVariants.{Live, Committed, Invalid, Closed}
use Rattle.view_stack.specs.Slots.{TreeState}
use Rattle.view_stack.specs.Tree.{Has, kept_at, live_at, is_live_kept}
use Rattle.view_stack.specs.Links.{parent_at, IsRooted}
use Rattle.view_stack.specs.Paths.{tree_path}
use Rattle.view_stack.specs.EndedViews.{Ends, IsOver}
use Rattle.view_stack.specs.Forests.{forest_of, IsMarked}
use Rattle.view_stack.proofs.WrittenViews.{live_has}
use Rattle.view_stack.proofs.Paths.{among_below, live_ahead, not_under}
use Rattle.view_stack.proofs.ManyViewsEnd.{ended_all, count_same, tree_path-ends}
use Rattle.view_stack.proofs.Forests.{tree_view, view_as, view_moved, path-view, path_of-forest, same_forest, same_views}

module _ (t u : TreeState) (n : ℕ) (r : IsRooted t) (s : IsRooted u) (marked : IsMarked t) (live : live_at t n ≡ true) (dead : live_at u n ≡ false) (e : Ends Closed (IsOver t n) t u) where
  -- what stands on a live view was live or closed, so now it is closed
  closed_above : (m : ℕ) → Has t m → IsOver t n m → kept_at u m ≡ Closed
  closed_above m h over = elim (e.kept m) [ inl same ↦ same ∙ by_kept (kept_at t m) refl same | inr ended ↦ ended.2 ]
    where
      by_kept : (k : Kept) → kept_at t m ≡ k → kept_at u m ≡ kept_at t m → kept_at t m ≡ Closed
      by_kept (Live batch) is same = absurd (ended_all t u n m r s e.parents_stay e.last live dead over (ap is_live_kept (same ∙ is)))
      by_kept Committed is same =
          let under = (among_below t r.below m t.last r.known ((marked.committed m h).0 is)).1 in
          absurd (not_under t r n live (prefix_of_prefix (tree_path t n) (tree_path t m) (tree_path t t.last) over under))
      by_kept Invalid is same = absurd (both_ways _ (marked.invalid m h is) (proper_of_prefix (tree_path t t.last) (tree_path t n) (tree_path t m) (live_ahead t r n live) over))
      by_kept Closed is same = is

  -- what does not is as before
  same_beside : (m : ℕ) → is_prefix (tree_path t n) (tree_path t m) ≡ false → kept_at u m ≡ kept_at t m
  same_beside m beside = elim (e.kept m) [ inl same ↦ same | inr ended ↦ absurd (both_ways _ beside ended.1) ]

  view_closed : (m : ℕ) → Has t m → tree_view u m ≡ closed_by (tree_path t n) (tree_view t m)
  view_closed m h = go (is_prefix (tree_path t n) (path (tree_view t m))) refl
    where
      go : (b : Bool) → is_prefix (tree_path t n) (path (tree_view t m)) ≡ b → tree_view u m ≡ cond b (record (tree_view t m) { batch = None; closed = true }) (tree_view t m)
      go true is = view_moved t u m e.parents_stay h ∙ ap (view_as m (tree_path t (parent_at t m))) (closed_above m h (ap (is_prefix (tree_path t n)) (sym (path-view t m r.below h)) ∙ is))
      go false is = view_moved t u m e.parents_stay h ∙ ap (view_as m (tree_path t (parent_at t m))) (same_beside m (ap (is_prefix (tree_path t n)) (sym (path-view t m r.below h)) ∙ is))

  pub forest_closed : forest_of u ≡ closed (forest_of t) n
  unfolding forest_of
  forest_closed =
      same_forest (tree_path-ends t u u.last e.parents_stay ∙ ap (tree_path t) e.last)
      (same_views t u (closed_by (tree_path t n)) (count_same t u e.parents_stay) view_closed ∙ ap (λ p. map (closed_by p) (forest_of t).views) (sym (path_of-forest t n r.below (live_has t n live))))

  -- and the marks still tell the states
  pub marked_closed : IsMarked u
  marked_closed = record { committed = committed; invalid = invalid }
    where
      store : tree_path u u.last ≡ tree_path t t.last
      store = tree_path-ends t u u.last e.parents_stay ∙ ap (tree_path t) e.last

      back : (m : ℕ) → Has u m → Has t m
      back m h = record { given = h.given; within = omega (arith, h.within, count_same t u e.parents_stay) }

      committed : (m : ℕ) → Has u m → (kept_at u m ≡ Committed) ↔ (is_among m (tree_path u u.last) ≡ true)
      committed m h = (to, from)
        where
          to : kept_at u m ≡ Committed → is_among m (tree_path u u.last) ≡ true
          to is = elim (e.kept m) [ inl same ↦ ap (is_among m) store ∙ (marked.committed m (back m h)).0 (sym same ∙ is) | inr ended ↦ (let no : Closed ≡ Committed = sym ended.2 ∙ is in absurd (cc)) ]

          from : is_among m (tree_path u u.last) ≡ true → kept_at u m ≡ Committed
          from among =
              let was = (marked.committed m (back m h)).1 (sym (ap (is_among m) store) ∙ among) in
              elim (e.kept m) [ inl same ↦ same ∙ was | inr ended ↦ absurd (both_ways _ (ap is_live_kept was) ended.0) ]

      invalid : (m : ℕ) → Has u m → kept_at u m ≡ Invalid → is_proper_prefix (tree_path u u.last) (tree_path u m) ≡ false
      invalid m h is = elim (e.kept m) [
        | inl same ↦ ap (λ q. is_proper_prefix q (tree_path u m)) store ∙ (ap (is_proper_prefix (tree_path t t.last)) (tree_path-ends t u m e.parents_stay) ∙ marked.invalid m (back m h) (sym same ∙ is))
        | inr ended ↦ (let no : Closed ≡ Invalid = sym ended.2 ∙ is in absurd (cc))
      ]
