-- What a view more, or a direct batch, makes of the forest.
use Rattle.std.proofs.Common.{◌≡◌, ◌≢◌, ◌↔◌, inl, inr, ℕ, suc, ◌+◌, ◌<◌, ◌≤◌, Bool, true, false, cond, List, [], ◌∷◌, ◌++◌, map, length, refl, sym, ap, ◌∙◌, subst, arith, Option, Some, None, get_or}
use Rattle.std.proofs.lemmas.Bool.{both_ways, false_from_ne_true, true_from_ne_false, cases_eq}
use Rattle.std.proofs.lemmas.List.{map_push, map-id, length-map}
use Rattle.batch_model.specs.Batch.{Change}
use Rattle.view_model.specs.Forest.{View, Forest, is_prefix, is_proper_prefix, is_among, state_of, is_live, next_number}
use Rattle.view_model.specs.Calls.{directed, made, kept_by, parent_path}
use Rattle.view_model.proofs.States.{committed_from}
use Rattle.view_model.proofs.Prefixes.{after_prefix, proper_parts, among_more, among_last, not_among_more}
use Rattle.view_stack.specs.declared.slot.Slot.{Slot}
use Rattle.view_stack.specs.declared.slot.Kept.{Kept}
use Rattle.view_stack.specs.declared.slot.Kept.TheVariants.{Committed, Invalid}
use Rattle.view_stack.specs.Slots.{TreeState}
use Rattle.view_stack.specs.Tree.{Has, no_slot, slot_at, first_on, kept_at, is_live_kept, linked_to, added, added_committed}
use Rattle.view_stack.specs.Links.{parent_at, IsOpen, IsRooted, IsSound}
use Rattle.view_stack.specs.Paths.{parents, path_by, tree_path}
use Rattle.view_stack.specs.EndedViews.{Ends, IsBeside}
use Rattle.view_stack.specs.Forests.{kept_batch, is_closed, kept_state, view_in, views_from, forest_of, IsMarked}
use Rattle.view_stack.proofs.WrittenViews.{open_within, same_parents, slot_at-more, slot_at-last, length-with_more}
use Rattle.view_stack.proofs.Paths.{AreBelow, before, path_by-push, tree_path-step, among_below}
use Rattle.view_stack.proofs.ManyViewsEnd.{count_same, parent_same}
use Rattle.view_stack.proofs.AddedViews.{Added, linked_to_open, added_is, sound_added}
use Rattle.view_stack.proofs.RelinkedViews.{SameViews}
use Rattle.view_stack.proofs.LinksAfterCommit.{sound_direct}
use Rattle.view_stack.proofs.Commits.{After, view_after}
use Rattle.view_stack.proofs.Forests.{tree_view, view_as, same_forest, views_same, views-more, count-forest, is_live_state, state-view}

-- ---- paths with one parent more

pub tree_path-more : (t u : TreeState) (q m : ℕ) → AreBelow t → parents u.slots ≡ parents t.slots ++ q ∷ [] → m ≤ length t.slots → tree_path u m ≡ tree_path t m
tree_path-more t u q m below e l =
    ap (λ ps. path_by ps m) e ∙ path_by-push (parents t.slots) q (before t below) m (omega (arith, l, length-map t.slots (λ (s : Slot). s.parent)))

-- a path that goes on by a new number is no part of one that was there
pub new_number : (t : TreeState) (n m : ℕ) (xs : List ℕ) → AreBelow t → m ≤ length t.slots → m < n → is_prefix (xs ++ n ∷ []) (tree_path t m) ≡ false
new_number t n m xs below w l = false_from_ne_true _ (λ h. go (after_prefix (xs ++ n ∷ []) (tree_path t m) h))
  where
    go : (rest : List ℕ) × (tree_path t m ≡ (xs ++ n ∷ []) ++ rest) → ⊥
    go (rest, e) =
        let among : is_among n (tree_path t m) ≡ true = ap (is_among n) e ∙ among_more n (xs ++ n ∷ []) rest (among_last n xs) in
        omega (arith, l, (among_below t below n m w among).0)

-- ---- a direct batch

module _ (t v : TreeState) (r : IsRooted t) (marked : IsMarked t) (s : IsSound v) (empty : v.top ≡ 0) (e : Ends Invalid (IsBeside t 0) t v) where
  after : IsSound (added_committed v)
  after = sound_direct v s empty

  same_count : length v.slots ≡ length t.slots
  same_count = count_same t v e.parents_stay

  parents_more : parents (added_committed v).slots ≡ parents t.slots ++ t.last ∷ []
  parents_more = map_push (λ (x : Slot). x.parent) v.slots _ ∙ (ap (λ ps. ps ++ v.last ∷ []) e.parents_stay ∙ ap (λ k. parents t.slots ++ k ∷ []) e.last)

  low : (m : ℕ) → m ≤ length t.slots → slot_at (added_committed v).slots m ≡ slot_at v.slots m
  low m l = slot_at-more v _ m (omega (arith, l, same_count))

  new : slot_at (added_committed v).slots (length v.slots + 1) ≡ record { parent = v.last; first = 0; next = 0; prev = 0; kept = Committed }
  new = slot_at-last v _ (length v.slots + 1) refl

  paths : (m : ℕ) → m ≤ length t.slots → tree_path (added_committed v) m ≡ tree_path t m
  paths m l = tree_path-more t (added_committed v) t.last m r.below parents_more l

  has_new : Has (added_committed v) (length v.slots + 1)
  has_new = record { given = omega arith; within = omega (arith, length-with_more v (record { parent = v.last; first = 0; next = 0; prev = 0; kept = Committed })) }

  store : tree_path (added_committed v) (length v.slots + 1) ≡ tree_path t t.last ++ (length v.slots + 1) ∷ []
  store =
      tree_path-step (added_committed v) after.linked.rooted.below (length v.slots + 1) has_new
      ∙ ap (λ p. p ++ (length v.slots + 1) ∷ []) (ap (λ (x : Slot). tree_path (added_committed v) x.parent) new ∙ (ap (tree_path (added_committed v)) e.last ∙ paths t.last r.known))

  kept_of : (m : ℕ) → After (kept_at t m) (kept_at v m)
  kept_of m = elim (e.kept m) [ inl k ↦ inl k | inr ended ↦ inr (ended.0, inl ended.2) ]

  is_old : (m : ℕ) → Has (added_committed v) m → m ≢ length v.slots + 1 → m ≤ length t.slots
  is_old m h apart = omega (arith, h.within, same_count, apart, length-with_more v (record { parent = v.last; first = 0; next = 0; prev = 0; kept = Committed }))

  kept_old : (m : ℕ) → m ≤ length t.slots → kept_at (added_committed v) m ≡ kept_at v m
  kept_old m l = ap (λ (x : Slot). x.kept) (low m l)

  committed_to : (m : ℕ) → Has (added_committed v) m → kept_at (added_committed v) m ≡ Committed → is_among m (tree_path t t.last ++ (length v.slots + 1) ∷ []) ≡ true
  committed_to m h is = elim (cases_eq m (length v.slots + 1)) [
    | inl here ↦ subst (λ k. is_among k (tree_path t t.last ++ (length v.slots + 1) ∷ []) ≡ true) (sym here) (among_last (length v.slots + 1) (tree_path t t.last))
    | inr apart ↦ old (is_old m h apart)
  ]
    where
      old : m ≤ length t.slots → is_among m (tree_path t t.last ++ (length v.slots + 1) ∷ []) ≡ true
      old l = elim (e.kept m) [
        | inl k ↦ among_more m (tree_path t t.last) _ ((marked.committed m (record { given = h.given; within = l })).0 (sym k ∙ (sym (kept_old m l) ∙ is)))
        | inr ended ↦ (let no : Invalid ≡ Committed = sym ended.2 ∙ (sym (kept_old m l) ∙ is) in absurd (cc))
      ]

  committed_back : (m : ℕ) → Has (added_committed v) m → is_among m (tree_path t t.last ++ (length v.slots + 1) ∷ []) ≡ true → kept_at (added_committed v) m ≡ Committed
  committed_back m h among = elim (cases_eq m (length v.slots + 1)) [ inl here ↦ ap (kept_at (added_committed v)) here ∙ ap (λ (x : Slot). x.kept) new | inr apart ↦ old apart (is_old m h apart) ]
    where
      old : m ≢ length v.slots + 1 → m ≤ length t.slots → kept_at (added_committed v) m ≡ Committed
      old apart l =
          let among_store : is_among m (tree_path t t.last) ≡ true = true_from_ne_false _ (λ no. both_ways _ (not_among_more m (length v.slots + 1) (tree_path t t.last) no apart) among) in
          let was = (marked.committed m (record { given = h.given; within = l })).1 among_store in
          elim (e.kept m) [ inl k ↦ kept_old m l ∙ (k ∙ was) | inr ended ↦ absurd (both_ways _ (ap is_live_kept was) ended.0) ]

  invalid_more : (m : ℕ) → Has (added_committed v) m → kept_at (added_committed v) m ≡ Invalid → is_proper_prefix (tree_path t t.last ++ (length v.slots + 1) ∷ []) (tree_path (added_committed v) m) ≡ false
  invalid_more m h is = elim (cases_eq m (length v.slots + 1)) [
    | inl here ↦ (let no : Committed ≡ Invalid = sym (ap (kept_at (added_committed v)) here ∙ ap (λ (x : Slot). x.kept) new) ∙ is in absurd (cc))
    | inr apart ↦ old (is_old m h apart)
  ]
    where
      old : m ≤ length t.slots → is_proper_prefix (tree_path t t.last ++ (length v.slots + 1) ∷ []) (tree_path (added_committed v) m) ≡ false
      old l =
          ap (is_proper_prefix (tree_path t t.last ++ (length v.slots + 1) ∷ [])) (paths m l)
          ∙ false_from_ne_true _ (λ yes. both_ways _ (new_number t (length v.slots + 1) m (tree_path t t.last) r.below l (omega (arith, l, same_count))) (proper_parts _ (tree_path t m) yes).0)

  pub marked_direct : IsMarked (added_committed v)
  marked_direct = record {
    committed = λ m h. ((λ is. ap (is_among m) store ∙ committed_to m h is), (λ among. committed_back m h (sym (ap (is_among m) store) ∙ among)));
    invalid = λ m h is. ap (λ p. is_proper_prefix p (tree_path (added_committed v) m)) store ∙ invalid_more m h is;
  }

  -- the views that were there
  view_direct : (m : ℕ) → Has t m → view_in (parents (added_committed v).slots) m (slot_at v.slots m) ≡ kept_by (tree_path (added_committed v) (length v.slots + 1)) (tree_view t m)
  view_direct m h =
      let is : view_in (parents (added_committed v).slots) m (slot_at v.slots m) ≡ view_as m (tree_path t (parent_at t m)) (kept_at v m) =
      ap (λ p. view_as m p (kept_at v m)) (ap (tree_path (added_committed v)) (parent_same t v m e.parents_stay h) ∙ paths (parent_at t m) (omega (arith, r.below m h, h.within))) in
      let here : tree_view (added_committed v) m ≡ view_in (parents (added_committed v).slots) m (slot_at v.slots m) = ap (view_in (parents (added_committed v).slots) m) (low m h.within) in
      let state = state-view (added_committed v) m after.linked.rooted marked_direct (record { given = h.given; within = omega (arith, h.within, same_count, length-with_more v (record { parent = v.last; first = 0; next = 0; prev = 0; kept = Committed })) }) in
      is ∙ view_after (tree_path (added_committed v) (length v.slots + 1)) (tree_path t (parent_at t m)) m (kept_at t m) (kept_at v m) (kept_of m)
      (ap (state_of (tree_path (added_committed v) (length v.slots + 1))) (sym (here ∙ is)) ∙ (state ∙ ap kept_state (kept_old m h.within)))

  pub forest_direct : forest_of (added_committed v) ≡ directed (forest_of t)
  unfolding forest_of
  forest_direct =
      same_forest store (views-more v (parents (added_committed v).slots) _ ∙ (ap (λ vs. vs ++ view_in (parents (added_committed v).slots) (length v.slots + 1) (record { parent = v.last; first = 0; next = 0; prev = 0; kept = Committed }) ∷ []) old ∙ (ap (λ w. map (kept_by (tree_path (added_committed v) (length v.slots + 1))) (forest_of t).views ++ w ∷ []) last ∙ (sym (map_push (kept_by (tree_path (added_committed v) (length v.slots + 1))) (forest_of t).views (more_view (length v.slots + 1))) ∙ ap (λ q. map (kept_by q) ((forest_of t).views ++ more_view (length v.slots + 1) ∷ [])) store))))
      ∙ ap target number
    where
      more_view : ℕ → View
      more_view n = record { number = n; parent = (forest_of t).store; batch = Some []; closed = false }

      target : ℕ → Forest
      target n = let q : List ℕ = (forest_of t).store ++ n ∷ [] in record { store = q; views = map (kept_by q) ((forest_of t).views ++ record { number = n; parent = (forest_of t).store; batch = Some []; closed = false } ∷ []) }

      number : length v.slots + 1 ≡ next_number (forest_of t)
      number = omega (arith, same_count, count-forest t)

      one_more : (i : ℕ) → 1 + i ≡ suc i
      one_more i = omega arith

      old : views_from (parents (added_committed v).slots) 1 v.slots ≡ map (kept_by (tree_path (added_committed v) (length v.slots + 1))) (forest_of t).views
      old = views_same (parents t.slots) (parents (added_committed v).slots) (kept_by (tree_path (added_committed v) (length v.slots + 1))) 1 t.slots v.slots same_count (λ i w.
          ap (λ n. view_in (parents (added_committed v).slots) n (get_or v.slots i no_slot)) (one_more i)
          ∙ (view_direct (suc i) (record { given = omega arith; within = omega (arith, w) }) ∙ ap (λ n. kept_by (tree_path (added_committed v) (length v.slots + 1)) (view_in (parents t.slots) n (get_or t.slots i no_slot))) (sym (one_more i))))

      among : is_among (length v.slots + 1) (tree_path (added_committed v) (length v.slots + 1)) ≡ true
      among = ap (is_among (length v.slots + 1)) store ∙ among_last (length v.slots + 1) (tree_path t t.last)

      not_live : is_live (tree_path (added_committed v) (length v.slots + 1)) (record { number = length v.slots + 1; parent = (forest_of t).store; batch = Some []; closed = false }) ≡ false
      not_live = ap is_live_state (committed_from (tree_path (added_committed v) (length v.slots + 1)) (record { number = length v.slots + 1; parent = (forest_of t).store; batch = Some []; closed = false }) among)

      last : view_in (parents (added_committed v).slots) (length v.slots + 1) (record { parent = v.last; first = 0; next = 0; prev = 0; kept = Committed }) ≡ kept_by (tree_path (added_committed v) (length v.slots + 1)) (record { number = length v.slots + 1; parent = (forest_of t).store; batch = Some []; closed = false })
      last =
          ap (λ p. view_as (length v.slots + 1) p Committed) (ap (tree_path (added_committed v)) e.last ∙ paths t.last r.known)
          ∙ ap (λ (b : Bool). with_batch (cond b (Some []) None)) (sym not_live)
        where
          with_batch : Option (List Change) → View
          with_batch b = record { number = length v.slots + 1; parent = (forest_of t).store; batch = b; closed = false }

-- ---- a view more

module _ (t : TreeState) (p : ℕ) (k : Kept) (sound : IsSound t) (marked : IsMarked t) (on : IsOpen t p) (alive : is_live_kept k ≡ true) where
  made_sound : IsSound (added t p k)
  made_sound = sound_added t p k sound on alive

  views_same_links : SameViews t (linked_to t p (length t.slots + 1))
  views_same_links = (linked_to_open t p (length t.slots + 1) sound.linked on).views

  parents_made : parents (added t p k).slots ≡ parents t.slots ++ p ∷ []
  parents_made = map_push (λ (x : Slot). x.parent) (linked_to t p (length t.slots + 1)).slots _ ∙ ap (λ ps. ps ++ p ∷ []) (same_parents t (linked_to t p (length t.slots + 1)) views_same_links.count views_same_links.parent)

  paths_made : (m : ℕ) → m ≤ length t.slots → tree_path (added t p k) m ≡ tree_path t m
  paths_made m l = tree_path-more t (added t p k) p m sound.linked.rooted.below parents_made l

  store_made : tree_path (added t p k) (added t p k).last ≡ tree_path t t.last
  store_made = ap (tree_path (added t p k)) views_same_links.last ∙ paths_made t.last sound.linked.rooted.known

  is : Added t (added t p k) p (length t.slots + 1) k
  is = added_is t p k sound.linked on

  was_made : (m : ℕ) → Has (added t p k) m → m ≢ length t.slots + 1 → m ≤ length t.slots
  was_made m h apart = omega (arith, h.within, apart, is.count)

  committed_made : (m : ℕ) → Has (added t p k) m → (kept_at (added t p k) m ≡ Committed) ↔ (is_among m (tree_path t t.last) ≡ true)
  committed_made m h = elim (cases_eq m (length t.slots + 1)) [ inl here ↦ at_it here | inr apart ↦ old (was_made m h apart) ]
    where
      at_it : m ≡ length t.slots + 1 → (kept_at (added t p k) m ≡ Committed) ↔ (is_among m (tree_path t t.last) ≡ true)
      at_it here = (
        (λ c. absurd (both_ways (is_live_kept k) (ap is_live_kept (sym is.new_kept ∙ (ap (kept_at (added t p k)) (sym here) ∙ c))) alive)),
        (λ among. absurd (omega (arith, here, sound.linked.rooted.known, (among_below t sound.linked.rooted.below m t.last sound.linked.rooted.known among).0))),
      )

      old : m ≤ length t.slots → (kept_at (added t p k) m ≡ Committed) ↔ (is_among m (tree_path t t.last) ≡ true)
      old l =
          let same : kept_at (added t p k) m ≡ kept_at t m = is.kept m (omega arith) in
          let was = marked.committed m (record { given = h.given; within = l }) in
          ((λ c. was.0 (sym same ∙ c)), (λ among. same ∙ was.1 among))

  invalid_made : (m : ℕ) → Has (added t p k) m → kept_at (added t p k) m ≡ Invalid → is_proper_prefix (tree_path t t.last) (tree_path (added t p k) m) ≡ false
  invalid_made m h c = elim (cases_eq m (length t.slots + 1)) [ inl here ↦ absurd (both_ways (is_live_kept k) (ap is_live_kept (sym is.new_kept ∙ (ap (kept_at (added t p k)) (sym here) ∙ c))) alive) | inr apart ↦ old (was_made m h apart) ]
    where
      old : m ≤ length t.slots → is_proper_prefix (tree_path t t.last) (tree_path (added t p k) m) ≡ false
      old l = ap (is_proper_prefix (tree_path t t.last)) (paths_made m l) ∙ marked.invalid m (record { given = h.given; within = l }) (sym (is.kept m (omega arith)) ∙ c)

  pub marked_made : IsMarked (added t p k)
  marked_made = record {
    committed = λ m h. ((λ c. ap (is_among m) store_made ∙ (committed_made m h).0 c), (λ among. (committed_made m h).1 (sym (ap (is_among m) store_made) ∙ among)));
    invalid = λ m h c. ap (λ q. is_proper_prefix q (tree_path (added t p k) m)) store_made ∙ invalid_made m h c;
  }

  view_made : (m : ℕ) → Has t m → view_in (parents (added t p k).slots) m (slot_at (linked_to t p (length t.slots + 1)).slots m) ≡ tree_view t m
  view_made m h =
      ap (λ q. view_as m q (kept_at (linked_to t p (length t.slots + 1)) m)) (ap (tree_path (added t p k)) (views_same_links.parent m) ∙ paths_made (parent_at t m) (omega (arith, sound.linked.rooted.below m h, h.within)))
      ∙ ap (view_as m (tree_path t (parent_at t m))) (views_same_links.kept m)

  pub forest_made : (parent : Option ℕ) (batch : List Change) → tree_path t p ≡ parent_path (forest_of t) parent → kept_batch k ≡ Some batch → is_closed k ≡ false → forest_of (added t p k) ≡ made (forest_of t) parent batch
  unfolding forest_of
  forest_made parent batch way holds opened =
      same_forest store_made (views-more (linked_to t p (length t.slots + 1)) (parents (added t p k).slots) _ ∙ (ap (λ vs. vs ++ view_in (parents (added t p k).slots) (length (linked_to t p (length t.slots + 1)).slots + 1) (record { parent = p; first = 0; next = first_on t p; prev = 0; kept = k }) ∷ []) old ∙ ap (λ w. (forest_of t).views ++ w ∷ []) last))
    where
      one_more : (i : ℕ) → 1 + i ≡ suc i
      one_more i = omega arith

      old : views_from (parents (added t p k).slots) 1 (linked_to t p (length t.slots + 1)).slots ≡ (forest_of t).views
      old = views_same (parents t.slots) (parents (added t p k).slots) (λ v. v) 1 t.slots (linked_to t p (length t.slots + 1)).slots views_same_links.count (λ i w.
          ap (λ n. view_in (parents (added t p k).slots) n (get_or (linked_to t p (length t.slots + 1)).slots i no_slot)) (one_more i)
          ∙ (view_made (suc i) (record { given = omega arith; within = omega (arith, w) }) ∙ ap (λ n. view_in (parents t.slots) n (get_or t.slots i no_slot)) (sym (one_more i))))
          ∙ map-id (forest_of t).views

      number : length (linked_to t p (length t.slots + 1)).slots + 1 ≡ next_number (forest_of t)
      number = omega (arith, views_same_links.count, count-forest t)

      with_all : ℕ → List ℕ → Option (List Change) → Bool → View
      with_all n q b c = record { number = n; parent = q; batch = b; closed = c }

      last : view_in (parents (added t p k).slots) (length (linked_to t p (length t.slots + 1)).slots + 1) (record { parent = p; first = 0; next = first_on t p; prev = 0; kept = k }) ≡ record { number = next_number (forest_of t); parent = parent_path (forest_of t) parent; batch = Some batch; closed = false }
      last =
          ap (λ n. with_all n (tree_path (added t p k) p) (kept_batch k) (is_closed k)) number
          ∙ (ap (λ q. with_all (next_number (forest_of t)) q (kept_batch k) (is_closed k)) (paths_made p (open_within t p sound.linked.rooted.known on) ∙ way)
          ∙ (ap (λ b. with_all (next_number (forest_of t)) (parent_path (forest_of t) parent) b (is_closed k)) holds ∙ ap (with_all (next_number (forest_of t)) (parent_path (forest_of t) parent) (Some batch)) opened))
