-- The views of the forest that a tree stands for.
use Rattle.std.proofs.Common.{◌≡◌, ℕ, zero, suc, ◌+◌, ◌<◌, ◌≤◌, Bool, true, false, cond, List, [], ◌∷◌, ◌++◌, map, length, refl, sym, ap, ◌∙◌, arith, get_or, Option, Some, None, option_map, unwrap_or}
use Rattle.std.specs.List.{sum_by}
use Rattle.std.proofs.lemmas.Bool.{eq-eqb, ne_eqb, false_from_ne_true}
use Rattle.std.proofs.lemmas.List.Sums.{sum_by-cons}
use Rattle.view_model.specs.Forest.{View, Forest, ViewState as State, Live as live, Committed as committed, Invalid as invalid, Closed as closed, path, is_proper_prefix, is_among, state_of, view_of, state, path_of, batch_payload, view_weight, weight}
use Rattle.view_model.proofs.States.{live_from, committed_from, closed_from, invalid_from}
use Rattle.view_model.proofs.Found.{found}
use Rattle.view_stack.specs.declared.slot.Slot.{Slot}
use Rattle.view_stack.specs.declared.slot.Kept.{Kept}
use Rattle.view_stack.specs.declared.slot.Kept.TheVariants.{Live, Committed, Invalid, Closed}
use Rattle.view_stack.specs.Slots.{TreeState}
use Rattle.view_stack.specs.Tree.{Has, no_slot, slot_at, kept_at, is_live_kept, kept_weight, slot_weight, held_weight}
use Rattle.view_stack.specs.Links.{parent_at, IsRooted, IsSound}
use Rattle.view_stack.specs.Paths.{parents, path_by, tree_path}
use Rattle.view_stack.specs.Forests.{kept_batch, is_closed, kept_state, view_in, views_from, forest_of, IsMarked}
use Rattle.view_stack.proofs.Paths.{AreBelow, tree_path-step, live_ahead}
use Rattle.view_stack.proofs.ManyViewsEnd.{parent_same}

-- ---- by their numbers

found_at : (ps : List ℕ) (k n i : ℕ) (slots : List Slot) → n ≡ k + i → i < length slots → found n (views_from ps k slots) ≡ Some (view_in ps n (get_or slots i no_slot))
found_at ps k n i [] e l = absurd (omega arith)
found_at ps k n zero (s ∷ slots) e l =
    let same : k ≡ n = omega (arith, e) in
    ap (λ b. cond b (Some (view_in ps k s)) (found n (views_from ps (suc k) slots))) (eq-eqb k n same) ∙ ap (λ m. Some (view_in ps m s)) same
found_at ps k n (suc i) (s ∷ slots) e l =
    ap (λ b. cond b (Some (view_in ps k s)) (found n (views_from ps (suc k) slots))) (ne_eqb k n (λ same. absurd (omega (arith, e, same))))
    ∙ found_at ps (suc k) n i slots (omega (arith, e)) (omega (arith, l))

found_none : (ps : List ℕ) (k n : ℕ) (slots : List Slot) → (k ≤ n → n < k + length slots → ⊥) → found n (views_from ps k slots) ≡ None
found_none ps k n [] h = refl
found_none ps k n (s ∷ slots) h =
    ap (λ b. cond b (Some (view_in ps k s)) (found n (views_from ps (suc k) slots))) (ne_eqb k n (λ same. h (omega (arith, same)) (omega (arith, same))))
    ∙ found_none ps (suc k) n slots (λ a b. h (omega (arith, a)) (omega (arith, b)))

-- the view of a number
abbrev pub tree_view : TreeState → ℕ → View
tree_view t n = view_in (parents t.slots) n (slot_at t.slots n)

pub view_of-forest : (t : TreeState) (n : ℕ) → Has t n → view_of (forest_of t) n ≡ Some (tree_view t n)
unfolding forest_of
view_of-forest t zero h = absurd (omega (arith, h.given))
view_of-forest t (suc i) h = found_at (parents t.slots) 1 (suc i) i t.slots (omega arith) (omega (arith, h.within))

pub view_of-none : (t : TreeState) (n : ℕ) → (Has t n → ⊥) → view_of (forest_of t) n ≡ None
unfolding forest_of
view_of-none t n h = found_none (parents t.slots) 1 n t.slots (λ a b. h (record { given = omega (arith, a); within = omega (arith, b) }))

pub store-forest : (t : TreeState) → (forest_of t).store ≡ tree_path t t.last
unfolding forest_of
store-forest t = refl

length-views_from : (ps : List ℕ) (k : ℕ) (slots : List Slot) → length (views_from ps k slots) ≡ length slots
length-views_from ps k [] = refl
length-views_from ps k (s ∷ slots) = omega (arith, length-views_from ps (suc k) slots)

pub count-forest : (t : TreeState) → length (forest_of t).views ≡ length t.slots
unfolding forest_of
count-forest t = length-views_from (parents t.slots) 1 t.slots

-- ---- paths and states

pub path-view : (t : TreeState) (n : ℕ) → AreBelow t → Has t n → path (tree_view t n) ≡ tree_path t n
path-view t n below h = sym (tree_path-step t below n h)

pub path_of-forest : (t : TreeState) (n : ℕ) → AreBelow t → Has t n → path_of (forest_of t) n ≡ tree_path t n
path_of-forest t n below h = ap (λ (o : Option View). unwrap_or (option_map path o) []) (view_of-forest t n h) ∙ path-view t n below h

-- a view with what is kept of it has the state that this tells
pub state-view : (t : TreeState) (n : ℕ) → IsRooted t → IsMarked t → Has t n → state_of (tree_path t t.last) (tree_view t n) ≡ kept_state (kept_at t n)
state-view t n r marked h = go (kept_at t n) refl
  where
    waits : (k : Kept) → kept_at t n ≡ k → (k ≡ Committed → ⊥) → is_among n (tree_path t t.last) ≡ false
    waits k e apart = false_from_ne_true (is_among n (tree_path t t.last)) (λ among. apart (sym e ∙ (marked.committed n h).1 among))

    go : (k : Kept) → kept_at t n ≡ k → state_of (tree_path t t.last) (tree_view t n) ≡ kept_state k
    go (Live batch) e = live_from (tree_path t t.last) (tree_view t n) (record {
      waits = waits (Live batch) e (λ s. absurd (cc));
      opened = ap is_closed e;
      ahead = ap (is_proper_prefix (tree_path t t.last)) (path-view t n r.below h) ∙ live_ahead t r n (ap is_live_kept e);
    })
    go Committed e = committed_from (tree_path t t.last) (tree_view t n) ((marked.committed n h).0 e)
    go Invalid e = invalid_from (tree_path t t.last) (tree_view t n) (waits Invalid e (λ s. absurd (cc))) (ap is_closed e) (ap (is_proper_prefix (tree_path t t.last)) (path-view t n r.below h) ∙ marked.invalid n h e)
    go Closed e = closed_from (tree_path t t.last) (tree_view t n) (waits Closed e (λ s. absurd (cc))) (ap is_closed e)

pub state-forest : (t : TreeState) (n : ℕ) → IsRooted t → IsMarked t → Has t n → state (forest_of t) n ≡ Some (kept_state (kept_at t n))
state-forest t n r marked h =
    ap (λ (o : Option View). option_map (state_of (forest_of t).store) o) (view_of-forest t n h)
    ∙ ap Some (ap (λ s. state_of s (tree_view t n)) (store-forest t) ∙ state-view t n r marked h)

pub state-none : (t : TreeState) (n : ℕ) → (Has t n → ⊥) → state (forest_of t) n ≡ None
state-none t n h = ap (λ (o : Option View). option_map (state_of (forest_of t).store) o) (view_of-none t n h)

-- ---- weight

weights_from : (store ps : List ℕ) (k : ℕ) (slots : List Slot) → ((i : ℕ) → i < length slots → view_weight store (view_in ps (k + i) (get_or slots i no_slot)) ≡ slot_weight (get_or slots i no_slot)) → sum_by (view_weight store) (views_from ps k slots) ≡ held_weight slots
weights_from store ps k [] h = refl
weights_from store ps k (s ∷ slots) h =
    sum_by-cons (view_weight store) (view_in ps k s) (views_from ps (suc k) slots)
    ∙ (ap (λ w. w + sum_by (view_weight store) (views_from ps (suc k) slots)) (ap (λ n. view_weight store (view_in ps n s)) (k_is k) ∙ h 0 (omega arith))
    ∙ (ap (λ w. slot_weight s + w) (weights_from store ps (suc k) slots (λ i l. ap (λ n. view_weight store (view_in ps n (get_or slots i no_slot))) (next_is k i) ∙ h (suc i) (omega (arith, l))))
    ∙ sym (sum_by-cons slot_weight s slots)))
  where
    k_is : (k : ℕ) → k ≡ k + 0
    k_is k = omega arith

    next_is : (k i : ℕ) → suc k + i ≡ k + suc i
    next_is k i = omega arith

abbrev pub is_live_state : State → Bool
is_live_state live = true
is_live_state committed = false
is_live_state invalid = false
is_live_state closed = false

kept_weighs : (k : Kept) → cond (is_live_state (kept_state k)) (batch_payload (kept_batch k)) 0 ≡ kept_weight k
kept_weighs (Live batch) = refl
kept_weighs Committed = refl
kept_weighs Invalid = refl
kept_weighs Closed = refl

weight-view : (t : TreeState) (n : ℕ) → IsRooted t → IsMarked t → Has t n → view_weight (tree_path t t.last) (tree_view t n) ≡ slot_weight (slot_at t.slots n)
weight-view t n r marked h = ap (λ s. cond (is_live_state s) (batch_payload (kept_batch (kept_at t n))) 0) (state-view t n r marked h) ∙ kept_weighs (kept_at t n)

pub weight-forest : (t : TreeState) → IsSound t → IsMarked t → weight (forest_of t) ≡ t.weight
unfolding forest_of
weight-forest t sound marked =
    weights_from (tree_path t t.last) (parents t.slots) 1 t.slots (λ i l.
    ap (λ n. view_weight (tree_path t t.last) (view_in (parents t.slots) n (get_or t.slots i no_slot))) (one_more i)
    ∙ weight-view t (suc i) sound.linked.rooted marked (record { given = omega arith; within = omega (arith, l) }))
    ∙ sym sound.weighs
  where
    one_more : (i : ℕ) → 1 + i ≡ suc i
    one_more i = omega arith

-- ---- the same views, one by one

pub views_same : (ps qs : List ℕ) (g : View → View) (k : ℕ) (old new : List Slot) → length new ≡ length old → ((i : ℕ) → i < length old → view_in qs (k + i) (get_or new i no_slot) ≡ g (view_in ps (k + i) (get_or old i no_slot))) → views_from qs k new ≡ map g (views_from ps k old)
views_same ps qs g k [] [] l h = refl
views_same ps qs g k [] (y ∷ ys) l h = absurd (omega (arith, l))
views_same ps qs g k (x ∷ xs) [] l h = absurd (omega (arith, l))
views_same ps qs g k (x ∷ xs) (y ∷ ys) l h =
    ap (λ v. v ∷ views_from qs (suc k) ys) (ap (λ n. view_in qs n y) (none k) ∙ (h 0 (omega arith) ∙ ap (λ n. g (view_in ps n x)) (sym (none k))))
    ∙ ap (λ vs. g (view_in ps k x) ∷ vs) (views_same ps qs g (suc k) xs ys (omega (arith, l)) (λ i w.
    ap (λ n. view_in qs n (get_or ys i no_slot)) (more k i) ∙ (h (suc i) (omega (arith, w)) ∙ ap (λ n. g (view_in ps n (get_or xs i no_slot))) (sym (more k i)))))
  where
    none : (k : ℕ) → k ≡ k + 0
    none k = omega arith

    more : (k i : ℕ) → suc k + i ≡ k + suc i
    more k i = omega arith

pub same_views : (t u : TreeState) (g : View → View) → length u.slots ≡ length t.slots → ((n : ℕ) → Has t n → tree_view u n ≡ g (tree_view t n)) → views_from (parents u.slots) 1 u.slots ≡ map g (views_from (parents t.slots) 1 t.slots)
same_views t u g l h = views_same (parents t.slots) (parents u.slots) g 1 t.slots u.slots l (λ i w.
    ap (λ n. view_in (parents u.slots) n (get_or u.slots i no_slot)) (more i)
    ∙ (h (suc i) (record { given = omega arith; within = omega (arith, w) }) ∙ ap (λ n. g (view_in (parents t.slots) n (get_or t.slots i no_slot))) (sym (more i))))
  where
    more : (i : ℕ) → 1 + i ≡ suc i
    more i = omega arith

views_from-append : (ps : List ℕ) (k : ℕ) (xs : List Slot) (s : Slot) → views_from ps k (xs ++ s ∷ []) ≡ views_from ps k xs ++ view_in ps (k + length xs) s ∷ []
views_from-append ps k [] s = ap (λ n. view_in ps n s ∷ []) (none k)
  where
    none : (k : ℕ) → k ≡ k + 0
    none k = omega arith
views_from-append ps k (x ∷ xs) s = ap (λ vs. view_in ps k x ∷ vs) (views_from-append ps (suc k) xs s ∙ ap (λ n. views_from ps (suc k) xs ++ view_in ps n s ∷ []) (more k (length xs)))
  where
    more : (k i : ℕ) → suc k + i ≡ k + suc i
    more k i = omega arith

-- with one more at the end
pub views-more : (t : TreeState) (ps : List ℕ) (s : Slot) → views_from ps 1 (t.slots ++ s ∷ []) ≡ views_from ps 1 t.slots ++ view_in ps (length t.slots + 1) s ∷ []
views-more t ps s = views_from-append ps 1 t.slots s ∙ ap (λ n. views_from ps 1 t.slots ++ view_in ps n s ∷ []) (swapped (length t.slots))
  where
    swapped : (n : ℕ) → 1 + n ≡ n + 1
    swapped n = omega arith

-- ---- with the same parents

abbrev pub view_as : ℕ → List ℕ → Kept → View
view_as n parent k = record { number = n; parent = parent; batch = kept_batch k; closed = is_closed k }

-- of a view only what is kept of it may differ
pub view_moved : (t u : TreeState) (n : ℕ) → parents u.slots ≡ parents t.slots → Has t n → tree_view u n ≡ view_as n (tree_path t (parent_at t n)) (kept_at u n)
view_moved t u n e h =
    ap (λ ps. view_as n (path_by ps (parent_at u n)) (kept_at u n)) e ∙ ap (λ p. view_as n (tree_path t p) (kept_at u n)) (parent_same t u n e h)

pub same_forest : {s q : List ℕ} {vs ws : List View} → s ≡ q → vs ≡ ws → ◌≡◌ {A = Forest} (record { store = s; views = vs }) (record { store = q; views = ws })
same_forest {s} {q} {vs} {ws} e d = ap (λ (x : List ℕ). mk x vs) e ∙ ap (λ (x : List View). mk q x) d
  where
    mk : List ℕ → List View → Forest
    mk x y = record { store = x; views = y }
