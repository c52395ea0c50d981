-- The paths of views: each goes on behind that of its parent.
use Rattle.std.proofs.Common.{◌≡◌, ◌≢◌, ◌⊎◌, inl, inr, ℕ, zero, suc, ◌+◌, ◌<◌, ◌≤◌, true, false, nat_eq, List, [], ◌∷◌, ◌++◌, length, refl, sym, ap, ◌∙◌, subst, arith, length-append}
use Rattle.std.specs.Prelude.{slice_index}
use Rattle.std.proofs.lemmas.Bool.{and_parts, and_from, eqb-true, or_cases}
use Rattle.std.proofs.lemmas.List.{get_or-map, length-map, same_from_push, get_or_append_left}
use Rattle.view_model.specs.Forest.{is_prefix, is_proper_prefix, is_among}
use Rattle.view_model.proofs.Prefixes.{is_prefix-append, is_prefix_itself, length-prefix, prefix_of_prefix, proper_parts, proper_from, proper_of_prefix, is_among-append}
use Rattle.view_stack.specs.declared.slot.Slot.{Slot}
use Rattle.view_stack.specs.Slots.{TreeState}
use Rattle.view_stack.specs.Tree.{Has, no_slot, live_at}
use Rattle.view_stack.specs.Links.{parent_at, IsOpen, IsRooted}
use Rattle.view_stack.specs.Paths.{parents, path_within, path_by, tree_path}
use Rattle.view_stack.specs.EndedViews.{IsOver}
use Rattle.view_stack.proofs.WrittenViews.{live_has}

-- ---- lists

-- a prefix of a list with one more at its end is all of it, or a prefix of the list
pub prefix_of_push : (xs ys : List ℕ) (n : ℕ) → is_prefix xs (ys ++ n ∷ []) ≡ true → (xs ≡ ys ++ n ∷ []) ⊎ (is_prefix xs ys ≡ true)
prefix_of_push [] ys n h = inr refl
prefix_of_push (x ∷ []) [] n h = inl (ap (λ k. k ∷ []) (eqb-true x n (and_parts (nat_eq x n) true h).0))
prefix_of_push (x ∷ y ∷ xs) [] n h = let no : false ≡ true = (and_parts (nat_eq x n) false h).1 in absurd (cc)
prefix_of_push (x ∷ xs) (y ∷ ys) n h = more (and_parts (nat_eq x y) (is_prefix xs (ys ++ n ∷ [])) h) (prefix_of_push xs ys n)
  where
    more : (nat_eq x y ≡ true) × (is_prefix xs (ys ++ n ∷ []) ≡ true) → (is_prefix xs (ys ++ n ∷ []) ≡ true → (xs ≡ ys ++ n ∷ []) ⊎ (is_prefix xs ys ≡ true)) → (x ∷ xs ≡ y ∷ (ys ++ n ∷ [])) ⊎ (is_prefix (x ∷ xs) (y ∷ ys) ≡ true)
    more both ih = elim (ih both.1) [
      | inl e ↦ inl (ap (λ k. k ∷ xs) (eqb-true x y both.0) ∙ ap (λ l. y ∷ l) e)
      | inr p ↦ inr (and_from (nat_eq x y) (is_prefix xs ys) both.0 p)
    ]

-- prefixes of one list that are equally long are the same
pub same_prefixes : (xs ys zs : List ℕ) → is_prefix xs zs ≡ true → is_prefix ys zs ≡ true → length xs ≡ length ys → xs ≡ ys
same_prefixes [] [] zs h k l = refl
same_prefixes [] (y ∷ ys) zs h k l = absurd (omega (arith, l))
same_prefixes (x ∷ xs) [] zs h k l = absurd (omega (arith, l))
same_prefixes (x ∷ xs) (y ∷ ys) [] h k l = absurd (cc)
same_prefixes (x ∷ xs) (y ∷ ys) (z ∷ zs) h k l =
    let a = and_parts (nat_eq x z) (is_prefix xs zs) h in
    let b = and_parts (nat_eq y z) (is_prefix ys zs) k in
    ap (λ q. q ∷ xs) (eqb-true x z a.0 ∙ sym (eqb-true y z b.0)) ∙ ap (λ q. y ∷ q) (same_prefixes xs ys zs a.1 b.1 (omega (arith, l)))

-- ---- by parents

abbrev pub AreBefore : List ℕ → Type 0
AreBefore ps = (i : ℕ) → i < length ps → slice_index ps i ≤ i

-- a path does not depend on how many numbers it may have, where these are enough
pub enough : (ps : List ℕ) → AreBefore ps → (a b n : ℕ) → n ≤ a → n ≤ b → n ≤ length ps → path_within ps a n ≡ path_within ps b n
enough ps h zero zero n p q l = refl
enough ps h zero (suc b) zero p q l = refl
enough ps h zero (suc b) (suc i) p q l = absurd (omega arith)
enough ps h (suc a) zero zero p q l = refl
enough ps h (suc a) zero (suc i) p q l = absurd (omega arith)
enough ps h (suc a) (suc b) zero p q l = refl
enough ps h (suc a) (suc b) (suc i) p q l =
    let e = h i (omega arith) in
    ap (λ xs. xs ++ suc i ∷ []) (enough ps h a b (slice_index ps i) (omega (arith, e)) (omega (arith, e)) (omega (arith, e)))

pub path_by-suc : (ps : List ℕ) → AreBefore ps → (i : ℕ) → i < length ps → path_by ps (suc i) ≡ path_by ps (slice_index ps i) ++ suc i ∷ []
path_by-suc ps h i l =
    let e = h i l in
    ap (λ xs. xs ++ suc i ∷ []) (enough ps h i (slice_index ps i) (slice_index ps i) e (omega arith) (omega (arith, e, l)))

-- ---- in a tree

pub slice_index-parents : (t : TreeState) (i : ℕ) → i < length t.slots → slice_index (parents t.slots) i ≡ parent_at t (suc i)
slice_index-parents t i l = get_or-map (λ (s : Slot). s.parent) t.slots i no_slot 0 l

abbrev pub AreBelow : TreeState → Type 0
AreBelow t = (n : ℕ) → Has t n → parent_at t n < n

pub before : (t : TreeState) → AreBelow t → AreBefore (parents t.slots)
before t below i l =
    let within : i < length t.slots = omega (arith, l, length-map t.slots (λ (s : Slot). s.parent)) in
    let h = below (suc i) (record { given = omega arith; within = omega arith }) in
    omega (arith, h, slice_index-parents t i within)

-- the path of a view is that of its parent, and its own number
pub tree_path-step : (t : TreeState) → AreBelow t → (n : ℕ) → Has t n → tree_path t n ≡ tree_path t (parent_at t n) ++ n ∷ []
tree_path-step t below zero h = absurd (omega (arith, h.given))
tree_path-step t below (suc i) h =
    let within : i < length t.slots = omega (arith, h.within) in
    path_by-suc (parents t.slots) (before t below) i (omega (arith, within, length-map t.slots (λ (s : Slot). s.parent)))
    ∙ ap (λ p. path_by (parents t.slots) p ++ suc i ∷ []) (slice_index-parents t i within)

pub length-tree_path : (t : TreeState) → AreBelow t → (n : ℕ) → Has t n → length (tree_path t n) ≡ length (tree_path t (parent_at t n)) + 1
length-tree_path t below n h = ap length (tree_path-step t below n h) ∙ length-append (tree_path t (parent_at t n)) (n ∷ [])

-- two views with one path are one
pub same_path : (t : TreeState) → AreBelow t → (m n : ℕ) → Has t m → Has t n → tree_path t m ≡ tree_path t n → m ≡ n
same_path t below m n h k e =
    (same_from_push (tree_path t (parent_at t m)) (tree_path t (parent_at t n)) m n (sym (tree_path-step t below m h) ∙ (e ∙ tree_path-step t below n k))).1

-- a view stands on its parent
pub over_parent : (t : TreeState) → AreBelow t → (n : ℕ) → Has t n → IsOver t (parent_at t n) n
over_parent t below n h = subst (λ (p : List ℕ). is_prefix (tree_path t (parent_at t n)) p ≡ true) (sym (tree_path-step t below n h)) (is_prefix-append (tree_path t (parent_at t n)) (n ∷ []))

-- what a view stands on is itself, or its parent stands on it
pub over_cases : (t : TreeState) → AreBelow t → (o n : ℕ) → Has t o → Has t n → IsOver t o n → (o ≡ n) ⊎ IsOver t o (parent_at t n)
over_cases t below o n h k over =
    elim (prefix_of_push (tree_path t o) (tree_path t (parent_at t n)) n (subst (λ (p : List ℕ). is_prefix (tree_path t o) p ≡ true) (tree_path-step t below n k) over)) [
      | inl e ↦ inl (same_path t below o n h k (e ∙ sym (tree_path-step t below n k)))
      | inr p ↦ inr p
    ]

-- ---- live views

-- a live view stands on live ones, down to the store
live_over_within : (most : ℕ) (t : TreeState) → IsRooted t → (o m : ℕ) → m ≤ most → Has t o → live_at t m ≡ true → IsOver t o m → (live_at t o ≡ true) ⊎ IsOver t o t.last
live_over_within zero t r o m l h live over = absurd (omega (arith, l, (live_has t m live).given))
live_over_within (suc most) t r o m l h live over = elim (over_cases t r.below o m h (live_has t m live) over) [
  | inl e ↦ inl (ap (live_at t) e ∙ live)
  | inr up ↦ further up (r.stands m live) (λ a b. live_over_within most t r o (parent_at t m) (omega (arith, l, r.below m (live_has t m live))) h a b)
]
  where
    further : IsOver t o (parent_at t m) → IsOpen t (parent_at t m) → (live_at t (parent_at t m) ≡ true → IsOver t o (parent_at t m) → (live_at t o ≡ true) ⊎ IsOver t o t.last) → (live_at t o ≡ true) ⊎ IsOver t o t.last
    further up (inl e) ih = inr (subst (IsOver t o) e up)
    further up (inr a) ih = ih a up

pub live_over : (t : TreeState) → IsRooted t → (o m : ℕ) → Has t o → live_at t m ≡ true → IsOver t o m → (live_at t o ≡ true) ⊎ IsOver t o t.last
live_over t r o m h live over = live_over_within m t r o m (omega arith) h live over

-- the path of a live view goes on behind that of the store
live_ahead_within : (most : ℕ) (t : TreeState) → IsRooted t → (m : ℕ) → m ≤ most → live_at t m ≡ true → is_proper_prefix (tree_path t t.last) (tree_path t m) ≡ true
live_ahead_within zero t r m l live = absurd (omega (arith, l, (live_has t m live).given))
live_ahead_within (suc most) t r m l live = further (r.stands m live) (λ a. live_ahead_within most t r (parent_at t m) (omega (arith, l, r.below m (live_has t m live))) a)
  where
    further : IsOpen t (parent_at t m) → (live_at t (parent_at t m) ≡ true → is_proper_prefix (tree_path t t.last) (tree_path t (parent_at t m)) ≡ true) → is_proper_prefix (tree_path t t.last) (tree_path t m) ≡ true
    further (inl e) ih =
        let over = over_parent t r.below m (live_has t m live) in
        proper_from (tree_path t t.last) (tree_path t m) (subst (λ k. IsOver t k m) e over) (omega (arith, length-tree_path t r.below m (live_has t m live), ap (λ k. length (tree_path t k)) e))
    further (inr a) ih = proper_of_prefix (tree_path t t.last) (tree_path t (parent_at t m)) (tree_path t m) (ih a) (over_parent t r.below m (live_has t m live))

pub live_ahead : (t : TreeState) → IsRooted t → (m : ℕ) → live_at t m ≡ true → is_proper_prefix (tree_path t t.last) (tree_path t m) ≡ true
live_ahead t r m live = live_ahead_within m t r m (omega arith) live

-- the store does not stand on a live view
pub not_under : (t : TreeState) → IsRooted t → (m : ℕ) → live_at t m ≡ true → IsOver t m t.last → ⊥
not_under t r m live over =
    let ahead = (proper_parts (tree_path t t.last) (tree_path t m) (live_ahead t r m live)).1 in
    absurd (omega (arith, ahead, length-prefix (tree_path t m) (tree_path t t.last) over))

-- ---- one step down

-- an open view that is not the last one is live, and its parent is open and comes before it
pub record Down (t : TreeState) (n : ℕ) : Type 0 where
  pub has : Has t n
  pub on : IsOpen t (parent_at t n)
  pub below : parent_at t n < n
  pub step : tree_path t n ≡ tree_path t (parent_at t n) ++ n ∷ []

pub down : (t : TreeState) (n : ℕ) → IsRooted t → IsOpen t n → n ≢ t.last → Down t n
down t n r (inl e) apart = absurd (apart e)
down t n r (inr live) apart =
    let has = live_has t n live in
    record { has = has; on = r.stands n live; below = r.below n has; step = tree_path-step t r.below n has }

-- ---- the numbers of a path

-- they are no higher than the last one, and each view on the path is one that the path leads through
among_below_within : (most : ℕ) (t : TreeState) → AreBelow t → (x n : ℕ) → n ≤ most → n ≤ length t.slots → is_among x (tree_path t n) ≡ true → (x ≤ n) × IsOver t x n
among_below_within most t below x zero l w among = absurd (cc)
among_below_within zero t below x (suc i) l w among = absurd (omega arith)
among_below_within (suc most) t below x (suc i) l w among = go (or_cases (is_among x (tree_path t (parent_at t (suc i)))) (is_among x (suc i ∷ [])) (sym (is_among-append x (tree_path t (parent_at t (suc i))) (suc i ∷ [])) ∙ (ap (is_among x) (sym step) ∙ among))) (λ a. among_below_within most t below x (parent_at t (suc i)) (omega (arith, low)) (omega (arith, low)) a)
  where
    has : Has t (suc i)
    has = record { given = omega arith; within = w }

    low : parent_at t (suc i) < suc i
    low = below (suc i) (record { given = omega arith; within = w })

    step : tree_path t (suc i) ≡ tree_path t (parent_at t (suc i)) ++ suc i ∷ []
    step = tree_path-step t below (suc i) (record { given = omega arith; within = w })

    go : (is_among x (tree_path t (parent_at t (suc i))) ≡ true) ⊎ (is_among x (suc i ∷ []) ≡ true) → (is_among x (tree_path t (parent_at t (suc i))) ≡ true → (x ≤ parent_at t (suc i)) × IsOver t x (parent_at t (suc i))) → (x ≤ suc i) × IsOver t x (suc i)
    go (inl a) ih = let r = ih a in (omega (arith, r.0, low), prefix_of_prefix (tree_path t x) (tree_path t (parent_at t (suc i))) (tree_path t (suc i)) r.1 (over_parent t below (suc i) has))
    go (inr a) ih =
        let e : suc i ≡ x = eqb-true (suc i) x (elim (or_cases (nat_eq (suc i) x) false a) [ inl s ↦ s | inr s ↦ absurd (cc) ]) in
        (omega (arith, e), subst (λ k. IsOver t k (suc i)) e (is_prefix_itself (tree_path t (suc i))))

pub among_below : (t : TreeState) → AreBelow t → (x n : ℕ) → n ≤ length t.slots → is_among x (tree_path t n) ≡ true → (x ≤ n) × IsOver t x n
among_below t below x n w among = among_below_within n t below x n (omega arith) w among

-- ---- one parent more

path_within-push : (ps : List ℕ) (q : ℕ) → AreBefore ps → (most n : ℕ) → n ≤ length ps → path_within (ps ++ q ∷ []) most n ≡ path_within ps most n
path_within-push ps q h zero n l = refl
path_within-push ps q h (suc most) zero l = refl
path_within-push ps q h (suc most) (suc i) l =
    let inside : i < length ps = omega (arith, l) in
    let low = h i inside in
    ap (λ k. path_within (ps ++ q ∷ []) most k ++ suc i ∷ []) (get_or_append_left ps (q ∷ []) 0 i inside)
    ∙ ap (λ xs. xs ++ suc i ∷ []) (path_within-push ps q h most (slice_index ps i) (omega (arith, low, inside)))

pub path_by-push : (ps : List ℕ) (q : ℕ) → AreBefore ps → (n : ℕ) → n ≤ length ps → path_by (ps ++ q ∷ []) n ≡ path_by ps n
path_by-push ps q h n l = path_within-push ps q h n n l
