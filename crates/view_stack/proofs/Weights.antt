-- The weight of the batches that are held.
use Rattle.std.proofs.Common.{◌≡◌, ℕ, zero, suc, ◌+◌, ◌-◌, ◌<◌, ◌≤◌, List, [], ◌∷◌, length, refl, sym, ap, ◌∙◌, arith, get_or, set}
use Rattle.std.proofs.lemmas.List.Sums.{sum_by-set, sum_by-cons}
use Rattle.view_stack.specs.declared.slot.Slot.{Slot}
use Rattle.view_stack.specs.Slots.{TreeState}
use Rattle.view_stack.specs.Tree.{Has, no_slot, with_slot, kept_at, kept_weight, slot_weight, held_weight}

-- the same is held of each of as many views
same_weights : (xs ys : List Slot) → length ys ≡ length xs → ((i : ℕ) → (get_or ys i no_slot).kept ≡ (get_or xs i no_slot).kept) → held_weight ys ≡ held_weight xs
same_weights [] [] l h = refl
same_weights [] (y ∷ ys) l h = absurd (omega (arith, l))
same_weights (x ∷ xs) [] l h = absurd (omega (arith, l))
same_weights (x ∷ xs) (y ∷ ys) l h =
    sum_by-cons slot_weight y ys ∙ (ap (λ a. a + held_weight ys) (ap kept_weight (h 0)) ∙ (ap (λ a. slot_weight x + a) (same_weights xs ys (omega (arith, l)) (λ i. h (suc i))) ∙ sym (sum_by-cons slot_weight x xs)))

pub held_same : (t u : TreeState) → length u.slots ≡ length t.slots → ((m : ℕ) → kept_at u m ≡ kept_at t m) → held_weight u.slots ≡ held_weight t.slots
held_same t u l h = same_weights t.slots u.slots l (λ i. h (suc i))

-- something else is held of one of them
pub held-with_slot : (t : TreeState) (n : ℕ) (s : Slot) → Has t n → held_weight (with_slot t n s).slots + kept_weight (kept_at t n) ≡ held_weight t.slots + slot_weight s
held-with_slot t zero s h = absurd (omega (arith, h.given))
held-with_slot t (suc i) s h =
    let e : suc i - 1 ≡ i = omega arith in
    let l : i < length t.slots = omega (arith, h.within) in
    ap (λ k. held_weight (set t.slots k s) + kept_weight (kept_at t (suc i))) e ∙ sum_by-set slot_weight t.slots i s no_slot l

-- no more is held of each of as many views
lighter_each : (xs ys : List Slot) → length ys ≡ length xs → ((i : ℕ) → slot_weight (get_or ys i no_slot) ≤ slot_weight (get_or xs i no_slot)) → held_weight ys ≤ held_weight xs
lighter_each [] [] l h = omega arith
lighter_each [] (y ∷ ys) l h = absurd (omega (arith, l))
lighter_each (x ∷ xs) [] l h = absurd (omega (arith, l))
lighter_each (x ∷ xs) (y ∷ ys) l h = omega (arith, h 0, lighter_each xs ys (omega (arith, l)) (λ i. h (suc i)), sum_by-cons slot_weight y ys, sum_by-cons slot_weight x xs)

pub lighter : (t u : TreeState) → length u.slots ≡ length t.slots → ((n : ℕ) → kept_weight (kept_at u n) ≤ kept_weight (kept_at t n)) → held_weight u.slots ≤ held_weight t.slots
lighter t u l h = lighter_each t.slots u.slots l (λ i. h (suc i))
