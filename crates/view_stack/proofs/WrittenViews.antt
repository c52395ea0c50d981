-- Views by their numbers, where one of them is written.
use Rattle.std.proofs.Common.{◌≡◌, ◌≢◌, inl, inr, ℕ, zero, suc, ◌+◌, ◌-◌, ◌<◌, ◌≤◌, Bool, true, false, cond, nat_eq, [], ◌∷◌, length, refl, sym, ap, ◌∙◌, arith, get_or, set, get_or-set_same, get_or-set_other, length-set}
use Rattle.std.proofs.lemmas.Bool.{cases_lt, cases_eq}
use Rattle.std.proofs.lemmas.List.{get_or_past, ext_get_or, get_or-map, length-map, get_or_append_left, get_or_push, length_push}
use Rattle.view_stack.specs.declared.slot.Slot.{Slot}
use Rattle.view_stack.specs.Slots.{TreeState}
use Rattle.view_stack.specs.Tree.{Has, no_slot, slot_at, with_slot, with_first, with_more, is_live_kept, live_at}
use Rattle.view_stack.specs.Links.{parent_at, IsOpen}
use Rattle.view_stack.specs.Paths.{parents}

-- a live view was made
pub live_has : (t : TreeState) (n : ℕ) → live_at t n ≡ true → Has t n
live_has t zero h = absurd (cc)
live_has t (suc i) h = elim (cases_lt i (length t.slots)) [ inl l ↦ record { given = omega arith; within = omega arith } | inr past ↦ absurd (none past) ]
  where
    none : length t.slots ≤ i → ⊥
    none past = let e : is_live_kept no_slot.kept ≡ true = ap (λ (s : Slot). is_live_kept s.kept) (sym (get_or_past t.slots i no_slot past)) ∙ h in cc

pub length-with_slot : (t : TreeState) (n : ℕ) (s : Slot) → length (with_slot t n s).slots ≡ length t.slots
length-with_slot t n s = length-set t.slots (n - 1) s

pub slot_at-same : (t : TreeState) (n : ℕ) (s : Slot) → Has t n → slot_at (with_slot t n s).slots n ≡ s
slot_at-same t zero s h = absurd (omega (arith, h.given))
slot_at-same t (suc i) s h =
    let e : suc i - 1 ≡ i = omega arith in
    let l : i < length t.slots = omega (arith, h.within) in
    ap (λ k. get_or (set t.slots k s) i no_slot) e ∙ get_or-set_same t.slots i s no_slot l

pub slot_at-other : (t : TreeState) (n : ℕ) (s : Slot) (m : ℕ) → 0 < n → m ≢ n → slot_at (with_slot t n s).slots m ≡ slot_at t.slots m
slot_at-other t n s zero h apart = refl
slot_at-other t n s (suc j) h apart = let ne : j ≢ n - 1 = (λ e. apart (omega arith)) in get_or-set_other t.slots (n - 1) j s no_slot ne

-- what is not changed in the one that is written is as before in each
pub slot_at-field : {Y : Type 0} (f : Slot → Y) (t : TreeState) (n : ℕ) (s : Slot) → Has t n → f s ≡ f (slot_at t.slots n) → (m : ℕ) → f (slot_at (with_slot t n s).slots m) ≡ f (slot_at t.slots m)
slot_at-field f t n s h e m =
    elim (cases_eq m n) [ inl same ↦ here same | inr apart ↦ ap f (slot_at-other t n s m h.given apart) ]
  where
    here : m ≡ n → f (slot_at (with_slot t n s).slots m) ≡ f (slot_at t.slots m)
    here same =
        ap (λ k. f (slot_at (with_slot t n s).slots k)) same ∙ (ap f (slot_at-same t n s h) ∙ (e ∙ ap (λ k. f (slot_at t.slots k)) (sym same)))

-- parents that are the same one by one
pub same_parents : (t u : TreeState) → length u.slots ≡ length t.slots → ((m : ℕ) → parent_at u m ≡ parent_at t m) → parents u.slots ≡ parents t.slots
same_parents t u l h =
    ext_get_or 0 (parents u.slots) (parents t.slots) (length-map u.slots _ ∙ (l ∙ sym (length-map t.slots _)))
    (λ i within.
    let li : i < length u.slots = omega (arith, within, length-map u.slots (λ (s : Slot). s.parent)) in
    let lj : i < length t.slots = omega (arith, l) in
    get_or-map (λ (s : Slot). s.parent) u.slots i no_slot 0 li ∙ (h (suc i) ∙ sym (get_or-map (λ (s : Slot). s.parent) t.slots i no_slot 0 lj)))

pub length-with_first : (t : TreeState) (p first : ℕ) → length (with_first t p first).slots ≡ length t.slots
length-with_first t p first = go (nat_eq p t.last) (nat_eq p 0)
  where
    go : (a b : Bool) → length (cond a (record t { top = first }) (cond b t (with_slot t p (record (slot_at t.slots p) { first = first })))).slots ≡ length t.slots
    go true b = refl
    go false true = refl
    go false false = length-with_slot t p (record (slot_at t.slots p) { first = first })

-- who is open was made, or is the store before its first commit
pub open_within : (t : TreeState) (p : ℕ) → t.last ≤ length t.slots → IsOpen t p → p ≤ length t.slots
open_within t p known (inl e) = omega (arith, e, known)
open_within t p known (inr l) = (live_has t p l).within

-- ---- one more

pub slot_at-more : (t : TreeState) (s : Slot) (m : ℕ) → m ≤ length t.slots → slot_at (with_more t s).slots m ≡ slot_at t.slots m
slot_at-more t s zero l = refl
slot_at-more t s (suc i) l = get_or_append_left t.slots (s ∷ []) no_slot i (omega (arith, l))

pub slot_at-last : (t : TreeState) (s : Slot) (n : ℕ) → n ≡ length t.slots + 1 → slot_at (with_more t s).slots n ≡ s
slot_at-last t s zero e = absurd (omega (arith, e))
slot_at-last t s (suc i) e = get_or_push t.slots s no_slot i (omega (arith, e))

pub length-with_more : (t : TreeState) (s : Slot) → length (with_more t s).slots ≡ length t.slots + 1
length-with_more t s = length_push t.slots s
