-- The live views on the store, where all end but one.
use Rattle.std.proofs.Common.{◌≡◌, ◌≢◌, ◌⊎◌, inl, inr, ℕ, ◌<◌, ◌≤◌, true, false, cond, refl, sym, ap, ◌∙◌, subst, arith}
use Rattle.std.proofs.lemmas.Bool.{both_ways, cases_eq, eq-eqb}
use Rattle.view_model.specs.Forest.{is_prefix}
use Rattle.view_stack.specs.declared.slot.Kept.{Kept}
use Rattle.view_stack.specs.Slots.{TreeState}
use Rattle.view_stack.specs.Tree.{slot_at, first_on, live_at, is_live_kept}
use Rattle.view_stack.specs.Links.{parent_at, next_at, IsOn, IsRooted, IsLinked}
use Rattle.view_stack.specs.Paths.{parents, path_by}
use Rattle.view_stack.specs.EndedViews.{Ends, IsOver, IsBeside}
use Rattle.view_stack.proofs.WrittenViews.{live_has}
use Rattle.view_stack.proofs.ManyViewsEnd.{was_on, still_on, sibling_stays, beside_on, first_falls}

pub first_on-last : (t : TreeState) → first_on t t.last ≡ t.top
first_on-last t = ap (λ b. cond b t.top (slot_at t.slots t.last).first) (eq-eqb t.last t.last refl)

-- one of them, or none
abbrev pub IsSome : TreeState → ℕ → Type 0
IsSome t n = (n ≡ 0) ⊎ IsOn t t.last n

-- no live one on the store is above the first
pub below_top : (t : TreeState) (n : ℕ) → IsLinked t → IsOn t t.last n → n ≤ t.top
below_top t n link on = omega (arith, link.highest n on.live, ap (first_on t) on.parent, first_on-last t)

-- where the first is not the one that stays, it is another
pub top_on : (t : TreeState) (n : ℕ) → IsLinked t → IsSome t n → t.top ≢ n → IsOn t t.last t.top
top_on t n link kept apart = subst (IsOn t t.last) (first_on-last t) (link.first t.last (inl refl) (λ z. some (sym (first_on-last t) ∙ z)))
  where
    some : t.top ≡ 0 → ⊥
    some z = elim kept [ inl none ↦ apart (z ∙ sym none) | inr on ↦ omega (arith, z, below_top t n link on, (live_has t n on.live).given) ]

-- one on the store stays where another ends
pub on_stays : {mark : Kept} (t u : TreeState) (n c : ℕ) → IsRooted t → IsOn t t.last c → c ≢ n → IsOn t t.last n → Ends mark (IsOver t c) t u → IsOn u u.last n
on_stays {mark} t u n c r on apart kept e =
    subst (λ p. IsOn u p n) (sym e.last) (still_on {mark = mark} {P = IsOver t c} t u t.last n e kept (sibling_stays {mark = mark} t u t.last c n r on kept apart e))

pub some_stays : {mark : Kept} (t u : TreeState) (n c : ℕ) → IsRooted t → IsOn t t.last c → c ≢ n → IsSome t n → Ends mark (IsOver t c) t u → IsSome u n
some_stays {mark} t u n c r on apart (inl none) e = inl none
some_stays {mark} t u n c r on apart (inr kept) e = inr (on_stays {mark = mark} t u n c r on apart kept e)

-- what stands on another is beside the one that stays
pub beside_some : (t0 t : TreeState) (n c m : ℕ) → parents t.slots ≡ parents t0.slots → IsRooted t → IsOn t t.last c → c ≢ n → IsSome t n → IsOver t c m → IsBeside t0 n m
beside_some t0 t n c m same r on apart (inl none) over pos = absurd (omega (arith, none, pos))
beside_some t0 t n c m same r on apart (inr kept) over pos =
    ap (λ ps. is_prefix (path_by ps n) (path_by ps m)) (sym same) ∙ beside_on t t.last c n m r on kept apart over

-- the first one that is left has a lower number
pub top_falls : {mark : Kept} {P : ℕ → Type 0} (t u : TreeState) → is_live_kept mark ≡ false → IsLinked t → IsLinked u → Ends mark P t u → IsOn t t.last t.top → live_at u t.top ≡ false → u.top < t.top
top_falls {mark} {P} t u dead link after e on ended =
    let falls = first_falls {mark = mark} {P = P} t u u.last t.top dead link after e (inl refl) (ap (first_on t) e.last ∙ first_on-last t) (live_has t t.top on.live).given ended in
    subst (λ k. k < t.top) (first_on-last u) falls

-- the first one stays the first where it stays
pub top_stays : {mark : Kept} {P : ℕ → Type 0} (t u : TreeState) (n : ℕ) → is_live_kept mark ≡ false → IsLinked t → IsLinked u → Ends mark P t u → IsOn u u.last n → t.top ≡ n → u.top ≡ n
top_stays {mark} {P} t u n dead link after e on top =
    let low = below_top u n after on in
    let given = (live_has u n on.live).given in
    let first : IsOn u u.last u.top = subst (IsOn u u.last) (first_on-last u) (after.first u.last (inl refl) (λ z. absurd (omega (arith, z, first_on-last u, low, given)))) in
    let was : IsOn t t.last u.top = subst (λ p. IsOn t p u.top) e.last (was_on {mark = mark} {P = P} t u u.last u.top dead e first) in
    omega (arith, low, below_top t u.top link was, top)

-- the next one is another one on the store
pub next_on : (t : TreeState) (n c : ℕ) → IsLinked t → IsOn t t.last n → c ≡ next_at t n → c ≢ 0 → IsOn t t.last c × (c ≢ n)
next_on t n c link on e some =
    let h = link.next n on.live (λ z. some (e ∙ z)) in
    (record { live = ap (live_at t) e ∙ h.0.live; parent = ap (parent_at t) e ∙ (h.0.parent ∙ on.parent) }, (λ s. absurd (omega (arith, h.1, e, s))))

-- the next one that is left has a lower number
pub next_falls : {mark : Kept} {P : ℕ → Type 0} (t u : TreeState) (n c : ℕ) → is_live_kept mark ≡ false → IsLinked t → IsLinked u → Ends mark P t u → live_at t n ≡ true → live_at u n ≡ true → parent_at u n ≡ parent_at t n → c ≡ next_at t n → 0 < c → live_at u c ≡ false → next_at u n < c
next_falls {mark} {P} t u n c dead link after e live still same next some ended = elim (cases_eq (next_at u n) 0) [ inl z ↦ omega (arith, z, some) | inr more ↦ lower more ]
  where
    lower : next_at u n ≢ 0 → next_at u n < c
    lower more =
        let on = after.next n still more in
        let was = was_on {mark = mark} {P = P} t u (parent_at u n) (next_at u n) dead e on.0 in
        let low = link.lower n (next_at u n) live (subst (λ p. IsOn t p (next_at u n)) same was) on.1 in
        let apart : next_at u n ≢ c = λ s. both_ways (live_at u c) ended (ap (live_at u) (sym s) ∙ on.0.live) in
        omega (arith, low, next, apart)
