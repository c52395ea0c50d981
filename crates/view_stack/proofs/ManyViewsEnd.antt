-- Views that are live no more: what one call after another ends, and what is left.
use Rattle.std.proofs.Common.{◌≡◌, ◌≢◌, ◌⊎◌, inl, inr, ℕ, zero, suc, ◌+◌, ◌<◌, Bool, true, false, cond, length, refl, sym, ap, ◌∙◌, subst, arith}
use Rattle.std.specs.Prelude.{slice_index}
use Rattle.std.proofs.lemmas.Bool.{both_ways, false_from_ne_true, cases_eq, ne_eqb}
use Rattle.std.proofs.lemmas.List.{length-map}
use Rattle.view_model.specs.Forest.{is_prefix}
use Rattle.view_model.proofs.Prefixes.{length-prefix, prefix_of_prefix, is_prefix_itself}
use Rattle.view_stack.specs.declared.slot.Slot.{Slot}
use Rattle.view_stack.specs.declared.slot.Kept.{Kept}
use Rattle.view_stack.specs.Slots.{TreeState}
use Rattle.view_stack.specs.Tree.{Has, slot_at, first_on, kept_at, live_at, is_live_kept, marked}
use Rattle.view_stack.specs.Links.{parent_at, IsOpen, IsOn, IsRooted, IsLinked}
use Rattle.view_stack.specs.Paths.{parents, path_by, tree_path}
use Rattle.view_stack.specs.EndedViews.{Ends, IsOver}
use Rattle.view_stack.proofs.WrittenViews.{live_has}
use Rattle.view_stack.proofs.Paths.{live_over, not_under, slice_index-parents, length-tree_path, over_parent, same_path, same_prefixes}

pub marked_dead : (closed : Bool) → is_live_kept (marked closed) ≡ false
marked_dead true = refl
marked_dead false = refl

-- the paths are as before
pub tree_path-ends : (t u : TreeState) (n : ℕ) → parents u.slots ≡ parents t.slots → tree_path u n ≡ tree_path t n
tree_path-ends t u n e = ap (λ ps. path_by ps n) e

-- what is live afterwards was live
pub ends_live : {mark : Kept} {P : ℕ → Type 0} (t u : TreeState) (n : ℕ) → is_live_kept mark ≡ false → Ends mark P t u → live_at u n ≡ true → live_at t n ≡ true
ends_live {mark} t u n dead e live = elim (e.kept n) [ inl same ↦ ap is_live_kept (sym same) ∙ live | inr ended ↦ absurd (both_ways (live_at u n) (ap is_live_kept ended.2 ∙ dead) live) ]

pub ends_nothing : (mark : Kept) (P : ℕ → Type 0) (t : TreeState) → Ends mark P t t
ends_nothing mark P t = record { parents_stay = refl; last = refl; capacity = refl; kept = λ n. inl refl }

-- one end after another
pub ends_then : {mark : Kept} {P Q : ℕ → Type 0} (t u v : TreeState) → is_live_kept mark ≡ false → Ends mark P t u → Ends mark Q u v → ((n : ℕ) → Q n → P n) → Ends mark P t v
ends_then {mark} {P} {Q} t u v dead d e within = record {
  parents_stay = e.parents_stay ∙ d.parents_stay;
  last = e.last ∙ d.last;
  capacity = e.capacity ∙ d.capacity;
  kept = kept;
}
  where
    kept : (n : ℕ) → (kept_at v n ≡ kept_at t n) ⊎ ((live_at t n ≡ true) × P n × (kept_at v n ≡ mark))
    kept n = elim (e.kept n) [
      | inl same ↦ elim (d.kept n) [ inl again ↦ inl (same ∙ again) | inr ended ↦ inr (ended.0, ended.1, same ∙ ended.2) ]
      | inr ended ↦ inr (ends_live {mark = mark} {P = P} t u n dead d ended.0, within n ended.1, ended.2)
    ]

-- ---- what follows from the same parents

pub over_same : (t u : TreeState) (n m : ℕ) → parents u.slots ≡ parents t.slots → IsOver t n m → IsOver u n m
over_same t u n m e over = ap (λ ps. is_prefix (path_by ps n) (path_by ps m)) e ∙ over

pub count_same : (t u : TreeState) → parents u.slots ≡ parents t.slots → length u.slots ≡ length t.slots
count_same t u e = sym (length-map u.slots (λ (s : Slot). s.parent)) ∙ (ap length e ∙ length-map t.slots (λ (s : Slot). s.parent))

pub has_same : (t u : TreeState) (n : ℕ) → parents u.slots ≡ parents t.slots → Has t n → Has u n
has_same t u n e h = record { given = h.given; within = omega (arith, h.within, count_same t u e) }

pub parent_same : (t u : TreeState) (n : ℕ) → parents u.slots ≡ parents t.slots → Has t n → parent_at u n ≡ parent_at t n
parent_same t u zero e h = absurd (omega (arith, h.given))
parent_same t u (suc i) e h =
    let l : i < length t.slots = omega (arith, h.within) in
    let k : i < length u.slots = omega (arith, count_same t u e) in
    sym (slice_index-parents u i k) ∙ (ap (λ ps. slice_index ps i) e ∙ slice_index-parents t i l)

-- once a live view has ended, nothing that stands on it is live
pub ended_all : (t u : TreeState) (n m : ℕ) → IsRooted t → IsRooted u → parents u.slots ≡ parents t.slots → u.last ≡ t.last → live_at t n ≡ true → live_at u n ≡ false → IsOver t n m → live_at u m ≡ true → ⊥
ended_all t u n m r s same last live dead over still =
    elim (live_over u s n m (has_same t u n same (live_has t n live)) still (over_same t u n m same over)) [
      | inl a ↦ both_ways (live_at u n) dead a
      | inr under ↦ not_under t r n live (subst (IsOver t n) last (over_same u t n u.last (sym same) under))
    ]

-- ---- one view on another

-- a view that ends with what stands on it leaves its parent alone
pub parent_stays : {mark : Kept} (t u : TreeState) (n c : ℕ) → IsRooted t → IsOn t n c → live_at t n ≡ true → Ends mark (IsOver t c) t u → live_at u n ≡ true
parent_stays {mark} t u n c r on live e = elim (e.kept n) [ inl same ↦ ap is_live_kept same ∙ live | inr ended ↦ absurd (apart ended.1) ]
  where
    apart : IsOver t c n → ⊥
    apart over =
        let longer = length-tree_path t r.below c (live_has t c on.live) in
        absurd (omega (arith, longer, ap (λ k. length (tree_path t k)) on.parent, length-prefix (tree_path t c) (tree_path t n) over))

-- what stands on a view stands on its parent
pub over_on : (t : TreeState) (n c m : ℕ) → IsRooted t → IsOn t n c → IsOver t c m → IsOver t n m
over_on t n c m r on over =
    prefix_of_prefix (tree_path t n) (tree_path t c) (tree_path t m) (subst (λ k. IsOver t k c) on.parent (over_parent t r.below c (live_has t c on.live))) over

-- two views on one view have paths of one length
pub same_length_on : (t : TreeState) (p c d : ℕ) → IsRooted t → IsOn t p c → IsOn t p d → length (tree_path t c) ≡ length (tree_path t d)
same_length_on t p c d r on in' =
    length-tree_path t r.below c (live_has t c on.live) ∙ (ap (λ k. length (tree_path t k) + 1) (on.parent ∙ sym in'.parent) ∙ sym (length-tree_path t r.below d (live_has t d in'.live)))

-- nothing stands on two views that were made on one
pub beside_on : (t : TreeState) (p c d m : ℕ) → IsRooted t → IsOn t p c → IsOn t p d → c ≢ d → IsOver t c m → is_prefix (tree_path t d) (tree_path t m) ≡ false
beside_on t p c d m r on in' apart over =
    false_from_ne_true _ (λ also. apart (same_path t r.below c d (live_has t c on.live) (live_has t d in'.live) (same_prefixes (tree_path t c) (tree_path t d) (tree_path t m) over also (same_length_on t p c d r on in'))))

-- and so one of them that ends leaves the other alone
pub sibling_stays : {mark : Kept} (t u : TreeState) (p c d : ℕ) → IsRooted t → IsOn t p c → IsOn t p d → c ≢ d → Ends mark (IsOver t c) t u → live_at u d ≡ true
sibling_stays {mark} t u p c d r on in' apart e =
    elim (e.kept d) [ inl same ↦ ap is_live_kept same ∙ in'.live | inr ended ↦ absurd (both_ways _ (beside_on t p c d d r on in' apart ended.1) (is_prefix_itself (tree_path t d))) ]

-- ---- the views on a live one, from the highest on

pub first_on-live : (t : TreeState) (n : ℕ) → IsRooted t → live_at t n ≡ true → first_on t n ≡ (slot_at t.slots n).first
first_on-live t n r live = ap (λ b. cond b t.top (slot_at t.slots n).first) (ne_eqb n t.last apart)
  where
    apart : n ≡ t.last → ⊥
    apart e = both_ways (live_at t t.last) r.done (ap (live_at t) (sym e) ∙ live)

pub child_on : (t : TreeState) (n c : ℕ) → IsLinked t → live_at t n ≡ true → c ≡ (slot_at t.slots n).first → c ≢ 0 → IsOn t n c
child_on t n c link live e some =
    let same : first_on t n ≡ c = first_on-live t n link.rooted live ∙ sym e in
    subst (IsOn t n) same (link.first n (inr live) (λ z. some (sym same ∙ z)))

pub child_later : (t : TreeState) (n c : ℕ) → IsRooted t → IsOn t n c → n < c
child_later t n c r on = omega (arith, r.below c (live_has t c on.live), on.parent)

-- a view that is live on another afterwards was so before
pub was_on : {mark : Kept} {P : ℕ → Type 0} (t u : TreeState) (p c : ℕ) → is_live_kept mark ≡ false → Ends mark P t u → IsOn u p c → IsOn t p c
was_on {mark} {P} t u p c dead e on =
    let live = ends_live {mark = mark} {P = P} t u c dead e on.live in
    record { live = live; parent = sym (parent_same t u c e.parents_stay (live_has t c live)) ∙ on.parent }

-- and one that stays live stays on it
pub still_on : {mark : Kept} {P : ℕ → Type 0} (t u : TreeState) (p c : ℕ) → Ends mark P t u → IsOn t p c → live_at u c ≡ true → IsOn u p c
still_on {mark} {P} t u p c e on live = record { live = live; parent = parent_same t u c e.parents_stay (live_has t c on.live) ∙ on.parent }

-- once the first one has ended, the first one that is left has a lower number
pub first_falls : {mark : Kept} {P : ℕ → Type 0} (t u : TreeState) (p c : ℕ) → is_live_kept mark ≡ false → IsLinked t → IsLinked u → Ends mark P t u → IsOpen u p → first_on t p ≡ c → 0 < c → live_at u c ≡ false → first_on u p < c
first_falls {mark} {P} t u p c dead link after e open' first some ended = elim (cases_eq (first_on u p) 0) [ inl z ↦ omega (arith, z, some) | inr more ↦ lower more ]
  where
    lower : first_on u p ≢ 0 → first_on u p < c
    lower more =
        let on = after.first p open' more in
        let was = was_on {mark = mark} {P = P} t u p (first_on u p) dead e on in
        let high = link.highest (first_on u p) was.live in
        let apart : first_on u p ≢ c = λ s. both_ways (live_at u c) ended (ap (live_at u) (sym s) ∙ on.live) in
        omega (arith, high, first, ap (first_on t) was.parent, apart)

pub child_falls : {mark : Kept} {P : ℕ → Type 0} (t u : TreeState) (n c : ℕ) → is_live_kept mark ≡ false → IsLinked t → IsLinked u → Ends mark P t u → live_at t n ≡ true → live_at u n ≡ true → c ≡ (slot_at t.slots n).first → 0 < c → live_at u c ≡ false → (slot_at u.slots n).first < c
child_falls {mark} {P} t u n c dead link after e live still first some ended =
    subst (λ k. k < c) (first_on-live u n after.rooted still) (first_falls {mark = mark} {P = P} t u n c dead link after e (inr still) (first_on-live t n link.rooted live ∙ sym first) some ended)

pub over_itself : (t : TreeState) (n m : ℕ) → m ≡ n → IsOver t n m
over_itself t n m e = subst (IsOver t n) (sym e) (is_prefix_itself (tree_path t n))
