-- What a crash might have left since a moment.
use Rattle.std.proofs.Common.{◌≡◌, inl, inr, ⊎_elim, ℕ, suc, ◌+◌, ◌-◌, ◌≤◌, List, [], ◌∷◌, ◌++◌, length, take, sym, ◌∙◌, ap, subst, arith, length-append}
use Rattle.std.proofs.Math.Seq.{take-append-add}
use Rattle.disk_model.specs.Files.{Files}
use Rattle.disk_model.specs.Crash.{Unsynced, IsImageOf}
use Rattle.disk_model.specs.Moments.{Moments, EachLeavesOnly, AtAnyMoment, OneLeaves, LeftSince, clock}
use Rattle.disk_model.proofs.Meanwhile.{both}

pub counts_now : (m : Moments) (t : ℕ) (image : Files) → t ≤ clock m → IsImageOf m.now image → LeftSince m t image
counts_now m t image le now =
    let is : clock m + 1 - t ≡ suc (clock m - t) = omega arith in
    subst (λ (n : ℕ). OneLeaves (take n (m.now ∷ m.past)) image) (sym is) (inl now)

pub only_now : (m : Moments) (image : Files) → LeftSince m (clock m) image → IsImageOf m.now image
only_now m image left =
    let is : clock m + 1 - clock m ≡ 1 = omega arith in
    ⊎_elim (λ now. now) (λ none. absurd none) (subst (λ (n : ℕ). OneLeaves (take n (m.now ∷ m.past)) image) is left)

one_has : (P : Files → Type 0) (ms : List (ℕ → Unsynced)) → EachLeavesOnly P ms → (image : Files) → OneLeaves ms image → P image
one_has P [] each image one = absurd one
one_has P (m ∷ ms) each image (inl here) = each.0 image here
one_has P (m ∷ ms) each image (inr there) = one_has P ms each.1 image there

-- what holds at any moment holds of what a crash might have left since
pub each_since : {P : Files → Type 0} {old new : Moments} → AtAnyMoment P old new → (image : Files) → LeftSince new (clock old) image → P image
each_since {P} {old} {new} run image left =
    let ms = run.later.moments in
    let size : clock new + 1 - clock old ≡ length ms + 1 = omega (arith, ap length run.later.passed, length-append ms (old.now ∷ old.past)) in
    let front : take (clock new + 1 - clock old) (new.now ∷ new.past) ≡ ms ++ old.now ∷ [] =
    ap (λ (n : ℕ). take n (new.now ∷ new.past)) size ∙ ap (λ (l : List (ℕ → Unsynced)). take (length ms + 1) l) run.later.passed ∙ take-append-add ms (old.now ∷ old.past) 1 in
    one_has P (ms ++ old.now ∷ []) (both P ms (old.now ∷ []) run.later.each (run.first, tt)) image (subst (λ (l : List (ℕ → Unsynced)). OneLeaves l image) front left)
