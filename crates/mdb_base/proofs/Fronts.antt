-- What stands in front of a list that grew.
use Rattle.std.proofs.Common.{◌≡◌, ◌≤◌, ℕ, List, ◌++◌, length, take, sym, ap, ◌∙◌, arith}
use Rattle.std.proofs.Math.Seq.{take-append_seam}
use Rattle.std.proofs.lemmas.List.{take-take, length-append}

-- what stood in front of what was kept is kept
pub front_kept : (a x now later : List ℕ) → now ≡ a ++ x → take (length now) later ≡ now → take (length a) later ≡ a
front_kept a x now later e f =
    let longer : length a ≤ length now = omega (arith, ap length e, length-append a x) in
    sym (take-take (length a) (length now) later longer) ∙ ap (take (length a)) (f ∙ e) ∙ take-append_seam a x
