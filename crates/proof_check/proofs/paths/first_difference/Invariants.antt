use Rattle.std.proofs.Common.{◌≡◌, ◌+◌, length, drop}
use Rattle.proof_model.specs.Refusals.{first_place, disagrees_with}
use Rattle.proof_check.proofs.paths.first_difference.Given as goal

abbrev pub invariant-loop-i : goal.invariant-loop-i
invariant-loop-i l = first_place (disagrees_with l.start) (length l.start) l.end ≡ first_place (disagrees_with l.start) (length l.start + l.i) (drop l.i l.end)
