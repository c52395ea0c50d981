use Rattle.std.proofs.Common.{◌≡◌, ◌+◌, ◌-◌, drop}
use Rattle.proof_model.specs.Refusals.{extends, first_break}
use Rattle.proof_check.proofs.paths.first_break.Given as goal

abbrev pub invariant-loop-i : goal.invariant-loop-i
invariant-loop-i l = first_break extends l.first l.path ≡ first_break extends (l.first + (l.i - 1)) (drop (l.i - 1) l.path)
