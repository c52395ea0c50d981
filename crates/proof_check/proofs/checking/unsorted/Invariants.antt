use Rattle.std.proofs.Common.{◌≡◌, ◌-◌, drop}
use Rattle.proof_model.specs.Refusals.{first_break}
use Rattle.proof_check.specs.Claims.{entry_less}
use Rattle.proof_check.proofs.checking.unsorted.Given as goal

abbrev pub invariant-loop-i : goal.invariant-loop-i
invariant-loop-i l = first_break entry_less 0 l.entries ≡ first_break entry_less (l.i - 1) (drop (l.i - 1) l.entries)
