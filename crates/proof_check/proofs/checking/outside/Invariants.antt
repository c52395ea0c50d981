use Rattle.std.proofs.Common.{◌≡◌, drop, take}
use Rattle.proof_model.specs.Refusals.{first_place}
use Rattle.proof_check.specs.Claims.{entry_outside, HaveBytes}
use Rattle.proof_check.proofs.checking.outside.Given as goal

abbrev pub invariant-loop-i : goal.invariant-loop-i
invariant-loop-i l = (first_place (entry_outside l.asked) 0 l.entries ≡ first_place (entry_outside l.asked) l.i (drop l.i l.entries)) × HaveBytes (take l.i l.entries)
