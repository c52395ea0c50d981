use Rattle.std.proofs.Common.{◌≡◌, drop}
use Rattle.change_proof.specs.LaidChanges.{from}
use Rattle.change_proof.proofs.laying.from.Given as goal

abbrev pub invariant-loop-i : goal.invariant-loop-i
invariant-loop-i l = from l.key l.pairs ≡ from l.key (drop l.i l.pairs)
