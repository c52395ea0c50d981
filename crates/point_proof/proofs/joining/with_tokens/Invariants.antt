use Rattle.std.proofs.Common.{◌≡◌, ◌*◌, ◌++◌, drop}
use Rattle.bit_keys.specs.Branch.{width_of}
use Rattle.point_proof.proofs.joining.with_tokens.Given as goal

abbrev pub invariant-loop-i : goal.invariant-loop-i
invariant-loop-i l = l.key ++ drop (width_of l.unit * l.i) l.rest ≡ l.fn.front ++ drop (width_of l.unit * l.from) l.rest
