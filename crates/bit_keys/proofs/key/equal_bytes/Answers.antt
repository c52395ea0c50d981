use Rattle.std.proofs.Common.{arith}
use Rattle.bit_keys.proofs.SharedBits.{ended}
use Rattle.bit_keys.proofs.key.equal_bytes.Goals as goal

pub returns-else-equal-b : goal.returns-else-equal-b
returns-else-equal-b c = omega (arith, ended c.args.a.now c.args.b.now c.loop-equal.equal (omega arith))
