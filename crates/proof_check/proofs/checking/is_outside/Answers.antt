use Rattle.std.proofs.Common.{arith}
use Rattle.proof_check.proofs.WholePoints.{bytes_are}
use Rattle.proof_check.proofs.checking.is_outside.Goals as goal

pub returns-clause-bytes : goal.returns-clause-bytes
returns-clause-bytes c = bytes_are c.args.key.now (λ i. omega (arith, c.type_inv.key i))
