use Rattle.std.proofs.Common.{arith}
use Rattle.proof_check.proofs.WholeChanges.{is_found, is_claim, is_given}
use Rattle.proof_check.proofs.change.ChangeProof.decode.Goals as goal

pub returns-clause-found : goal.returns-clause-found
returns-clause-found c = is_found c.args.branch c.args.bytes.now c.proof_of.result (λ i. omega (arith, c.type_inv.bytes i)) c.proof_of.ensures

pub returns-clause-claim : goal.returns-clause-claim
returns-clause-claim c = is_claim c.args.branch c.args.bytes.now c.proof_of.result (λ i. omega (arith, c.type_inv.bytes i)) (returns-clause-found c)

pub returns-clause-only : goal.returns-clause-only
returns-clause-only c = λ p fits e. is_given c.args.branch c.args.bytes.now c.proof_of.result c.proof_of.ensures p fits e
