use Rattle.std.proofs.Common.{arith}
use Rattle.proof_check.proofs.WholePoints.{is_found, has_nodes, is_given}
use Rattle.proof_check.proofs.point.PointProof.decode.Goals as goal

pub returns-clause-found : goal.returns-clause-found
returns-clause-found c = is_found c.args.branch c.args.bytes.now c.point_of.result (λ i. omega (arith, c.type_inv.bytes i)) c.point_of.ensures

pub returns-clause-nodes : goal.returns-clause-nodes
returns-clause-nodes c = has_nodes c.args.branch c.args.bytes.now c.point_of.result (returns-clause-found c)

pub returns-clause-only : goal.returns-clause-only
returns-clause-only c = λ p fits e. is_given c.args.branch c.args.bytes.now c.point_of.result c.point_of.ensures p fits e
