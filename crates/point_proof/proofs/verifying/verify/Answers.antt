use Rattle.std.proofs.Common.{arith}
use Rattle.bit_keys.specs.Branch.{width_of}
use Rattle.point_proof.proofs.AcceptedProofs.{accepted_is_true, true_is_accepted}
use Rattle.proof_check.proofs.WholePoints.{width_of-IsWidth}
use Rattle.point_proof.proofs.verifying.verify.Goals as goal

pub returns-clause-sound : goal.returns-clause-sound
returns-clause-sound g c =
    accepted_is_true (width_of c.args.branch) (width_of-IsWidth c.args.branch) c.args.root.now c.args.key.now (λ i. omega (arith, c.type_inv.key i)) c.requires.key c.args.proof.now c.accepted_points_are_true.ensures c.check_point.result c.requires.nodes c.check_point.ensures.refusal

pub returns-clause-accepts : goal.returns-clause-accepts
returns-clause-accepts g c =
    true_is_accepted (width_of c.args.branch) (width_of-IsWidth c.args.branch) c.args.root.now c.args.key.now (λ i. omega (arith, c.type_inv.key i)) c.requires.key c.args.proof.now c.true_points_are_accepted.ensures c.check_point.result c.check_point.ensures.refusal
