use Rattle.bit_keys.specs.Branch.{width_of}
use Rattle.proof_check.proofs.WholePoints.{width_of-IsWidth}
use Rattle.change_proof.proofs.AcceptedProofs.{accepted_is_true, true_is_accepted}
use Rattle.change_proof.proofs.verifying.verify.Goals as goal

pub returns-clause-sound : goal.returns-clause-sound
returns-clause-sound g c =
    accepted_is_true (width_of c.args.branch) (width_of-IsWidth c.args.branch) c.args.root.now c.args.range.now c.start-start.ensures.range c.args.proof.now (g.N.NodeSource.words.told c.args.local.now)
    c.check_changes.result c.check_changes.ensures.refusal c.accepted_changes_are_true.ensures c.requires

pub returns-clause-accepts : goal.returns-clause-accepts
returns-clause-accepts g c =
    true_is_accepted (width_of c.args.branch) (width_of-IsWidth c.args.branch) c.args.root.now c.args.range.now c.start-start.ensures.range c.args.proof.now (g.N.NodeSource.words.told c.args.local.now)
    c.check_changes.result c.check_changes.ensures.refusal c.true_changes_are_accepted.ensures
