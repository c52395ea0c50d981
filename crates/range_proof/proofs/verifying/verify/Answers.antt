use Rattle.bit_keys.specs.Branch.{width_of}
use Rattle.proof_check.proofs.WholePoints.{width_of-IsWidth}
use Rattle.range_proof.proofs.AcceptedProofs.{accepted_is_true, uncut_is_whole, true_is_accepted}
use Rattle.range_proof.proofs.verifying.verify.Goals as goal

pub returns-clause-sound : goal.returns-clause-sound
returns-clause-sound g c =
    accepted_is_true (width_of c.args.branch) (width_of-IsWidth c.args.branch) c.args.root.now c.args.range.now c.start-start.ensures.range c.args.proof.now c.check_range.result c.check_range.ensures.refusal c.accepted_ranges_are_true.ensures c.requires

pub returns-clause-whole : goal.returns-clause-whole
returns-clause-whole g c =
    uncut_is_whole (width_of c.args.branch) (width_of-IsWidth c.args.branch) c.args.root.now c.args.range.now c.start-start.ensures.range c.args.proof.now c.check_range.result c.check_range.ensures.refusal c.uncut_ranges_are_whole.ensures c.requires

pub returns-clause-accepts : goal.returns-clause-accepts
returns-clause-accepts g c =
    true_is_accepted (width_of c.args.branch) (width_of-IsWidth c.args.branch) c.args.root.now c.args.range.now c.start-start.ensures.range c.args.proof.now c.check_range.result c.check_range.ensures.refusal c.true_ranges_are_accepted.ensures
