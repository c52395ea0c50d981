use Rattle.proof_model.proofs.TrueChanges.{true_changes_are_accepted}
use Rattle.proof_model.proofs.true_changes_are_accepted.Goals as goal

pub returns : goal.returns
returns c = true_changes_are_accepted c.slots_lie_as_their_keys.ensures c.bytes_lie_as_their_bits.ensures c.changes_lead.ensures c.changes_rise.ensures
