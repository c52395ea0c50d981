use Rattle.proof_model.proofs.AcceptedChanges.{accepted_changes_are_true}
use Rattle.proof_model.proofs.accepted_changes_are_true.Goals as goal

pub returns : goal.returns
returns c = accepted_changes_are_true c.slots_lie_as_their_keys.ensures c.bytes_lie_as_their_bits.ensures
