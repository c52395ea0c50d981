use Rattle.proof_model.proofs.AcceptedRanges.{uncut_ranges_are_whole}
use Rattle.proof_model.proofs.uncut_ranges_are_whole.Goals as goal

pub returns : goal.returns
returns c = uncut_ranges_are_whole c.slots_lie_as_their_keys.ensures c.bytes_lie_as_their_bits.ensures
