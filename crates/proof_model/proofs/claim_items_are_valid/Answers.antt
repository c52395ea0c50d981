use Rattle.proof_model.proofs.ClaimItems.{claim_items_are_valid}
use Rattle.proof_model.proofs.claim_items_are_valid.Goals as goal

pub returns : goal.returns
returns c = claim_items_are_valid c.slots_lie_as_their_keys.ensures c.bytes_lie_as_their_bits.ensures
