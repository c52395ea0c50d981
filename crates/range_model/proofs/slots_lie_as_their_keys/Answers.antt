use Rattle.range_model.proofs.Places.{slots_lie_as_their_keys}
use Rattle.range_model.proofs.slots_lie_as_their_keys.Goals as goal

pub returns : goal.returns
returns c = slots_lie_as_their_keys
