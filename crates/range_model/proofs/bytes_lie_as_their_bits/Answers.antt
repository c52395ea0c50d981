use Rattle.range_model.proofs.Places.{bytes_lie_as_their_bits}
use Rattle.range_model.proofs.bytes_lie_as_their_bits.Goals as goal

pub returns : goal.returns
returns c = bytes_lie_as_their_bits
