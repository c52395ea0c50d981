use Rattle.proof_model.proofs.WireRanges.{spelled_ranges_are_read}
use Rattle.proof_model.proofs.spelled_ranges_are_read.Goals as goal

pub returns : goal.returns
returns c = spelled_ranges_are_read
