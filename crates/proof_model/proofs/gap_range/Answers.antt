use Rattle.proof_model.proofs.WorkedRanges.{gap_range}
use Rattle.proof_model.proofs.gap_range.Goals as goal

pub returns : goal.returns
returns c = gap_range
