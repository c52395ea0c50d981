use Rattle.proof_model.proofs.WorkedRanges.{cut_range}
use Rattle.proof_model.proofs.cut_range.Goals as goal

pub returns : goal.returns
returns c = cut_range
