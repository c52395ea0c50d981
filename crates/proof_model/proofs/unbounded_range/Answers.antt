use Rattle.proof_model.proofs.WorkedRanges.{unbounded_range}
use Rattle.proof_model.proofs.unbounded_range.Goals as goal

pub returns : goal.returns
returns c = unbounded_range
