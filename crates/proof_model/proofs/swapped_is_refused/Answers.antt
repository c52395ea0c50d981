use Rattle.proof_model.proofs.WorkedRanges.{swapped_is_refused}
use Rattle.proof_model.proofs.swapped_is_refused.Goals as goal

pub returns : goal.returns
returns c = swapped_is_refused
