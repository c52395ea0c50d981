use Rattle.proof_model.proofs.WorkedRanges.{outside_is_refused}
use Rattle.proof_model.proofs.outside_is_refused.Goals as goal

pub returns : goal.returns
returns c = outside_is_refused
