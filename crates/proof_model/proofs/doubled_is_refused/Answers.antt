use Rattle.proof_model.proofs.WorkedPoints.{doubled_is_refused}
use Rattle.proof_model.proofs.doubled_is_refused.Goals as goal

pub returns : goal.returns
returns c = doubled_is_refused
