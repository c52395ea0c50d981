use Rattle.proof_model.proofs.WorkedChanges.{twice_is_refused}
use Rattle.proof_model.proofs.twice_is_refused.Goals as goal

pub returns : goal.returns
returns c = twice_is_refused
