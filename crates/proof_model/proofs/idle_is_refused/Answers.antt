use Rattle.proof_model.proofs.WorkedChanges.{idle_is_refused}
use Rattle.proof_model.proofs.idle_is_refused.Goals as goal

pub returns : goal.returns
returns c = idle_is_refused
