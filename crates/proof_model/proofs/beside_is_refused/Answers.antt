use Rattle.proof_model.proofs.WorkedChanges.{beside_is_refused}
use Rattle.proof_model.proofs.beside_is_refused.Goals as goal

pub returns : goal.returns
returns c = beside_is_refused
