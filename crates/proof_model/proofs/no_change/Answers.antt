use Rattle.proof_model.proofs.WorkedChanges.{no_change}
use Rattle.proof_model.proofs.no_change.Goals as goal

pub returns : goal.returns
returns c = no_change c.none_to_itself.ensures
