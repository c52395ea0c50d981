use Rattle.proof_model.proofs.WorkedChanges.{one_change}
use Rattle.proof_model.proofs.one_change.Goals as goal

pub returns : goal.returns
returns c = one_change c.changes_of_three.ensures
