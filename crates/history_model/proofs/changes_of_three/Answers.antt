use Rattle.history_model.proofs.WorkedHistories.{changes_of_three}
use Rattle.history_model.proofs.changes_of_three.Goals as goal

pub returns : goal.returns
returns c = changes_of_three
