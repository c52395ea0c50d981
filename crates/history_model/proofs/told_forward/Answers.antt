use Rattle.history_model.proofs.WorkedHistories.{told_forward}
use Rattle.history_model.proofs.told_forward.Goals as goal

pub returns : goal.returns
returns c = told_forward
