use Rattle.history_model.proofs.Changes.{steps_add_up}
use Rattle.history_model.proofs.steps_add_up.Goals as goal

pub returns : goal.returns
returns c = steps_add_up
