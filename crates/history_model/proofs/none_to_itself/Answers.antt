use Rattle.history_model.proofs.Changes.{none_to_itself}
use Rattle.history_model.proofs.none_to_itself.Goals as goal

pub returns : goal.returns
returns c = none_to_itself
