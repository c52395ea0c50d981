use Rattle.history_model.proofs.Cuts.{held_is_longest}
use Rattle.history_model.proofs.held_is_longest.Goals as goal

pub returns : goal.returns
returns c = held_is_longest
