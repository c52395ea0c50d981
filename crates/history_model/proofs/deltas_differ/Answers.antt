use Rattle.history_model.proofs.Changes.{deltas_differ}
use Rattle.history_model.proofs.deltas_differ.Goals as goal

pub returns : goal.returns
returns c = deltas_differ
