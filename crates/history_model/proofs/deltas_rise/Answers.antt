use Rattle.history_model.proofs.Changes.{deltas_rise}
use Rattle.history_model.proofs.deltas_rise.Goals as goal

pub returns : goal.returns
returns c = deltas_rise
