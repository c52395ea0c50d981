use Rattle.history_model.proofs.Changes.{changes_rise}
use Rattle.history_model.proofs.changes_rise.Goals as goal

pub returns : goal.returns
returns c = changes_rise
