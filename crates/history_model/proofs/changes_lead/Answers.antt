use Rattle.history_model.proofs.Changes.{changes_lead}
use Rattle.history_model.proofs.changes_lead.Goals as goal

pub returns : goal.returns
returns c = changes_lead
