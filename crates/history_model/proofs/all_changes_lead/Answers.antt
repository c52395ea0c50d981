use Rattle.history_model.proofs.Changes.{all_changes_lead}
use Rattle.history_model.proofs.all_changes_lead.Goals as goal

pub returns : goal.returns
returns c = all_changes_lead
