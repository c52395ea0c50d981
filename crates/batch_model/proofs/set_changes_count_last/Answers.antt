use Rattle.batch_model.proofs.SetChanges.{set_changes_count_last}
use Rattle.batch_model.proofs.set_changes_count_last.Goals as goal

pub returns : goal.returns
returns c = set_changes_count_last
