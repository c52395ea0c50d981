use Rattle.batch_model.proofs.SetChanges.{set_changes_keep_batches}
use Rattle.batch_model.proofs.set_changes_keep_batches.Goals as goal

pub returns : goal.returns
returns c = set_changes_keep_batches
