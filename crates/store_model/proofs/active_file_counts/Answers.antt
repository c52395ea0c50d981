use Rattle.store_model.proofs.Journals.{active_file_counts}
use Rattle.store_model.proofs.active_file_counts.Goals as goal

pub returns : goal.returns
returns c = active_file_counts
