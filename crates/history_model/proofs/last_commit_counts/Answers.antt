use Rattle.history_model.proofs.WorkedHistories.{last_commit_counts}
use Rattle.history_model.proofs.last_commit_counts.Goals as goal

pub returns : goal.returns
returns c = last_commit_counts
