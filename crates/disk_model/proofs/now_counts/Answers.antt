use Rattle.disk_model.proofs.LeftSince.{counts_now}
use Rattle.disk_model.proofs.now_counts.Goals as goal

pub returns : goal.returns
returns c = counts_now
