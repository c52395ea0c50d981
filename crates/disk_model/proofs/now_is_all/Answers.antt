use Rattle.disk_model.proofs.LeftSince.{only_now}
use Rattle.disk_model.proofs.now_is_all.Goals as goal

pub returns : goal.returns
returns c = only_now
