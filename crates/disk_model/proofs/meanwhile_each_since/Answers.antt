use Rattle.disk_model.proofs.LeftSince.{each_since}
use Rattle.disk_model.proofs.meanwhile_each_since.Goals as goal

pub returns : goal.returns
returns g c = λ old new run image left. each_since run image left
