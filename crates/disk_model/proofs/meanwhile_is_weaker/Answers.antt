use Rattle.disk_model.proofs.Meanwhile.{weaker}
use Rattle.disk_model.proofs.meanwhile_is_weaker.Goals as goal

pub returns : goal.returns
returns g c = λ old new run within. weaker run within
