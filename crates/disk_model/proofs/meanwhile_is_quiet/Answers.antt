use Rattle.disk_model.proofs.Meanwhile.{quiet}
use Rattle.disk_model.proofs.meanwhile_is_quiet.Goals as goal

pub returns : goal.returns
returns g c = λ old mid new run same. quiet run same
