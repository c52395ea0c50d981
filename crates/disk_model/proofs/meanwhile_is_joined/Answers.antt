use Rattle.disk_model.proofs.Meanwhile.{joined}
use Rattle.disk_model.proofs.meanwhile_is_joined.Goals as goal

pub returns : goal.returns
returns g c = λ old mid new first second. joined first second
