use Rattle.disk_model.proofs.Meanwhile.{at_last}
use Rattle.disk_model.proofs.meanwhile_at_last.Goals as goal

pub returns : goal.returns
returns g c = λ old new first run. at_last first run
