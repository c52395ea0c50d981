use Rattle.disk_model.proofs.Meanwhile.{one_or_none}
use Rattle.disk_model.proofs.meanwhile_is_one_call.Goals as goal

pub returns : goal.returns
returns g c = λ old new file change tick only. one_or_none _ old new file change tick only
