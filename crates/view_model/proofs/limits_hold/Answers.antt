use Rattle.view_model.proofs.Limits.{limits_hold}
use Rattle.view_model.proofs.limits_hold.Goals as goal

pub returns : goal.returns
returns c = limits_hold
