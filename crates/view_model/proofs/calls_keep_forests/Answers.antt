use Rattle.view_model.proofs.Forests.{calls_keep_forests}
use Rattle.view_model.proofs.calls_keep_forests.Goals as goal

pub returns : goal.returns
returns c = calls_keep_forests
