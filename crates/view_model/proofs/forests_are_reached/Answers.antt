use Rattle.view_model.proofs.Forests.{forests_are_reached}
use Rattle.view_model.proofs.forests_are_reached.Goals as goal

pub returns : goal.returns
returns c = forests_are_reached
