use Rattle.view_model.proofs.ViewMaps.{made_on_parents}
use Rattle.view_model.proofs.made_on_parents.Goals as goal

pub returns : goal.returns
returns c = made_on_parents
