use Rattle.view_model.proofs.ViewMaps.{directs_end_all}
use Rattle.view_model.proofs.directs_end_all.Goals as goal

pub returns : goal.returns
returns c = directs_end_all
