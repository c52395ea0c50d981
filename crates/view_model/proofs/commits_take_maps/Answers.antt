use Rattle.view_model.proofs.ViewMaps.{commits_take_maps}
use Rattle.view_model.proofs.commits_take_maps.Goals as goal

pub returns : goal.returns
returns c = commits_take_maps
