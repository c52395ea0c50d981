use Rattle.session_model.proofs.HeldMaps.{held_of_all_maps}
use Rattle.session_model.proofs.held_of_all_maps.Goals as goal

pub returns : goal.returns
returns c = held_of_all_maps
