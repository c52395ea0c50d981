use Rattle.view_model.proofs.ViewMaps.{live_maps_stay}
use Rattle.view_model.proofs.live_maps_stay.Goals as goal

pub returns : goal.returns
returns c = live_maps_stay
