use Rattle.session_model.proofs.MapsOfScripts.{maps_end_there}
use Rattle.session_model.proofs.maps_end_there.Goals as goal

pub returns : goal.returns
returns c = maps_end_there
