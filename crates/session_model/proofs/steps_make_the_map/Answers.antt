use Rattle.session_model.proofs.MapsOfScripts.{steps_make_the_map}
use Rattle.session_model.proofs.steps_make_the_map.Goals as goal

pub returns : goal.returns
returns c = steps_make_the_map
