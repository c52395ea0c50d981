use Rattle.session_model.proofs.DecidedScripts.{decided_stops}
use Rattle.session_model.proofs.decided_stops.Goals as goal

pub returns : goal.returns
returns c = decided_stops
