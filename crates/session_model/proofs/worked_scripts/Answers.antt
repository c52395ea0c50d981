use Rattle.session_model.proofs.WorkedScripts.{worked_scripts}
use Rattle.session_model.proofs.worked_scripts.Goals as goal

pub returns : goal.returns
returns c = worked_scripts
