use Rattle.session_model.proofs.WorkedScripts.{view_scripts}
use Rattle.session_model.proofs.view_scripts.Goals as goal

pub returns : goal.returns
returns c = view_scripts
