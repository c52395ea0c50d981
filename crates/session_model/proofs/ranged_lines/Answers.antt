use Rattle.session_model.proofs.WorkedScripts.{ranged_lines}
use Rattle.session_model.proofs.ranged_lines.Goals as goal

pub returns : goal.returns
returns c = ranged_lines
