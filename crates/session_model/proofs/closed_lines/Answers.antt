use Rattle.session_model.proofs.WorkedScripts.{closed_lines}
use Rattle.session_model.proofs.closed_lines.Goals as goal

pub returns : goal.returns
returns c = closed_lines
