use Rattle.session_model.proofs.WorkedScripts.{proved_lines}
use Rattle.session_model.proofs.proved_lines.Goals as goal

pub returns : goal.returns
returns c = proved_lines
