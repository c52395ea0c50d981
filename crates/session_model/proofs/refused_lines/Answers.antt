use Rattle.session_model.proofs.WorkedScripts.{refused_lines}
use Rattle.session_model.proofs.refused_lines.Goals as goal

pub returns : goal.returns
returns c = refused_lines
