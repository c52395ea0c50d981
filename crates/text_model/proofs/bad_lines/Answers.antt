use Rattle.text_model.proofs.WorkedLines.{bad_lines}
use Rattle.text_model.proofs.bad_lines.Goals as goal

pub returns : goal.returns
returns c = bad_lines
