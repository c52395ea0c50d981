use Rattle.text_model.proofs.WorkedLines.{script_lines}
use Rattle.text_model.proofs.script_lines.Goals as goal

pub returns : goal.returns
returns c = script_lines
