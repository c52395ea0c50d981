use Rattle.text_model.proofs.WorkedLines.{bad_script_lines}
use Rattle.text_model.proofs.bad_script_lines.Goals as goal

pub returns : goal.returns
returns c = bad_script_lines
