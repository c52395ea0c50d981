use Rattle.text_model.proofs.WorkedLines.{good_lines}
use Rattle.text_model.proofs.good_lines.Goals as goal

pub returns : goal.returns
returns c = good_lines
