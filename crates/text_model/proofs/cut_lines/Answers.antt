use Rattle.text_model.proofs.LinesWithin.{cut_lines}
use Rattle.text_model.proofs.cut_lines.Goals as goal

pub returns : goal.returns
returns c = cut_lines
