use Rattle.text_model.proofs.PointLines.{range_lines_are_within}
use Rattle.text_model.proofs.range_lines_are_within.Goals as goal

pub returns : goal.returns
returns c = range_lines_are_within
