use Rattle.text_model.proofs.PointLines.{point_lines_are_within}
use Rattle.text_model.proofs.point_lines_are_within.Goals as goal

pub returns : goal.returns
returns c = point_lines_are_within
