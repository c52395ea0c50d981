use Rattle.text_model.proofs.LinesWithin.{overlong_lines_are_bad}
use Rattle.text_model.proofs.overlong_lines_are_bad.Goals as goal

pub returns : goal.returns
returns c = overlong_lines_are_bad
