use Rattle.text_model.proofs.FirstBad.{first_bad_line}
use Rattle.text_model.proofs.first_bad_line.Goals as goal

pub returns : goal.returns
returns c = first_bad_line
