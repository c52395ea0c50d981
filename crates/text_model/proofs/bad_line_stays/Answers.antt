use Rattle.text_model.proofs.LinesWithin.{bad_line_stays}
use Rattle.text_model.proofs.bad_line_stays.Goals as goal

pub returns : goal.returns
returns c = bad_line_stays
