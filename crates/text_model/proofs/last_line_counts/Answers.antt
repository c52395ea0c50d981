use Rattle.text_model.proofs.LastLine.{last_line_counts}
use Rattle.text_model.proofs.last_line_counts.Goals as goal

pub returns : goal.returns
returns c = last_line_counts
