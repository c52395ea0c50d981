use Rattle.text_model.proofs.NumberedText.{numbered_lines}
use Rattle.text_model.proofs.numbered_lines.Goals as goal

pub returns : goal.returns
returns c = numbered_lines
