use Rattle.text_model.proofs.ValueText.{value_lines}
use Rattle.text_model.proofs.value_lines.Goals as goal

pub returns : goal.returns
returns c = value_lines
