use Rattle.text_model.proofs.RootText.{root_lines}
use Rattle.text_model.proofs.root_lines.Goals as goal

pub returns : goal.returns
returns c = root_lines
