use Rattle.text_model.proofs.WorkedLines.{proof_lines}
use Rattle.text_model.proofs.proof_lines.Goals as goal

pub returns : goal.returns
returns c = proof_lines
