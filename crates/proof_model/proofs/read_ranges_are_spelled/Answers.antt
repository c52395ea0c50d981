use Rattle.proof_model.proofs.WireRanges.{read_ranges_are_spelled}
use Rattle.proof_model.proofs.read_ranges_are_spelled.Goals as goal

pub returns : goal.returns
returns c = read_ranges_are_spelled
