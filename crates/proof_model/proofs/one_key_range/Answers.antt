use Rattle.proof_model.proofs.WorkedRanges.{one_key_range}
use Rattle.proof_model.proofs.one_key_range.Goals as goal

pub returns : goal.returns
returns c = one_key_range
