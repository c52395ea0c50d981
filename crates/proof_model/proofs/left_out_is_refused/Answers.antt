use Rattle.proof_model.proofs.WorkedRanges.{left_out_is_refused}
use Rattle.proof_model.proofs.left_out_is_refused.Goals as goal

pub returns : goal.returns
returns c = left_out_is_refused
