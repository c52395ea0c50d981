use Rattle.proof_model.proofs.WorkedRanges.{bad_flag_is_told}
use Rattle.proof_model.proofs.bad_flag_is_told.Goals as goal

pub returns : goal.returns
returns c = bad_flag_is_told
