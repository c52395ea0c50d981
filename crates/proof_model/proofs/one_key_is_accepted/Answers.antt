use Rattle.proof_model.proofs.WorkedPoints.{one_key_is_accepted}
use Rattle.proof_model.proofs.one_key_is_accepted.Goals as goal

pub returns : goal.returns
returns c = one_key_is_accepted
