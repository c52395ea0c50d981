use Rattle.proof_model.proofs.WorkedPoints.{two_key_point}
use Rattle.proof_model.proofs.two_key_point.Goals as goal

pub returns : goal.returns
returns c = two_key_point
