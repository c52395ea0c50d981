use Rattle.proof_model.proofs.WorkedPoints.{one_key_points}
use Rattle.proof_model.proofs.one_key_points.Goals as goal

pub returns : goal.returns
returns c = one_key_points
