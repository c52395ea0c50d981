use Rattle.proof_model.proofs.WorkedPoints.{child_point}
use Rattle.proof_model.proofs.child_point.Goals as goal

pub returns : goal.returns
returns c = child_point
