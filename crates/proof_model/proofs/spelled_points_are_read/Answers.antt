use Rattle.proof_model.proofs.WirePoints.{spelled_points_are_read}
use Rattle.proof_model.proofs.spelled_points_are_read.Goals as goal

pub returns : goal.returns
returns c = spelled_points_are_read
