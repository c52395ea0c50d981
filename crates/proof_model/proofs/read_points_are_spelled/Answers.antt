use Rattle.proof_model.proofs.WirePoints.{read_points_are_spelled}
use Rattle.proof_model.proofs.read_points_are_spelled.Goals as goal

pub returns : goal.returns
returns c = read_points_are_spelled
