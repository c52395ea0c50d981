use Rattle.session_model.proofs.AcknowledgedCommits.{acknowledged_stand}
use Rattle.session_model.proofs.acknowledged_stand.Goals as goal

pub returns : goal.returns
returns c = acknowledged_stand
