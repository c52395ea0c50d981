use Rattle.proof_model.proofs.WireChanges.{spelled_changes_are_read}
use Rattle.proof_model.proofs.spelled_changes_are_read.Goals as goal

pub returns : goal.returns
returns c = spelled_changes_are_read
