use Rattle.proof_model.proofs.WireChanges.{read_changes_are_spelled}
use Rattle.proof_model.proofs.read_changes_are_spelled.Goals as goal

pub returns : goal.returns
returns c = read_changes_are_spelled
