use Rattle.proof_model.proofs.TakenEntries.{taken_is_longest}
use Rattle.proof_model.proofs.taken_is_longest.Goals as goal

pub returns : goal.returns
returns c = taken_is_longest
