use Rattle.view_model.proofs.Commits.{next_is_told}
use Rattle.view_model.proofs.next_is_told.Goals as goal

pub returns : goal.returns
returns c = next_is_told
