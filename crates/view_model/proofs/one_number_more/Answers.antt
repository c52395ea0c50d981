use Rattle.view_model.proofs.Commits.{one_number_more}
use Rattle.view_model.proofs.one_number_more.Goals as goal

pub returns : goal.returns
returns c = one_number_more
