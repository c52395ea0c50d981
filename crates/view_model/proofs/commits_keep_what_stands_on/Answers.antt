use Rattle.view_model.proofs.Commits.{commits_keep_what_stands_on}
use Rattle.view_model.proofs.commits_keep_what_stands_on.Goals as goal

pub returns : goal.returns
returns c = commits_keep_what_stands_on
