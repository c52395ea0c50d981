use Rattle.view_model.proofs.Commits.{commits_end_the_others}
use Rattle.view_model.proofs.commits_end_the_others.Goals as goal

pub returns : goal.returns
returns c = commits_end_the_others
