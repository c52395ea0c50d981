use Rattle.run_model.proofs.WorkedRuns.{one_pair_runs}
use Rattle.run_model.proofs.one_pair_runs.Goals as goal

pub returns : goal.returns
returns c = one_pair_runs
