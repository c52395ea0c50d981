use Rattle.run_model.proofs.WorkedRuns.{empty_runs}
use Rattle.run_model.proofs.empty_runs.Goals as goal

pub returns : goal.returns
returns c = empty_runs
