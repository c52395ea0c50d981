use Rattle.run_model.proofs.WorkedRuns.{range_runs}
use Rattle.run_model.proofs.range_runs.Goals as goal

pub returns : goal.returns
returns c = range_runs
