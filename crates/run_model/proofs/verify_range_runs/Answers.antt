use Rattle.run_model.proofs.WorkedRuns.{verify_range_runs}
use Rattle.run_model.proofs.verify_range_runs.Goals as goal

pub returns : goal.returns
returns c = verify_range_runs
