use Rattle.run_model.proofs.WorkedRuns.{verify_runs}
use Rattle.run_model.proofs.verify_runs.Goals as goal

pub returns : goal.returns
returns c = verify_runs
