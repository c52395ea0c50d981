use Rattle.run_model.proofs.WorkedRuns.{verify_changes_runs}
use Rattle.run_model.proofs.verify_changes_runs.Goals as goal

pub returns : goal.returns
returns c = verify_changes_runs
