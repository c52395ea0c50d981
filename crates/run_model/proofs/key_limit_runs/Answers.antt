use Rattle.run_model.proofs.WorkedRuns.{key_limit_runs}
use Rattle.run_model.proofs.key_limit_runs.Goals as goal

pub returns : goal.returns
returns c = key_limit_runs
