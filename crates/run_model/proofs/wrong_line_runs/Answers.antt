use Rattle.run_model.proofs.WorkedRuns.{wrong_line_runs}
use Rattle.run_model.proofs.wrong_line_runs.Goals as goal

pub returns : goal.returns
returns c = wrong_line_runs
