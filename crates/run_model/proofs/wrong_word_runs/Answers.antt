use Rattle.run_model.proofs.WorkedRuns.{wrong_word_runs}
use Rattle.run_model.proofs.wrong_word_runs.Goals as goal

pub returns : goal.returns
returns c = wrong_word_runs
