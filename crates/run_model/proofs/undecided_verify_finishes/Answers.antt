use Rattle.run_model.proofs.VerifyLines.{undecided_verify_finishes}
use Rattle.run_model.proofs.undecided_verify_finishes.Goals as goal

pub returns : goal.returns
returns c = undecided_verify_finishes
