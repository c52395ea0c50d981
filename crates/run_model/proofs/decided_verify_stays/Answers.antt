use Rattle.run_model.proofs.VerifyLines.{decided_verify_stays}
use Rattle.run_model.proofs.decided_verify_stays.Goals as goal

pub returns : goal.returns
returns c = decided_verify_stays
