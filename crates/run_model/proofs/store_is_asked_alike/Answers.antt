use Rattle.run_model.proofs.VerifyLines.{store_is_asked_alike}
use Rattle.run_model.proofs.store_is_asked_alike.Goals as goal

pub returns : goal.returns
returns c = store_is_asked_alike
