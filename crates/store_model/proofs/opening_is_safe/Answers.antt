use Rattle.store_model.proofs.Appends.{opening_is_safe}
use Rattle.store_model.proofs.opening_is_safe.Goals as goal

pub returns : goal.returns
returns c = opening_is_safe
