use Rattle.store_model.proofs.Appends.{staging_is_safe}
use Rattle.store_model.proofs.staging_is_safe.Goals as goal

pub returns : goal.returns
returns c = staging_is_safe
