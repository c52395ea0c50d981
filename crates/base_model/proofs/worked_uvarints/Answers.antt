use Rattle.base_model.proofs.UvarintLemmas.{worked_uvarints}
use Rattle.base_model.proofs.worked_uvarints.Goals as goal

pub returns : goal.returns
returns c = worked_uvarints
