use Rattle.base_model.proofs.UvarintLemmas.{uvarints_prefix_free}
use Rattle.base_model.proofs.uvarints_are_prefix_free.Goals as goal

pub returns : goal.returns
returns c = uvarints_prefix_free
