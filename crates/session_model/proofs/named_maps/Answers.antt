use Rattle.session_model.proofs.NamedMaps.{named_maps}
use Rattle.session_model.proofs.named_maps.Goals as goal

pub returns : goal.returns
returns c = named_maps
