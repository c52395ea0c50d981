use Rattle.session_model.proofs.NamedMaps.{changes_are_named}
use Rattle.session_model.proofs.changes_are_named.Goals as goal

pub returns : goal.returns
returns c = changes_are_named
