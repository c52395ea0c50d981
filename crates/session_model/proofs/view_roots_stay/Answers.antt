use Rattle.session_model.proofs.ViewRoots.{view_roots_stay}
use Rattle.session_model.proofs.view_roots_stay.Goals as goal

pub returns : goal.returns
returns c = view_roots_stay
