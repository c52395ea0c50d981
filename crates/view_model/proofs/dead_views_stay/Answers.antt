use Rattle.view_model.proofs.DeadViews.{dead_views_stay}
use Rattle.view_model.proofs.dead_views_stay.Goals as goal

pub returns : goal.returns
returns c = dead_views_stay
