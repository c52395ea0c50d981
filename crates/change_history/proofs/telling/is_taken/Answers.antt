use Rattle.change_history.proofs.TakenChanges.{fits_first, fits_behind}
use Rattle.change_history.proofs.telling.is_taken.Goals as goal

pub returns-then-others-eq0 : goal.returns-then-others-eq0
returns-then-others-eq0 c = fits_first c.args.others c.args.used c.args.size c.args.pairs c.args.bytes c.if-others-eq0.true
