use Rattle.history_model.proofs.WorkedHistories.{heavy_stands_alone}
use Rattle.history_model.proofs.heavy_stands_alone.Goals as goal

pub returns : goal.returns
returns c = heavy_stands_alone
