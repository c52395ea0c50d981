use Rattle.run_model.proofs.RootDecided.{root_stays}
use Rattle.run_model.proofs.decided_stays.Goals as goal

pub returns : goal.returns
returns c = root_stays
