use Rattle.run_model.proofs.RootDecided.{undecided_root_finishes}
use Rattle.run_model.proofs.undecided_root_finishes.Goals as goal

pub returns : goal.returns
returns c = undecided_root_finishes
