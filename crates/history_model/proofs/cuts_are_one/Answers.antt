use Rattle.history_model.proofs.Cuts.{cuts_are_one}
use Rattle.history_model.proofs.cuts_are_one.Goals as goal

pub returns : goal.returns
returns c = cuts_are_one
