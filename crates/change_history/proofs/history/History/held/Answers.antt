use Rattle.std.proofs.Common.{◌∙◌, ap}
use Rattle.std.specs.Prelude.{is_some}
use Rattle.change_history.specs.Histories.{roots}
use Rattle.change_history.proofs.RootPlaces.{told_held, told_kept}
use Rattle.change_history.proofs.history.History.held.Goals as goal

pub returns : goal.returns
returns c = record {
  roots = c.is_some.ensures ∙ ap is_some c.find.ensures.first ∙ told_kept c.args.root.now (roots c.args.self.now) 0;
  recalls = λ w maps r. c.is_some.ensures ∙ told_held w c.args.self.now maps c.args.root.now c.find.result c.find.ensures.first r;
}
