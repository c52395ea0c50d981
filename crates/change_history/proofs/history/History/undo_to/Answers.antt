use Rattle.change_history.specs.Histories.{roots}
use Rattle.change_history.proofs.CallAnswers.{leads_nowhere, leads_back, leads_want}
use Rattle.change_history.proofs.RootPlaces.{kept_there, kept_nowhere}
use Rattle.change_history.proofs.history.History.undo_to.Goals as goal

pub returns-in_default : goal.returns-in_default
returns-in_default c = record {
  held = kept_nowhere c.args.root.now (roots c.args.self.now) c.find.result c.find.ensures.first c.in_default.is;
  start = λ e. cc;
  recalls = λ w maps r. leads_nowhere w c.args.self.now maps r c.args.root.now c.find.result c.find.ensures.first c.in_default.is;
}

pub returns-in-Ok : goal.returns-in-Ok
returns-in-Ok c = record {
  held = kept_there c.args.root.now (roots c.args.self.now) c.find.result c.in-Some.place c.find.ensures.first c.in-Some.is;
  start = tt;
  recalls = λ w maps r. leads_back w c.args.self.now maps r c.args.root.now c.find.result c.find.ensures.first c.in-Some.place c.in-Some.is c.in-Ok.batch (c.in-Ok.ensures w maps r);
}

pub returns-in-Err : goal.returns-in-Err
returns-in-Err c = record {
  held = kept_there c.args.root.now (roots c.args.self.now) c.find.result c.in-Some.place c.find.ensures.first c.in-Some.is;
  start = λ e. cc;
  recalls = λ w maps r. leads_want w c.args.self.now maps r c.args.root.now c.find.result c.find.ensures.first c.in-Some.place c.in-Some.is;
}
