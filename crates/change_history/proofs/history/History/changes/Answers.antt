use Rattle.std.proofs.Common.{◌∙◌, ap}
use Rattle.std.specs.Prelude.{is_some}
use Rattle.change_history.specs.Histories.{roots}
use Rattle.change_history.proofs.CallAnswers.{tells_no_end, tells_no_start, tells_changes, tells_want}
use Rattle.change_history.proofs.RootPlaces.{kept_there, kept_nowhere, start_nowhere, start_told}
use Rattle.change_history.proofs.history.History.changes.Goals as goal

pub returns-in_default : goal.returns-in_default
returns-in_default c = record {
  held = kept_nowhere c.args.to.now (roots c.args.self.now) c.find.result c.find.ensures.first c.in_default.is;
  start = start_nowhere c.args.from.now c.args.to.now (roots c.args.self.now) c.find.result c.find.ensures.first c.in_default.is;
  recalls = λ w maps r. tells_no_end w c.args.self.now maps r c.args.from.now c.args.to.now c.args.range.now c.args.pairs c.args.bytes c.find.result c.find.ensures.first c.in_default.is;
}

pub returns-in_default-find : goal.returns-in_default-find
returns-in_default-find c = record {
  held = kept_there c.args.to.now (roots c.args.self.now) c.find.result c.in-Some.later c.find.ensures.first c.in-Some.is;
  start = start_told c.args.from.now c.args.to.now (roots c.args.self.now) c.find.result c.find-2.result c.in-Some.later c.find.ensures.first c.in-Some.is c.find-2.ensures.first ∙ ap is_some c.in_default-find.is;
  recalls = λ w maps r. tells_no_start w c.args.self.now maps r c.args.from.now c.args.to.now c.args.range.now c.args.pairs c.args.bytes c.find.result c.find.ensures.first c.in-Some.later c.in-Some.is c.find-2.result c.find-2.ensures.first c.in_default-find.is;
}

pub returns-in-Ok : goal.returns-in-Ok
returns-in-Ok c = record {
  held = kept_there c.args.to.now (roots c.args.self.now) c.find.result c.in-Some.later c.find.ensures.first c.in-Some.is;
  start = start_told c.args.from.now c.args.to.now (roots c.args.self.now) c.find.result c.find-2.result c.in-Some.later c.find.ensures.first c.in-Some.is c.find-2.ensures.first ∙ ap is_some c.in-Some-find.is;
  recalls = λ w maps r. tells_changes w c.args.self.now maps r c.args.from.now c.args.to.now c.args.range.now c.args.pairs c.args.bytes c.find.result c.find.ensures.first c.in-Some.later c.in-Some.is c.find-2.result c.find-2.ensures.first c.in-Some-find.former c.in-Some-find.is c.in-Ok.taken c.in-Ok.ensures;
}

pub returns-in-Err : goal.returns-in-Err
returns-in-Err c = record {
  held = kept_there c.args.to.now (roots c.args.self.now) c.find.result c.in-Some.later c.find.ensures.first c.in-Some.is;
  start = start_told c.args.from.now c.args.to.now (roots c.args.self.now) c.find.result c.find-2.result c.in-Some.later c.find.ensures.first c.in-Some.is c.find-2.ensures.first ∙ ap is_some c.in-Some-find.is;
  recalls = λ w maps r. tells_want w c.args.self.now maps r c.args.from.now c.args.to.now c.args.range.now c.args.pairs c.args.bytes c.find.result c.find.ensures.first c.in-Some.later c.in-Some.is c.find-2.result c.find-2.ensures.first c.in-Some-find.former c.in-Some-find.is;
}
