use Rattle.std.proofs.Common.{◌∙◌, sym}
use Rattle.view_model.specs.Calls.{parent_refused, limit_passed}
use Rattle.view_stack.specs.Forests.{forest_of}
use Rattle.view_stack.specs.ViewAnswers.{number_in}
use Rattle.view_stack.proofs.Refusals.{ok_admits, refused_by_limit}
use Rattle.view_stack.proofs.tree.Tree.admit.Goals as goal

pub returns-in-Some : goal.returns-in-Some
returns-in-Some c =
    let f = forest_of c.args.self.now in
    let p = number_in c.args.parent in
    let in' = ok_admits (parent_refused f p) c.in-Ok.number c.in-Ok.ensures in
    refused_by_limit (parent_refused f p) (limit_passed f p c.args.batch.now) c.in-Some.fault in'.0 (sym c.in-Some.is ∙ c.limit_passed.ensures p in'.1.1)
