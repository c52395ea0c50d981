use Rattle.std.proofs.Common.{ap, sym, ◌∙◌}
use Rattle.view_model.specs.Forest.{state}
use Rattle.view_model.specs.Maps.{changes_of}
use Rattle.view_stack.specs.Forests.{StackState}
use Rattle.view_stack.proofs.Refusals.{live_in_tree, changes-held}
use Rattle.view_stack.proofs.stack.ViewStack.batch.Goals as goal

pub batch-requires-clause-live : goal.batch-requires-clause-live
batch-requires-clause-live c = live_in_tree c.self.inside.tree c.args.id.number c.self.invariant.tree (ap (λ (s : StackState). state s.forest c.args.id.number) c.self.view_is ∙ c.requires)

pub returns : goal.returns
returns c =
    let live = live_in_tree c.self.inside.tree c.args.id.number c.self.invariant.tree (ap (λ (s : StackState). state s.forest c.args.id.number) c.self.view_is ∙ c.requires) in
    sym (changes-held c.self.inside.tree c.args.id.number c.batch.result.now c.self.invariant.tree live c.batch.ensures) ∙ ap (λ (s : StackState). changes_of s.forest c.args.id.number) c.self.view_is
