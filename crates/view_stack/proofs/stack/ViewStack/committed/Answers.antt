use Rattle.std.proofs.Common.{◌≡◌, ap, sym, ◌∙◌, inr, subst}
use Rattle.view_model.specs.Forest.{Forest, state}
use Rattle.view_model.specs.Calls.{MayCommit, committed}
use Rattle.view_stack.specs.Forests.{StackState, IsStack, forest_of}
use Rattle.view_stack.proofs.Refusals.{live_in_tree}
use Rattle.view_stack.proofs.Commits.{forest_taken}
use Rattle.view_stack.proofs.Stacks.{next_on, some_on, ends_both, stack_taken}
use Rattle.view_stack.proofs.stack.ViewStack.committed.Goals as goal

pub known-number-requires-clause-live : goal.known-number-requires-clause-live
known-number-requires-clause-live c = live_in_tree c.self.inside.tree c.args.id.number c.self.invariant.tree (ap (λ (s : StackState). state s.forest c.args.id.number) c.self.view_is ∙ c.requires.0)

pub end_above-requires-clause-on : goal.end_above-requires-clause-on
end_above-requires-clause-on c =
    let may = subst (λ (s : StackState). MayCommit s.forest c.args.id.number) (sym c.self.view_is) c.requires in
    inr (next_on c.self.inside.tree c.known-number.result c.self.invariant.tree (subst (MayCommit (forest_of c.self.inside.tree)) (sym c.known-number.ensures) may))

pub end_below-requires-clause-on : goal.end_below-requires-clause-on
end_below-requires-clause-on c =
    let may = subst (λ (s : StackState). MayCommit s.forest c.args.id.number) (sym c.self.view_is) c.requires in
    some_on c.self.inside.tree c.end_above.new.self c.known-number.result (next_on c.self.inside.tree c.known-number.result c.self.invariant.tree (subst (MayCommit (forest_of c.self.inside.tree)) (sym c.known-number.ensures) may)) c.end_above.ensures.on

pub invariant_of-self : goal.invariant_of-self
invariant_of-self c =
    let e = ends_both c.self.inside.tree c.end_above.new.self c.end_below.new.self c.known-number.result c.end_above.ensures.ends c.end_below.ensures.ends in
    subst (λ t. IsStack t c.self.inside.room) (sym c.take.ensures)
    (stack_taken c.self.inside.tree c.end_below.new.self c.self.inside.room c.known-number.result c.self.invariant c.end_below.ensures.sound (record { on = c.end_below.ensures.on; top = c.end_below.ensures.top; alone = c.end_below.ensures.alone }) e)

pub returns-clause-step : goal.returns-clause-step
returns-clause-step c =
    let t = c.self.inside.tree in
    let tree = c.self.invariant.tree in
    let same : forest_of t ≡ c.args.self.now.forest = ap (λ (s : StackState). s.forest) c.self.view_is in
    let e = ends_both t c.end_above.new.self c.end_below.new.self c.known-number.result c.end_above.ensures.ends c.end_below.ensures.ends in (
      c.requires,
      ap forest_of c.take.ensures
          ∙ (forest_taken t c.end_below.new.self c.known-number.result tree.sound.linked.rooted tree.marked c.end_below.ensures.sound (record { on = c.end_below.ensures.on; top = c.end_below.ensures.top; alone = c.end_below.ensures.alone }) e
          ∙ (ap (committed (forest_of t)) c.known-number.ensures ∙ ap (λ (f : Forest). committed f c.args.id.number) same)),
    )
