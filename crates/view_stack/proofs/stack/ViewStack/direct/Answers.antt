use Rattle.std.proofs.Common.{◌≡◌, ap, sym, ◌∙◌, length, ◌-◌, arith, subst}
use Rattle.view_model.specs.Calls.{directed}
use Rattle.view_stack.specs.declared.slot.Kept.TheVariants.{Committed}
use Rattle.view_stack.specs.Slots.{TreeState}
use Rattle.view_stack.specs.Forests.{StackState, IsStack, forest_of}
use Rattle.view_stack.proofs.WrittenViews.{length-with_more}
use Rattle.view_stack.proofs.ManyViewsEnd.{count_same}
use Rattle.view_stack.proofs.Forests.{count-forest}
use Rattle.view_stack.proofs.ForestGrowth.{forest_direct}
use Rattle.view_stack.proofs.Stacks.{stack_direct}
use Rattle.view_stack.proofs.stack.ViewStack.direct.Goals as goal

pub add_committed-requires-clause-few : goal.add_committed-requires-clause-few
add_committed-requires-clause-few c =
    let count = count_same c.self.inside.tree c.end_above.new.self c.end_above.ensures.ends.parents_stay in
    let given = ap (λ (s : StackState). length s.forest.views) c.self.view_is in
    omega (arith, c.requires.few, count, given, count-forest c.self.inside.tree)

pub invariant_of-self : goal.invariant_of-self
invariant_of-self c =
    let given = ap (λ (s : StackState). length s.forest.views) c.self.view_is in
    let room = ap (λ (s : StackState). s.room) c.self.view_is in
    subst (λ t. IsStack t (c.self.inside.room - 1)) (sym c.add_committed.ensures)
    (stack_direct c.self.inside.tree c.end_above.new.self c.self.inside.room c.self.invariant (omega (arith, c.requires.few, given, count-forest c.self.inside.tree)) (omega (arith, c.requires.room, room)) c.end_above.ensures.sound c.end_above.ensures.top c.end_above.ensures.ends)

pub returns-clause-step : goal.returns-clause-step
returns-clause-step c =
    let t = c.self.inside.tree in
    let v = c.end_above.new.self in
    let tree = c.self.invariant.tree in
    let same : forest_of t ≡ c.args.self.now.forest = ap (λ (s : StackState). s.forest) c.self.view_is in
    let given = ap (λ (s : StackState). length s.forest.views) c.self.view_is in
    let count = count_same t v c.end_above.ensures.ends.parents_stay in
    let long = length-with_more v (record { parent = v.last; first = 0; next = 0; prev = 0; kept = Committed }) in (
      c.requires.few,
      omega (arith, c.count-number.ensures, ap (λ (u : TreeState). length u.slots) c.add_committed.ensures, count, long, given, count-forest t),
      ap forest_of c.add_committed.ensures ∙ (forest_direct t v tree.sound.linked.rooted tree.marked c.end_above.ensures.sound c.end_above.ensures.top c.end_above.ensures.ends ∙ ap directed same),
    )
