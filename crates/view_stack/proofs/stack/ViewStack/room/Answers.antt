use Rattle.std.proofs.Common.{ap, sym, ◌∙◌, subst, arith, length}
use Rattle.view_stack.specs.Forests.{StackState, IsStack, forest_of}
use Rattle.view_stack.proofs.Forests.{count-forest}
use Rattle.view_stack.proofs.Stacks.{forest_reserved, stack_reserved, stack_with_room, went_well}
use Rattle.view_stack.proofs.stack.ViewStack.room.Goals as goal

pub returns-then-count-ge-NUMBER_LIMIT-clause-fault : goal.returns-then-count-ge-NUMBER_LIMIT-clause-fault
returns-then-count-ge-NUMBER_LIMIT-clause-fault c = omega (arith, c.count.ensures, ap (λ (s : StackState). length s.forest.views) c.self.view_is, count-forest c.self.inside.tree)

pub invariant_of-self : goal.invariant_of-self
invariant_of-self c = subst (λ t. IsStack t c.self.inside.room) (sym c.reserve.ensures.same) (stack_reserved c.self.inside.tree c.reserve.new.self.capacity c.self.inside.room c.self.invariant c.reserve.ensures.grows)

pub returns-then-is_err-clause-fault : goal.returns-then-is_err-clause-fault
returns-then-is_err-clause-fault c = omega (arith, c.count.ensures, ap (λ (s : StackState). length s.forest.views) c.self.view_is, count-forest c.self.inside.tree)

pub returns-then-is_err-clause-forest : goal.returns-then-is_err-clause-forest
returns-then-is_err-clause-forest c = ap forest_of c.reserve.ensures.same ∙ (forest_reserved c.self.inside.tree c.reserve.new.self.capacity ∙ ap (λ (s : StackState). s.forest) c.self.view_is)

pub invariant_of-self-then-self-eq0 : goal.invariant_of-self-then-self-eq0
invariant_of-self-then-self-eq0 c =
    subst (λ t. IsStack t 1) (sym c.reserve.ensures.same)
    (stack_with_room c.self.inside.tree c.reserve.new.self.capacity c.self.invariant.tree (went_well c.reserve.result c.is_err.result c.is_err.ensures.value c.if-is_err.false c.reserve.ensures.room))

pub returns-else-is_err-clause-few : goal.returns-else-is_err-clause-few
returns-else-is_err-clause-few c = omega (arith, c.count.ensures, ap (λ (s : StackState). length s.forest.views) c.self.view_is, count-forest c.self.inside.tree)

pub returns-else-is_err-clause-forest : goal.returns-else-is_err-clause-forest
returns-else-is_err-clause-forest c = ap forest_of c.reserve.ensures.same ∙ (forest_reserved c.self.inside.tree c.reserve.new.self.capacity ∙ ap (λ (s : StackState). s.forest) c.self.view_is)

pub returns-else-self-eq0-clause-few : goal.returns-else-self-eq0-clause-few
returns-else-self-eq0-clause-few c = omega (arith, c.count.ensures, ap (λ (s : StackState). length s.forest.views) c.self.view_is, count-forest c.self.inside.tree)
