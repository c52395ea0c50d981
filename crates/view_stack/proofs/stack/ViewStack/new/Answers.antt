use Rattle.std.proofs.Common.{ap}
use Rattle.view_stack.specs.Slots.{TreeState}
use Rattle.view_stack.specs.Forests.{StackState, forest_of}
use Rattle.view_stack.proofs.stack.ViewStack.new.Goals as goal

pub returns : goal.returns
unfolding forest_of
returns c = ap (λ (t : TreeState). empty t) c.new.ensures
  where
    empty : TreeState → StackState
    empty t = record { forest = forest_of t; room = 0 }
