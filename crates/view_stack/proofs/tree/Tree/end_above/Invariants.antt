use Rattle.std.proofs.Common.{false}
use Rattle.view_stack.specs.Tree.{marked}
use Rattle.view_stack.specs.Links.{IsSound}
use Rattle.view_stack.specs.EndedViews.{Ends, IsBeside}
use Rattle.view_stack.proofs.Siblings.{IsSome}
use Rattle.view_stack.proofs.tree.Tree.end_above.Given as goal

abbrev pub invariant-loop-self : goal.invariant-loop-self
invariant-loop-self l = IsSound l.self × IsSome l.self l.number × Ends (marked false) (IsBeside l.fn.self l.number) l.fn.self l.self

abbrev pub decreases-loop-self : goal.decreases-loop-self
decreases-loop-self l = l.self.top
