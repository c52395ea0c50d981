use Rattle.std.proofs.Common.{◌≡◌, false}
use Rattle.view_stack.specs.Tree.{marked}
use Rattle.view_stack.specs.Links.{IsSound, IsOn, next_at}
use Rattle.view_stack.specs.EndedViews.{Ends, IsBeside}
use Rattle.view_stack.proofs.tree.Tree.end_below.Given as goal

abbrev pub invariant-loop-next : goal.invariant-loop-next
invariant-loop-next l =
    IsSound l.self × IsOn l.self l.self.last l.number × (l.self.top ≡ l.number) × Ends (marked false) (IsBeside l.fn.self l.number) l.fn.self l.self × (l.next ≡ next_at l.self l.number)

abbrev pub decreases-loop-next : goal.decreases-loop-next
decreases-loop-next l = l.next
