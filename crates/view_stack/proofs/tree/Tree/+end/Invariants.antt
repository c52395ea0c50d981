use Rattle.std.proofs.Common.{◌≡◌, true, ◌-◌, length}
use Rattle.view_stack.specs.Tree.{slot_at, live_at, marked}
use Rattle.view_stack.specs.Links.{IsSound}
use Rattle.view_stack.specs.EndedViews.{Ends, IsOver}
use Rattle.view_stack.proofs.tree.Tree.+end.Given as goal

-- the views on it come after it
abbrev pub decreases-end : goal.decreases-end
decreases-end l = length l.self.now.slots - l.number

abbrev pub invariant-loop-child : goal.invariant-loop-child
invariant-loop-child l =
    IsSound l.self × (live_at l.self l.number ≡ true) × Ends (marked l.closed) (IsOver l.fn.self l.number) l.fn.self l.self × (l.child ≡ (slot_at l.self.slots l.number).first)

-- those that are left on it have lower numbers
abbrev pub decreases-loop-child : goal.decreases-loop-child
decreases-loop-child l = l.child
