-- All views by their numbers, as they are held.
use Rattle.std.specs.Prelude.{ℕ, List}
use Rattle.view_stack.specs.declared.slot.Slot.{Slot}

-- the views in the order of their numbers, the number that was committed last, the first live view on the store, the
-- weight of the live ones, and for how many views there is memory
pub record TreeState : Type 0 where
  pub slots : List Slot
  pub last : ℕ
  pub top : ℕ
  pub weight : ℕ
  pub capacity : ℕ
