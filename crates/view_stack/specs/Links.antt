-- What the links of live views say.
use Rattle.std.specs.Prelude.{◌≡◌, ◌≢◌, ◌⊎◌, ℕ, ◌<◌, ◌≤◌, true, false, length}
use Rattle.view_stack.specs.Slots.{TreeState}
use Rattle.view_stack.specs.Tree.{Has, slot_at, first_on, live_at, held_weight}

abbrev pub parent_at : TreeState → ℕ → ℕ
parent_at t n = (slot_at t.slots n).parent

abbrev pub next_at : TreeState → ℕ → ℕ
next_at t n = (slot_at t.slots n).next

abbrev pub prev_at : TreeState → ℕ → ℕ
prev_at t n = (slot_at t.slots n).prev

-- views may be made on it: it is the one that was committed last, or live
abbrev pub IsOpen : TreeState → ℕ → Type 0
IsOpen t p = (p ≡ t.last) ⊎ (live_at t p ≡ true)

-- a live view that was made on another
pub record IsOn (t : TreeState) (p n : ℕ) : Type 0 where
  pub live : live_at t n ≡ true
  pub parent : parent_at t n ≡ p

-- parents come before the views on them, and those of live views are open
pub record IsRooted (t : TreeState) : Type 0 where
  pub known : t.last ≤ length t.slots
  pub done : live_at t t.last ≡ false
  pub below : (n : ℕ) → Has t n → parent_at t n < n
  pub stands : (n : ℕ) → live_at t n ≡ true → IsOpen t (parent_at t n)

-- the live views on each open one are linked from the highest number to the lowest
pub record IsLinked (t : TreeState) : Type 0 where
  pub rooted : IsRooted t
  pub highest : (n : ℕ) → live_at t n ≡ true → n ≤ first_on t (parent_at t n)
  pub first : (p : ℕ) → IsOpen t p → first_on t p ≢ 0 → IsOn t p (first_on t p)
  pub next : (n : ℕ) → live_at t n ≡ true → next_at t n ≢ 0 → IsOn t (parent_at t n) (next_at t n) × (next_at t n < n)
  pub lower : (n m : ℕ) → live_at t n ≡ true → IsOn t (parent_at t n) m → m < n → m ≤ next_at t n
  pub prev : (n : ℕ) → live_at t n ≡ true → prev_at t n ≢ 0 → IsOn t (parent_at t n) (prev_at t n) × (next_at t (prev_at t n) ≡ n)
  pub none : (n : ℕ) → live_at t n ≡ true → prev_at t n ≡ 0 → first_on t (parent_at t n) ≡ n

-- and the weight is that of the batches that are held
pub record IsSound (t : TreeState) : Type 0 where
  pub linked : IsLinked t
  pub weighs : t.weight ≡ held_weight t.slots
