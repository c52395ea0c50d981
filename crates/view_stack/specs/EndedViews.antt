-- Views that are live no more.
use Rattle.std.specs.Prelude.{◌≡◌, ◌⊎◌, ℕ, ◌<◌, true, false}
use Rattle.view_model.specs.Forest.{is_prefix}
use Rattle.view_stack.specs.declared.slot.Kept.{Kept}
use Rattle.view_stack.specs.Slots.{TreeState}
use Rattle.view_stack.specs.Tree.{kept_at, live_at}
use Rattle.view_stack.specs.Paths.{parents, tree_path}

-- some live views, all of them among these, got this mark, and of every other the same is kept
pub record Ends (mark : Kept) (among : ℕ → Type 0) (old new : TreeState) : Type 0 where
  pub parents_stay : parents new.slots ≡ parents old.slots
  pub last : new.last ≡ old.last
  pub capacity : new.capacity ≡ old.capacity
  pub kept : (n : ℕ) → (kept_at new n ≡ kept_at old n) ⊎ ((live_at old n ≡ true) × among n × (kept_at new n ≡ mark))

-- a view is another, or stands on it
abbrev pub IsOver : TreeState → ℕ → ℕ → Type 0
IsOver t other n = is_prefix (tree_path t other) (tree_path t n) ≡ true

-- a view is not another, nor stands on it
abbrev pub IsBeside : TreeState → ℕ → ℕ → Type 0
IsBeside t other n = 0 < other → is_prefix (tree_path t other) (tree_path t n) ≡ false
