-- The forest of views that a tree stands for.
use Rattle.std.specs.Prelude.{◌≡◌, ◌↔◌, ℕ, suc, ◌+◌, ◌≤◌, Bool, true, false, List, [], ◌∷◌, length, Option, Some, None}
use Rattle.batch_model.specs.Batch.{Change}
use Rattle.view_model.specs.Forest.{View, Forest, ViewState, Live as live, Committed as committed, Invalid as invalid, Closed as closed, is_proper_prefix, is_among}
use Rattle.view_model.specs.Calls.{number_limit, weight_limit}
use Rattle.view_stack.specs.declared.slot.Slot.{Slot}
use Rattle.view_stack.specs.declared.slot.Kept.{Kept}
use Rattle.view_stack.specs.declared.slot.Kept.TheVariants.{Live, Committed, Invalid, Closed}
use Rattle.view_stack.specs.Slots.{TreeState}
use Rattle.view_stack.specs.Tree.{Has, kept_at}
use Rattle.view_stack.specs.Links.{IsSound}
use Rattle.view_stack.specs.Paths.{parents, path_by, tree_path}

abbrev pub kept_batch : Kept → Option (List Change)
kept_batch (Live batch) = Some batch.value
kept_batch Committed = None
kept_batch Invalid = None
kept_batch Closed = None

abbrev pub is_closed : Kept → Bool
is_closed (Live batch) = false
is_closed Committed = false
is_closed Invalid = false
is_closed Closed = true

-- the state that it tells
abbrev pub kept_state : Kept → ViewState
kept_state (Live batch) = live
kept_state Committed = committed
kept_state Invalid = invalid
kept_state Closed = closed

-- a view by its number
abbrev pub view_in : List ℕ → ℕ → Slot → View
view_in ps n s = record { number = n; parent = path_by ps s.parent; batch = kept_batch s.kept; closed = is_closed s.kept }

-- views with the numbers from this one on
abbrev pub views_from : List ℕ → ℕ → List Slot → List View
views_from ps n [] = []
views_from ps n (s ∷ slots) = view_in ps n s ∷ views_from ps (suc n) slots

unfoldable pub forest_of : TreeState → Forest
forest_of t = record { store = tree_path t t.last; views = views_from (parents t.slots) 1 t.slots }

-- what is kept of a view tells its state
pub record IsMarked (t : TreeState) : Type 0 where
  pub committed : (n : ℕ) → Has t n → (kept_at t n ≡ Committed) ↔ (is_among n (tree_path t t.last) ≡ true)
  pub invalid : (n : ℕ) → Has t n → kept_at t n ≡ Invalid → is_proper_prefix (tree_path t t.last) (tree_path t n) ≡ false

-- the tree stands for its forest, within the limits
pub record IsTree (t : TreeState) : Type 0 where
  pub sound : IsSound t
  pub marked : IsMarked t
  pub few : length t.slots ≤ number_limit
  pub light : t.weight ≤ weight_limit

-- views, and for how many direct batches there is room
pub record StackState : Type 0 where
  pub forest : Forest
  pub room : ℕ

-- and there is memory for so many; room is made for one at a time
pub record IsStack (t : TreeState) (room : ℕ) : Type 0 where
  pub tree : IsTree t
  pub one : room ≤ 1
  pub spare : length t.slots + room ≤ t.capacity
