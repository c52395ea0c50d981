-- The paths that parents make.
use Rattle.std.specs.Prelude.{ℕ, zero, suc, List, [], ◌∷◌, ◌++◌, map, slice_index}
use Rattle.view_stack.specs.declared.slot.Slot.{Slot}
use Rattle.view_stack.specs.Slots.{TreeState}

-- of each view that on which it was made, in the order of their numbers
abbrev pub parents : List Slot → List ℕ
parents slots = map (λ (s : Slot). s.parent) slots

-- the last numbers of a path, up to so many
abbrev pub path_within : List ℕ → ℕ → ℕ → List ℕ
path_within ps zero n = []
path_within ps (suc most) zero = []
path_within ps (suc most) (suc i) = path_within ps most (slice_index ps i) ++ suc i ∷ []

-- the path of a view: a parent has a lower number, so its path has no more numbers than its own says
abbrev pub path_by : List ℕ → ℕ → List ℕ
path_by ps n = path_within ps n n

abbrev pub tree_path : TreeState → ℕ → List ℕ
tree_path t n = path_by (parents t.slots) n
