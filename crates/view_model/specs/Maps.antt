-- The map of a live view, and what becomes of the map of the store.
use Rattle.std.specs.Prelude.{◌≡◌, ℕ, List, [], ◌∷◌, length, drop, Option, Some, None, unwrap_or}
use Rattle.std.specs.Option.{option_and_then}
use Rattle.trie_model.specs.Maps.{Map}
use Rattle.batch_model.specs.Batch.{Change, after_batch}
use Rattle.view_model.specs.Forest.{View, Forest, view_of, path_of}
use Rattle.view_model.specs.Calls.{Call, Make, Direct, Close, Commit, Answer, Given, Done, Refused, NoMemory}

-- the changes of the view of a number, where they are kept
abbrev pub changes_of : Forest → ℕ → List Change
changes_of f n = unwrap_or (option_and_then (λ (v : View). v.batch) (view_of f n)) []

-- a map with the batches of these views laid on, one after another
abbrev pub laid : Forest → Map → List ℕ → Map
laid f m [] = m
laid f m (n ∷ ns) = laid f (after_batch m (changes_of f n)) ns

-- the map of a live view, where the store has this map: the batches of its path past the store's are laid on
abbrev pub view_map : Forest → Map → ℕ → Map
view_map f m n = laid f m (drop (length f.store) (path_of f n))

-- the map of a parent, which is the store or a live view
abbrev pub parent_map : Forest → Map → Option ℕ → Map
parent_map f m None = m
parent_map f m (Some n) = view_map f m n

-- what becomes of the store's map in a call with this answer: a commit lays the changes of its view on it, and a direct
-- batch its own
abbrev pub Moves : Forest → Map → Call → Answer → Map → Type 0
Moves f m (Make parent batch) a k = k ≡ m
Moves f m Direct (Given n) k = Unit {0}
Moves f m Direct Done k = k ≡ m
Moves f m Direct (Refused r) k = k ≡ m
Moves f m Direct NoMemory k = k ≡ m
Moves f m (Close n) a k = k ≡ m
Moves f m (Commit n) a k = k ≡ after_batch m (changes_of f n)
