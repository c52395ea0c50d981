-- How changes alter the keys of a map.
use Rattle.std.specs.Prelude.{ℕ, if◌then◌else◌, List, [], ◌∷◌, Option}
use Rattle.std.specs.List.{flat_map}
use Rattle.std.specs.FinMap as map_of
use Rattle.trie_model.specs.Maps.{Map}
use Rattle.batch_model.specs.Batch.{Change}
use Rattle.history_model.specs.Changes.{Delta, same_value}

-- how a change alters a key that had this value before; it may leave it as it was
abbrev pub altered : Option (List ℕ) → Change → List Delta
altered before c = if same_value before c.value then [] else record { key = c.key; before = before; after = c.value } ∷ []

-- how it alters the key of a map
abbrev pub altered_in : Map → Change → List Delta
altered_in m c = altered (map_of.get m c.key) c

-- the keys of a map that changes alter, in the order of the changes, each with the value of that map
abbrev pub alterations : Map → List Change → List Delta
alterations m cs = flat_map (altered_in m) cs
