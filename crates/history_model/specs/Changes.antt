-- On which keys two maps differ, and what weighs that.
use Rattle.std.specs.Prelude.{ℕ, ◌+◌, Bool, true, false, if◌then◌else◌, List, [], ◌∷◌, length, map, Option, Some, None}
use Rattle.std.specs.List.{flat_map, filter, sum_by}
use Rattle.std.specs.FinMap as map_of
use Rattle.std.specs.Ordering.{eq_by_cmp}
use Rattle.base_model.specs.Bytes.{bytes_cmp}
use Rattle.trie_model.specs.Maps.{Map}
use Rattle.range_model.specs.Ranges.{Range, holds}
use Rattle.batch_model.specs.Batch.{Change}

-- a key, and the values that two maps have there, the former and the later; None where there is none
pub record Delta : Type 0 where
  pub key : List ℕ
  pub before : Option (List ℕ)
  pub after : Option (List ℕ)

abbrev pub same_value : Option (List ℕ) → Option (List ℕ) → Bool
same_value None None = true
same_value None (Some v) = false
same_value (Some u) None = false
same_value (Some u) (Some v) = eq_by_cmp bytes_cmp u v

-- ---- where two maps differ

-- a map with these pairs laid over it
abbrev pub laid_over : Map → List (List ℕ × List ℕ) → Map
laid_over m [] = m
laid_over m (e ∷ es) = map_of.insert (laid_over m es) e.0 e.1

-- the keys that one of two maps has, or both, in their order
abbrev pub keys_of_both : Map → Map → List (List ℕ)
keys_of_both m1 m2 = map_of.keys (laid_over m1 (map_of.entries m2))

-- how they differ at one key
abbrev pub delta_at : Map → Map → List ℕ → List Delta
delta_at m1 m2 key = if same_value (map_of.get m1 key) (map_of.get m2 key) then [] else record { key = key; before = map_of.get m1 key; after = map_of.get m2 key } ∷ []

-- the keys at which they differ, in their order, with both values
unfoldable pub deltas : Map → Map → List Delta
deltas m1 m2 = flat_map (delta_at m1 m2) (keys_of_both m1 m2)

-- ---- what changes between two maps

-- the change that leads from the one value to the other
abbrev pub change_of : Delta → Change
change_of d = record { key = d.key; value = d.after }

abbrev pub lies_in : Range → Delta → Bool
lies_in r d = holds r d.key

-- the keys of a range at which two maps differ, in their order, each with the value of the second map or none
abbrev pub changes : Map → Map → Range → List Change
changes m1 m2 r = map change_of (filter (lies_in r) (deltas m1 m2))

-- ---- weight

abbrev pub value_weight : Option (List ℕ) → ℕ
value_weight None = 0
value_weight (Some v) = length v

-- the bytes of the key and of both values
abbrev pub delta_weight : Delta → ℕ
delta_weight d = length d.key + value_weight d.before + value_weight d.after

-- how much a commit weighs that leads from one map to the other
abbrev pub weight : Map → Map → ℕ
weight m1 m2 = sum_by delta_weight (deltas m1 m2)

-- the bytes of the key, and of the value where it puts one
abbrev pub change_size : Change → ℕ
change_size c = length c.key + value_weight c.value
