-- How keys changed over several commits.
use Rattle.std.specs.Prelude.{◌≡◌, ℕ, List, [], ◌∷◌, map, Option, Some, None, if◌then◌else◌, slice_index_or}
use Rattle.std.specs.List.{filter}
use Rattle.std.specs.Ordering.{match_ordering}
use Rattle.base_model.specs.Bytes.{bytes_cmp}
use Rattle.trie_model.specs.Maps.{Map}
use Rattle.range_model.specs.Ranges.{Range}
use Rattle.history_model.specs.Changes.{Delta, same_value, deltas, lies_in}
use Rattle.history_model.specs.Held.{no_map}
use Rattle.change_history.specs.Histories.{HistoryState, Recalls, held_by}
use Rattle.change_history.specs.declared.net.Net.{Net}

-- the key, its value before the first commit, and after the last
abbrev pub net_of : Net → Delta
net_of n = record { key = n.first.now.key; before = n.first.now.before; after = n.last.now.after }

abbrev pub nets_of : List Net → List Delta
nets_of ns = map net_of ns

-- ---- two lists of deltas as one

-- what is added next, and what is left of both lists
pub record Turn : Type 0 where
  pub added : List Delta
  pub older : List Delta
  pub newer : List Delta

-- two deltas of one key as one; none where the second undoes the first
abbrev pub paired : Delta → Delta → List Delta
paired d e = if same_value d.before e.after then [] else record { key = d.key; before = d.before; after = e.after } ∷ []

-- of two lists in the order of their keys, the delta of the least key is next, and of both lists where both have it
abbrev pub turn : List Delta → List Delta → Option Turn
turn [] [] = None
turn (d ∷ ds) [] = Some (record { added = d ∷ []; older = ds; newer = [] })
turn [] (e ∷ es) = Some (record { added = e ∷ []; older = []; newer = es })
turn (d ∷ ds) (e ∷ es) = Some (match_ordering (bytes_cmp d.key e.key)
    (record { added = d ∷ []; older = ds; newer = e ∷ es })
    (record { added = paired d e; older = ds; newer = es })
    (record { added = e ∷ []; older = d ∷ ds; newer = es }))

-- ---- between two maps

abbrev pub map_at : List Map → ℕ → Map
map_at ms place = slice_index_or ms place no_map

-- the deltas in a range between two of some maps, by their places
abbrev pub deltas_between : List Map → ℕ → ℕ → Range → List Delta
deltas_between ms former later r = filter (lies_in r) (deltas (map_at ms former) (map_at ms later))

-- these are the deltas in a range between two maps of a history, by their places
abbrev pub IsSum : HistoryState → Range → ℕ → ℕ → List Delta → Type 0
IsSum h r former later ds = (w : ℕ) (maps : List Map) → Recalls w h maps → ds ≡ deltas_between (held_by h maps) former later r
