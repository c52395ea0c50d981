-- What a store knows of its files and of its views.
use Rattle.std.specs.Prelude.{◌≡◌, ℕ, zero, suc, ◌≤◌, Bool, List, [], length, map, Option, Some, IfSome, slice_index_or}
use Rattle.disk_model.specs.Files.{Files}
use Rattle.trie_model.specs.Maps.{Map, map_digests, root}
use Rattle.trie_model.specs.Table.{Row, table}
use Rattle.view_model.specs.Forest.{Forest, Live, state, payload}
use Rattle.view_model.specs.Maps.{changes_of, view_map}
use Rattle.view_model.specs.Standing.{IsForest}
use Rattle.change_history.specs.Histories.{HistoryState, recalled, Remembers}
use Rattle.node_table.specs.Pairs.{AreShort}
use Rattle.mdb_journal.specs.Journal.{payload_limit}
use Rattle.value_store.specs.Values.{ValueState, broken as broken_values, Keeps as ValuesKeep}

-- the values, the digests of the values by their keys, the bits of a token, the root, the views, their roots in the order
-- of their numbers, and the latest commits
pub record DbState : Type 0 where
  pub values : ValueState
  pub digests : List (List ℕ × List ℕ)
  pub width : ℕ
  pub root : List ℕ
  pub forest : Forest
  pub roots : List (List ℕ)
  pub history : HistoryState

-- the maps that a store holds, where this is the present one
abbrev pub held_maps : DbState → Map → List Map
held_maps s m = recalled s.history m

-- whether the disk failed in a call
abbrev pub is_failed : DbState → Bool
is_failed s = s.values.journal.failed

-- the state after the disk failed in a call
abbrev pub broken : DbState → DbState
broken s = record s { values = broken_values s.values }

-- the root of the view of a number
abbrev pub root_at : List (List ℕ) → ℕ → List ℕ
root_at roots zero = []
root_at roots (suc i) = slice_index_or roots i []

-- the roots are those of this map, and of the maps of the live views on it
pub record HasRoots (s : DbState) (m : Map) : Type 0 where
  pub map : s.root ≡ root s.width m
  pub views : (n : ℕ) → state s.forest n ≡ Some Live → root_at s.roots n ≡ root s.width (view_map s.forest m n)

abbrev pub keys_of : List (List ℕ × List ℕ) → List (List ℕ)
keys_of digests = map (λ (e : List ℕ × List ℕ). e.0) digests

-- the digests of some map, with keys within the limit
abbrev pub AreDigests : List (List ℕ × List ℕ) → Type 0
AreDigests digests = (m : Map) × (digests ≡ map_digests m) × AreShort (keys_of digests)

-- what holds of every store: it has the digests of a map and its roots, each live view may be written as one record, its
-- history ends at its root, and the nodes, where it has some, are those of the map
pub record IsStore (s : DbState) (nodes : Option (List Row)) : Type 0 where
  pub digests : AreDigests s.digests
  pub roots : (m : Map) → s.digests ≡ map_digests m → HasRoots s m
  pub forest : IsForest s.forest
  pub counted : length s.roots ≡ length s.forest.views
  pub fits : (n : ℕ) → state s.forest n ≡ Some Live → payload (changes_of s.forest n) ≤ payload_limit
  pub newest : s.history.root ≡ s.root
  pub nodes_are : IfSome nodes (λ rows. (m : Map) → s.digests ≡ map_digests m → rows ≡ table s.width m)

-- the files are those of the store, which stands for this map, and its history is that of the map
pub record Keeps (s : DbState) (m : Map) (files : Files) : Type 0 where
  pub values : ValuesKeep s.values m files
  pub digests : s.digests ≡ map_digests m
  pub short : AreShort (keys_of s.digests)
  pub roots : HasRoots s m
  pub history : Remembers s.width s.history m
