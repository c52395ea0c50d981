-- What a value store knows of its files.
use Rattle.std.specs.Prelude.{◌≡◌, ℕ, ◌+◌, ◌≤◌, Bool, true, if◌then◌else◌, List, [], ◌∷◌, map, take, drop, Option, Some, None, Ok}
use Rattle.std.specs.List.{AllByRecursion}
use Rattle.std.specs.Ordering.{is_lt, is_eq}
use Rattle.std.specs.FinMap as map_of
use Rattle.base_model.specs.Bytes.{bytes_cmp}
use Rattle.disk_model.specs.Files.{Files}
use Rattle.trie_model.specs.Maps.{Map, limits}
use Rattle.store_model.specs.Record.{Record}
use Rattle.store_model.specs.Journal.{after_records}
use Rattle.mdb_journal.specs.Journal.{JournalState, Knows}
pub use Rattle.value_store.specs.declared.place.Place.{Place}

-- how many pairs a store has at most
abbrev pub pairs_limit : ℕ
pairs_limit = 1000000

-- the journal, and where the value of each key stands, in the order of the keys
pub record ValueState : Type 0 where
  pub journal : JournalState
  pub index : List (List ℕ × Place)

abbrev pub keys_of : ValueState → List (List ℕ)
keys_of s = map (λ (e : List ℕ × Place). e.0) s.index

-- the value at a place of a file
abbrev pub value_in : List ℕ → Place → List ℕ
value_in bytes place = take place.count (drop place.start bytes)

-- the pair of a key, by where its value stands
abbrev pub pair_in : List ℕ → List ℕ × Place → List ℕ × List ℕ
pair_in bytes e = (e.0, value_in bytes e.1)

-- a value stands before the first gate that is not open
abbrev pub StandsBefore : ℕ → List ℕ × Place → Type 0
StandsBefore end e = e.1.start + e.1.count ≤ end

-- The files are those of the value: they stand for this map, and the index says where its values stand.
pub record Keeps (s : ValueState) (m : Map) (files : Files) : Type 0 where
  pub records : List Record
  pub knows : Knows s.journal records files
  pub map_is : after_records limits map_of.empty records ≡ Ok m
  pub pairs : map_of.entries m ≡ map (pair_in (files s.journal.file)) s.index
  pub before : AllByRecursion (StandsBefore s.journal.end) s.index

-- the map has just the keys of the index, whatever its values are
abbrev pub HasKeys : ValueState → Map → Type 0
HasKeys s m = map_of.keys m ≡ keys_of s

-- the state after the disk failed in a call
abbrev pub broken : ValueState → ValueState
broken s = record s { journal = record s.journal { failed = true } }

-- the first of these keys at or above a key, or above it
abbrev pub is_next : List ℕ → Bool → List ℕ → Bool
is_next from past key = if past then is_lt (bytes_cmp from key) else (if is_eq (bytes_cmp from key) then true else is_lt (bytes_cmp from key))

abbrev pub next_of : List (List ℕ) → List ℕ → Bool → Option (List ℕ)
next_of [] from past = None
next_of (key ∷ keys) from past = if is_next from past key then Some key else next_of keys from past

abbrev pub last_of : List (List ℕ) → Option (List ℕ)
last_of [] = None
last_of (key ∷ []) = Some key
last_of (key ∷ next ∷ keys) = last_of (next ∷ keys)
