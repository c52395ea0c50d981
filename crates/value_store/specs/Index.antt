-- What the index of a value store knows: places by keys.
use Rattle.std.specs.Prelude.{ℕ, ◌+◌, ◌≤◌, nat_le, if◌then◌else◌, List, length, map, Option, Some, None, IfSome}
use Rattle.std.specs.Coded.{Coded, code_by, coded×, coded_ℕ, coded_list}
use Rattle.std.specs.FinMap as map_of
use Rattle.std.specs.Map.{keys_of}
use Rattle.std.specs.List.Sorted.{IsStrictlySortedBy}
use Rattle.std.specs.declared.cmp.Ordering.{Ordering}
use Rattle.std.proofs.Common.{Vec, Global, refl}
use Rattle.base_model.specs.Bytes.{bytes_cmp}
use Rattle.trie_model.specs.Maps.{key_limit}
use Rattle.store_model.specs.Header.{first_gate}
use Rattle.value_store.specs.Values.{Place}

-- the places of values, by their keys
abbrev pub Places : Type 0
Places = map_of.FinMap bytes_cmp Place

abbrev pub place_code : Coded Place
place_code = code_by (ℕ × ℕ) (coded× coded_ℕ coded_ℕ) (λ p. (p.start, p.count)) (λ x. record { start = x.0; count = x.1 }) (λ _. refl)

abbrev pub places_code : Coded Places
places_code = map_of.code (coded_list coded_ℕ) place_code

-- an entry with the bytes of its key
abbrev pub placed : Vec ℕ Global × Place → List ℕ × Place
placed e = (e.0.items, e.1)

-- the map of entries in the order of their keys
abbrev pub places_of : List (Vec ℕ Global × Place) → Places
places_of es = map_of.from_sorted (map placed es)

-- a place that begins no later than that
abbrev pub up_to : ℕ → Option Place → Option Place
up_to end None = None
up_to end (Some p) = if nat_le p.start end then Some p else None

-- the order of keys in memory is that of their bytes
abbrev pub key_order : Vec ℕ Global → Vec ℕ Global → Ordering
key_order x y = bytes_cmp x.items y.items

-- entries whose keys strictly rise
abbrev pub AreInOrder : List (Vec ℕ Global × Place) → Type 0
AreInOrder es = IsStrictlySortedBy key_order (keys_of es)

-- a value stands behind the header of its file, and no further than the end
abbrev pub IsInFile : ℕ → Place → Type 0
IsInFile end p = (first_gate ≤ p.start) × (p.start + p.count ≤ end)

abbrev pub AreInFile : ℕ → Places → Type 0
AreInFile end index = (key : List ℕ) → IfSome (map_of.get index key) (IsInFile end)

-- a key within its limit
abbrev pub IsShort : List ℕ → Type 0
IsShort key = length key ≤ key_limit

abbrev pub HasShortKeys : Places → Type 0
HasShortKeys index = (key : List ℕ) → IfSome (map_of.get index key) (λ _. IsShort key)
