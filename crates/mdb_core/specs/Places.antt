-- Which map a call speaks of, and why a call there is refused.
use Rattle.std.specs.Prelude.{◌≡◌, ℕ, Bool, false, true, ◌||◌, List, Option, Some, None}
use Rattle.std.specs.List.{list_any}
use Rattle.trie_model.specs.Hashing.{zero_id}
use Rattle.trie_model.specs.Maps.{Map, map_digests}
use Rattle.view_model.specs.Calls.{Refusal, Unknown as unknown, NotLive as not_live, TooMany as too_many, TooDeep as too_deep, TooHeavy as too_heavy, parent_refused}
use Rattle.view_model.specs.Maps.{view_map}
use Rattle.proof_model.specs.Refusals.{same_bytes}
use Rattle.history_model.specs.Held.{with_root}
use Rattle.change_history.specs.Histories.{HistoryState, Remembers, roots}
use Rattle.view_stack.specs.ViewAnswers.{state_told}
use Rattle.mdb_core.specs.Stores.{DbState, held_maps, is_failed}
use Rattle.mdb_core.specs.declared.store.At.{At}
use Rattle.mdb_core.specs.declared.store.At.TheVariants.{Store, View, Root}
use Rattle.mdb_core.specs.declared.fault.DbFault.{DbFault}
use Rattle.mdb_core.specs.declared.fault.DbFault.TheVariants.{Disk, Failed, Unknown, NotLive, NotHeld, TooMany, TooDeep, TooHeavy, NoMemory}

-- the number of a place, where it is a view
abbrev pub number_at : At → Option ℕ
number_at Store = None
number_at (View id) = Some id.number
number_at (Root id) = None

-- the map that a place names, where the store has this one
abbrev pub map_at : DbState → Map → At → Option Map
map_at s m Store = Some m
map_at s m (View id) = Some (view_map s.forest m id.number)
map_at s m (Root id) = with_root s.width (held_maps s m) id

-- what has to be known of a map for what is said of a place: it has the digests of the store, and for a root the history is
-- that of the map
abbrev pub HasPast : DbState → Map → At → Type 0
HasPast s m (Root id) = Remembers s.width s.history m
HasPast s m other = Unit {0}

pub record Speaks (s : DbState) (m : Map) (at : At) : Type 0 where
  pub digests : s.digests ≡ map_digests m
  pub past : HasPast s m at

-- a root names a map: one of a history has it, or it is 32 zeros
abbrev pub names_map : HistoryState → List ℕ → Bool
names_map h id = list_any (same_bytes id) (roots h) || same_bytes id zero_id

abbrev pub is_named : DbState → At → Bool
is_named s (Root id) = names_map s.history id
is_named s other = true

abbrev pub fault_of_refusal : Refusal → DbFault
fault_of_refusal unknown = Unknown
fault_of_refusal (not_live s) = NotLive (state_told s)
fault_of_refusal too_many = TooMany
fault_of_refusal too_deep = TooDeep
fault_of_refusal too_heavy = TooHeavy

-- the store works, and this is why it refuses
abbrev pub Refuses : DbState → Option Refusal → DbFault → Type 0
Refuses s why fault = (is_failed s ≡ false) × (r : Refusal) × (why ≡ Some r) × (fault ≡ fault_of_refusal r)

-- the store works, and may read at this place
pub record MayRead (s : DbState) (at : At) : Type 0 where
  pub works : is_failed s ≡ false
  pub admitted : parent_refused s.forest (number_at at) ≡ None
  pub held : is_named s at ≡ true

-- why a key is not read
abbrev pub GetFails : DbState → At → DbFault → Type 0
GetFails s at Failed = is_failed s ≡ true
GetFails s at Disk = MayRead s at
GetFails s at NoMemory = MayRead s at
GetFails s at NotHeld = (is_failed s ≡ false) × (is_named s at ≡ false)
GetFails s at other = Refuses s (parent_refused s.forest (number_at at)) other
