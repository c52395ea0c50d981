-- The map that was found at a place.
use Rattle.std.specs.Prelude.{◌≡◌, Bool, true, false, Some}
use Rattle.trie_model.specs.Maps.{Map}
use Rattle.batch_model.specs.Batch.{after_batch}
use Rattle.view_model.specs.Forest.{Live, state}
use Rattle.view_model.specs.Maps.{view_map}
use Rattle.history_model.specs.Held.{no_map}
use Rattle.mdb_core.specs.Stores.{DbState}
use Rattle.mdb_core.specs.declared.fault.DbFault.{DbFault}
use Rattle.mdb_core.specs.declared.fault.DbFault.TheVariants.{NotHeld, NoMemory}
use Rattle.mdb_core.specs.declared.naming.Found.{Found}
use Rattle.mdb_core.specs.declared.naming.Found.TheVariants.{Store, View, Past, Empty}

-- the map, where the store has this one
abbrev pub map_found : DbState → Map → Found → Map
map_found s m Store = m
map_found s m (View id) = view_map s.forest m id.number
map_found s m (Past undo) = after_batch m undo
map_found s m Empty = no_map

-- a view is live
abbrev pub IsThere : DbState → Found → Type 0
IsThere s Store = Unit {0}
IsThere s (View id) = state s.forest id.number ≡ Some Live
IsThere s (Past undo) = Unit {0}
IsThere s Empty = Unit {0}

-- why no map is found by a root, by whether it names one
abbrev pub IsUnnamed : Bool → DbFault → Type 0
IsUnnamed named NotHeld = named ≡ false
IsUnnamed named NoMemory = named ≡ true
IsUnnamed named other = ⊥
