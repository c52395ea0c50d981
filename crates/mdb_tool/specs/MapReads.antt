-- What reading the map in the store of a disk comes to.
use Rattle.std.specs.Prelude.{◌≡◌, ℕ, List, Option, Some, None, Ok}
use Rattle.std.specs.FinMap as map_of
use Rattle.disk_model.specs.Words.{TellsContents}
use Rattle.trie_model.specs.Maps.{Map, limits}
use Rattle.store_model.specs.Journal.{Stands}
use Rattle.run_model.specs.OutsideThings.{DiskSeen}
use Rattle.run_model.specs.End.{Done, NotHeld}
use Rattle.run_model.specs.Outcome.{Outcome, silent}
use Rattle.run_model.specs.Store.{IsFound, OnMap}

-- the files stand for a map of which this holds
pub record Finds (Holds : Map → Type 0) (w : ℕ) (before after : DiskSeen) : Type 0 where
  pub there : TellsContents before.tells → (m : Map) × IsFound w before (Ok m)
  pub is : OnMap w before Holds
  pub files : OnMap w before (λ m. Stands limits after.files m)

-- this is what a map has at a key
abbrev pub IsValueAt : List ℕ → Option (List ℕ) → Map → Type 0
IsValueAt key value m = value ≡ map_of.get m key

-- a line that is printed, or that no map is held
abbrev pub line_outcome : Option (List ℕ) → Outcome
line_outcome None = silent NotHeld
line_outcome (Some text) = record { end = Done; text = text }

-- this line is what a command comes to on a map
abbrev pub IsLineOf : (Map → Outcome) → Option (List ℕ) → Map → Type 0
IsLineOf outcome line m = line_outcome line ≡ outcome m
