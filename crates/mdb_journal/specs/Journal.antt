-- What a journal value knows of its files.
use Rattle.std.specs.Prelude.{◌≡◌, ℕ, ◌-◌, Bool, List, length, take, drop, Some, Ok}
use Rattle.disk_model.specs.Files.{Files}
use Rattle.store_model.specs.Header.{Header}
use Rattle.store_model.specs.Record.{Record}
use Rattle.store_model.specs.Journal.{IsJournal, active, end_of}

-- the active file, its generation, the place of the first gate that is not open, and whether the disk failed in a call
pub record JournalState : Type 0 where
  pub file : ℕ
  pub generation : ℕ
  pub end : ℕ
  pub failed : Bool

-- the files are those of the value, with these records
pub record Knows (j : JournalState) (rs : List Record) (files : Files) : Type 0 where
  pub header : Header
  pub active : active files ≡ Ok (Some (j.file, header))
  pub generation : j.generation ≡ header.generation
  pub journal : IsJournal header rs (files j.file)
  pub place : j.end ≡ end_of rs

-- how many bytes a payload has at most
abbrev pub payload_limit : ℕ
payload_limit = 33554432

-- the payload in a room: behind five bytes for kind and length, and in front of one for the next gate
abbrev pub payload_in : List ℕ → List ℕ
payload_in room = take (length room - 6) (drop 5 room)

-- the record that a room is for
abbrev pub record_in : ℕ → List ℕ → Record
record_in kind room = record { kind = kind; payload = payload_in room }
