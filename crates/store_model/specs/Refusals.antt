-- Why the files of a store are not opened.
use Rattle.std.specs.Prelude.{◌≡◌, ◌≢◌, ◌⊎◌, ℕ, ◌^◌, List, ◌∷◌, ◌++◌, drop, get_or, Option, Some, None, Result, Ok, Err}
use Rattle.std.specs.List.{AllByRecursion}
use Rattle.std.specs.FinMap as map_of
use Rattle.disk_model.specs.Files.{Files}
use Rattle.trie_model.specs.Maps.{Limits, Map}
use Rattle.batch_model.specs.Batch.{Outside, batch_of}
use Rattle.store_model.specs.Header.{Header, StoreFault, NotAStore as no_name, Damaged as damaged, first_gate, open_gate}
use Rattle.store_model.specs.Record.{Record, IsRecord, records_form, record_at, batch_kind}
use Rattle.store_model.specs.Journal.{Hold, Stands, active, end_of, after_records}

-- the gate is open
abbrev pub IsOpen : List ℕ → ℕ → Type 0
IsOpen bytes at = get_or bytes at 0 ≡ open_gate

-- these records stand from the first gate up to this place
pub record Passed (bytes : List ℕ) (at : ℕ) : Type 0 where
  pub records : List Record
  pub known : AllByRecursion IsRecord records
  pub is : drop first_gate bytes ≡ records_form records ++ drop at bytes
  pub place : at ≡ end_of records

-- records, and then an open gate at this place whose record is outside the format
pub record IsDamaged (bytes : List ℕ) (at : ℕ) : Type 0 where
  pub passed : Passed bytes at
  pub gate : IsOpen bytes at
  pub outside : record_at at bytes at ≡ Err at

-- the active file has this factor, and another was asked for
pub record OtherFactor (width : ℕ) (files : Files) (kept asked : ℕ) : Type 0 where
  pub file : ℕ
  pub header : Header
  pub is : active files ≡ Ok (Some (file, header))
  pub differs : header.width ≢ width
  pub kept_is : kept ≡ 2 ^ header.width
  pub asked_is : asked ≡ 2 ^ width

-- the active file, of this branch, has a damaged record
pub record DamagedRecord (width : ℕ) (files : Files) (file at : ℕ) : Type 0 where
  pub header : Header
  pub is : active files ≡ Ok (Some (file, header))
  pub width_is : header.width ≡ width
  pub damaged : IsDamaged (files file) at

-- The active file, of this branch, has no damaged record, but the payload of one is no batch. The first such record is
-- behind the gate at this place.
pub record DamagedBatch (l : Limits) (width : ℕ) (files : Files) (file at : ℕ) : Type 0 where
  pub header : Header
  pub is : active files ≡ Ok (Some (file, header))
  pub width_is : header.width ≡ width
  pub before : List Record
  pub wrong : Record
  pub after : List Record
  pub hold : Hold files (before ++ wrong ∷ after)
  pub map : Map
  pub good : after_records l map_of.empty before ≡ Ok map
  pub kind : wrong.kind ≡ batch_kind
  pub outside : batch_of l wrong.payload ≡ Err Outside
  pub place : at ≡ end_of before

-- what is told of files that are not opened: which one is no store's, which factors are kept and were asked for, or which
-- file is damaged and where
pub data Refusal : Type 0 where
  NotAStore : ℕ → Refusal
  BranchDiffers : ℕ → ℕ → Refusal
  Damaged : ℕ → ℕ → Refusal

-- why files are not opened as a store with tokens of so many bits
abbrev pub Refused : Limits → ℕ → Files → Refusal → Type 0
Refused l width files (NotAStore file) = active files ≡ Err (no_name file)
Refused l width files (BranchDiffers kept asked) = OtherFactor width files kept asked
Refused l width files (Damaged file at) = (active files ≡ Err (damaged file at)) ⊎ DamagedRecord width files file at ⊎ DamagedBatch l width files file at

-- an open header is of tokens of so many bits
abbrev pub HasWidth : ℕ → Result (Option (ℕ × Header)) StoreFault → Type 0
HasWidth width (Ok None) = Unit {0}
HasWidth width (Ok (Some a)) = a.1.width ≡ width
HasWidth width (Err fault) = ⊥

-- what files are found to be that are opened as a store with tokens of so many bits: a map, or why they are not opened
abbrev pub Found : Limits → ℕ → Files → Result Map Refusal → Type 0
Found l width files (Ok m) = Stands l files m × HasWidth width (active files)
Found l width files (Err why) = Refused l width files why
