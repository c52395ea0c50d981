-- What is known of the store against whose map changes are checked, and of its disk.
use Rattle.std.specs.Prelude.{◌≡◌, ◌≢◌, ℕ, ◌≤◌, Bool, true, false, if◌then◌else◌, List, Option, Some, None, Result, Ok}
use Rattle.std.specs.Option.{is_some}
use Rattle.base_model.specs.Faults.{Rose}
use Rattle.disk_model.specs.Words.{TellsContents}
use Rattle.trie_model.specs.Maps.{Map, limits}
use Rattle.text_model.specs.LineKind.{LineKind}
use Rattle.text_model.specs.ReadLine.{Line}
use Rattle.store_model.specs.Journal.{Stands}
use Rattle.store_model.specs.Refusals.{Refusal, Refused}
use Rattle.mdb_core.specs.Stores.{DbState, Keeps, is_failed}
use Rattle.run_model.specs.OutsideThings.{DiskSeen}
use Rattle.run_model.specs.End.{End, NotOpened, Disk}
use Rattle.run_model.specs.Store.{IsFound, OnMap}
use Rattle.run_model.specs.Verify.{Fault, tells_changes, read_verdict}
use Rattle.store_opening.specs.Opening.{KeepsMaps}
use Rattle.verify_run.specs.declared.proof_fault.ProofFault.{ProofFault}
use Rattle.verify_run.specs.Checks.{end_at}
use Rattle.verify_run.specs.Ends.{end_of}

-- ---- a store

-- the store was opened: its files stood for a map before, which it has, and nothing was written since
pub record IsOpened (w : ℕ) (before now : DiskSeen) (s : DbState) : Type 0 where
  pub there : TellsContents before.tells → (m : Map) × IsFound w before (Ok m) × Keeps s m now.files
  pub tells : now.tells ≡ before.tells
  pub works : is_failed s ≡ false
  pub opens : KeepsMaps before now
  pub later : before.faults ≤ now.faults

-- where none was, the disk is as it was
abbrev pub IsLocal : ℕ → DiskSeen → DiskSeen → Option DbState → Type 0
IsLocal w before now None = now ≡ before
IsLocal w before now (Some s) = IsOpened w before now s

abbrev pub Opens : ℕ → DiskSeen → DiskSeen → Option DbState → Type 0
Opens w before now None = ⊥
Opens w before now (Some s) = IsOpened w before now s

-- how a disk is left by lines that ended so: the map of a store stays, and the end has its cause
pub record IsLeft (w : ℕ) (before now : DiskSeen) (end : End) : Type 0 where
  pub files : end ≢ Disk → OnMap w before (λ m. Stands limits now.files m)
  pub opens : KeepsMaps before now
  pub rose : end ≡ Disk → Rose before.faults now.faults
  pub refused : (why : Refusal) → end ≡ NotOpened why → TellsContents before.tells → Refused limits w before.files why

-- so by a proof that shows nothing for this reason, whatever the number of its line is
abbrev pub LeavesDisk : ℕ → DiskSeen → DiskSeen → ProofFault → Type 0
LeavesDisk w before now fault = (number : ℕ) → IsLeft w before now (end_of (end_at number fault))

-- ---- a line

-- whether the store was asked for by a line that was read, or before it
abbrev pub asked_by : Option DbState → Result Line LineKind → Bool
asked_by s read = if is_some s then true else tells_changes read

-- where it was asked for, its files are found to be this
abbrev pub IsFoundWhere : Bool → ℕ → DiskSeen → Result Map Refusal → Type 0
IsFoundWhere asked w disk found = asked ≡ true → IsFound w disk found

-- after a line that goes well: what its verdict is, whatever the store is found to be where it was asked for
pub record Goes (w : ℕ) (before now : DiskSeen) (s s' : Option DbState) (read : Result Line LineKind) (Says : Result (List ℕ) Fault → Type 0) : Type 0 where
  pub local : IsLocal w before now s'
  pub asked : is_some s' ≡ asked_by s read
  pub says : (found : Result Map Refusal) → IsFoundWhere (asked_by s read) w before found → Says (read_verdict w found read)

-- so after one that ends the run
pub record Stops (w : ℕ) (before now : DiskSeen) (s : Option DbState) (read : Result Line LineKind) (end : End) (Says : Result (List ℕ) Fault → Type 0) : Type 0 where
  pub left : IsLeft w before now end
  pub untouched : asked_by s read ≡ false → (now ≡ before) × (end ≢ Disk)
  pub says : (found : Result Map Refusal) → IsFoundWhere (asked_by s read) w before found → Says (read_verdict w found read)
