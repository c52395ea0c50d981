-- What opening a journal finds.
use Rattle.std.specs.Prelude.{◌≡◌, ◌⊎◌, ℕ, false, List, Result, Ok, Err, IsErrOf}
use Rattle.disk_model.specs.Files.{Files}
use Rattle.disk_model.specs.Crash.{IsImageOf}
use Rattle.disk_model.specs.Moments.{Moments, LeavesOnly, Meanwhile}
use Rattle.store_model.specs.Header.{StoreFault, NotAStore as not_a_store, Damaged as damaged}
use Rattle.store_model.specs.Record.{Record}
use Rattle.store_model.specs.Journal.{Hold, active}
use Rattle.store_model.specs.Refusals.{OtherFactor, DamagedRecord}
use Rattle.mdb_journal.specs.Journal.{JournalState, Knows}
use Rattle.mdb_journal.specs.declared.fault.JournalFault.{JournalFault}
use Rattle.mdb_journal.specs.declared.fault.JournalFault.TheVariants.{NotAStore, BranchDiffers, Damaged, Disk}

-- how a journal tells what is wrong with its files
abbrev pub fault_of : StoreFault → JournalFault
fault_of (not_a_store file) = NotAStore file
fault_of (damaged file at) = Damaged file at

abbrev pub as_answer : {A : Type 0} → Result A StoreFault → Result A JournalFault
as_answer (Ok x) = Ok x
as_answer (Err why) = Err (fault_of why)

-- a call answers this, unless the disk fails
abbrev pub Unless : {A : Type 0} → Result A JournalFault → Result A JournalFault → Type 0
Unless said result = (result ≡ said) ⊎ IsErrOf result Disk

-- nothing was written
pub record Untouched (was is : Files) (old new : Moments) : Type 0 where
  pub seen : is ≡ was
  pub images : new ≡ old

-- a journal of this branch was found
pub record IsOpened (width : ℕ) (files : Files) (j : JournalState) : Type 0 where
  pub records : List Record
  pub knows : Knows j records files
  pub width_is : knows.header.width ≡ width
  pub works : j.failed ≡ false

-- why files are not opened
abbrev pub Refuses : ℕ → Files → JournalFault → Type 0
Refuses width files (NotAStore file) = active files ≡ Err (not_a_store file)
Refuses width files (BranchDiffers kept asked) = OtherFactor width files kept asked
Refuses width files (Damaged file at) = (active files ≡ Err (damaged file at)) ⊎ DamagedRecord width files file at
Refuses width files Disk = Unit {0}
Refuses width files fault = ⊥

-- An opening: until both files are synced a crash leaves what it might have left before, and from then on these records.
pub record Synced (rs : List Record) (old now : Moments) : Type 0 where
  pub at : Moments
  pub before : Meanwhile (IsImageOf old.now) old at
  pub there : LeavesOnly (λ image. Hold image rs) at.now
  pub after : Meanwhile (λ image. Hold image rs) at now

abbrev pub Opens : List Record → Moments → Moments → Type 0
Opens rs old now = Meanwhile (IsImageOf old.now) old now ⊎ Synced rs old now

-- what may be told of files that hold records: that the disk failed, or that they have another factor
abbrev pub FailsOrDiffers : JournalFault → Type 0
FailsOrDiffers Disk = Unit {0}
FailsOrDiffers (BranchDiffers kept asked) = Unit {0}
FailsOrDiffers fault = ⊥
