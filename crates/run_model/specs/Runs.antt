-- What every run promises, whatever its words are, and which record says the rest for its command.
use Rattle.std.specs.Prelude.{◌≡◌, ◌≢◌, ◌↔◌, ◌<◌, ℕ, true, List, length, Option, IfSome, Result, Ok, Err}
use Rattle.base_model.specs.Faults.{Rose}
use Rattle.disk_model.specs.Words.{TellsContents}
use Rattle.trie_model.specs.Maps.{Map, limits}
use Rattle.text_model.specs.Lines.{input_limit}
use Rattle.text_model.specs.Texts.{Input}
use Rattle.store_model.specs.Refusals.{Refusal, Refused}
use Rattle.proof_model.specs.CheckedBytes.{Cause}
use Rattle.run_model.specs.OutsideThings.{DiskSeen, Outside}
use Rattle.range_model.specs.Ranges.{Range as Bounds}
use Rattle.text_model.specs.Words.{RootWord}
use Rattle.run_model.specs.Command.{Command, Root, Apply, Get, Prove, Range, Changes, Verify, Job, job_of, uses_store, names_map, checks_proofs}
use Rattle.run_model.specs.End.{End, BadWords, NotOpened, VerifyRefused, NotHeld, Limit, Read, Write, Disk}
use Rattle.run_model.specs.Outcome.{Outcome, silent, IsComplete}
use Rattle.run_model.specs.Store.{NeedsStore, RefusalHasCause, on_found}
use Rattle.run_model.specs.Root.{root_outcome, RootRuns}
use Rattle.run_model.specs.Apply.{apply_outcome, ApplyRuns}
use Rattle.run_model.specs.Get.{get_outcome, GetRuns}
use Rattle.run_model.specs.Prove.{prove_outcome, ProveRuns}
use Rattle.run_model.specs.Range.{range_outcome, RangeRuns}
use Rattle.run_model.specs.Changes.{changes_outcome, ChangesRuns}
use Rattle.run_model.specs.Verify.{verify_outcome, NeedsStoreIfAsked, VerifyRuns}

-- ---- by command
-- what a command comes to on this input, where the files of its store are found to be this
abbrev pub command_outcome : Command → ℕ → Result Map Refusal → List ℕ → Outcome
command_outcome Root w found bytes = root_outcome w bytes
command_outcome Apply w found bytes = on_found (λ m. apply_outcome w m bytes) found
command_outcome (Get key) w found bytes = on_found (get_outcome key) found
command_outcome (Prove root key) w found bytes = on_found (prove_outcome w root key) found
command_outcome (Range root asked pairs bytes) w found given = on_found (range_outcome w root asked pairs bytes) found
command_outcome (Changes from to asked pairs bytes) w found given = on_found (changes_outcome w from to asked pairs bytes) found
command_outcome Verify w found bytes = verify_outcome w found bytes

-- what a command needs of the disk to come to that
abbrev pub CommandNeeds : Command → ℕ → Outside → Outside → Result Map Refusal → Type 0
CommandNeeds Root w before after found = Unit {0}
CommandNeeds Apply w before after found = NeedsStore w before after found
CommandNeeds (Get key) w before after found = NeedsStore w before after found
CommandNeeds (Prove root key) w before after found = NeedsStore w before after found
CommandNeeds (Range root asked pairs bytes) w before after found = NeedsStore w before after found
CommandNeeds (Changes from to asked pairs bytes) w before after found = NeedsStore w before after found
CommandNeeds Verify w before after found = NeedsStoreIfAsked w before after found

-- a wrong word is the outcome whatever the input and the files are
abbrev pub job_outcome : Result Job ℕ → Result Map Refusal → List ℕ → Outcome
job_outcome (Err place) found bytes = silent (BadWords place)
job_outcome (Ok job) found bytes = command_outcome job.command job.width found bytes

abbrev pub JobNeeds : Result Job ℕ → Outside → Outside → Result Map Refusal → Type 0
JobNeeds (Err place) before after found = Unit {0}
JobNeeds (Ok job) before after found = CommandNeeds job.command job.width before after found

-- what a run with these words comes to on this input
abbrev pub outcome : List (List ℕ) → Result Map Refusal → List ℕ → Outcome
outcome given found bytes = job_outcome (job_of given) found bytes

-- what a run with these words needs of the disk to come to that
abbrev pub Needs : List (List ℕ) → Outside → Outside → Result Map Refusal → Type 0
Needs given before after found = JobNeeds (job_of given) before after found

-- the job uses a store, and this is why its files are not opened, where the disk tells them
abbrev pub AsksForStore : Result Job ℕ → DiskSeen → Refusal → Type 0
AsksForStore (Err place) disk why = ⊥
AsksForStore (Ok job) disk why = (uses_store job.command ≡ true) × (TellsContents disk.tells → Refused limits job.width disk.files why)

-- ---- for all commands
-- a wrong word is told exactly where there is one: the first, by its place
abbrev pub TellsWords : List (List ℕ) → End → Type 0
TellsWords given end = (i : ℕ) → (end ≡ BadWords i) ↔ (job_of given ≡ Err i)

-- where a word is wrong nothing outside is touched
abbrev pub WordsTouchNothing : Outside → Outside → End → Type 0
WordsTouchNothing before after end = (i : ℕ) → end ≡ BadWords i → after ≡ before

-- a failed read is told only where the input's count of faults rose
abbrev pub ReadHasCause : (faults faults' : ℕ) → End → Type 0
ReadHasCause faults faults' end = end ≡ Read → Rose faults faults'

-- a failed write is told only where the output's count of faults rose
abbrev pub WriteHasCause : (faults faults' : ℕ) → End → Type 0
WriteHasCause faults faults' end = end ≡ Write → Rose faults faults'

-- a failed disk is told only where its count of faults rose
abbrev pub DiskHasCause : (faults faults' : ℕ) → End → Type 0
DiskHasCause faults faults' end = end ≡ Disk → Rose faults faults'

-- files are told as not opened only where the words ask for a store, and for that reason
abbrev pub StoreHasCause : List (List ℕ) → DiskSeen → End → Type 0
StoreHasCause given disk end = (why : Refusal) → end ≡ NotOpened why → AsksForStore (job_of given) disk why

-- that a map is not held, and that a proof is refused, is told only by the commands that may find it
pub record IsOwnEnd (command : Command) (end : End) : Type 0 where
  pub held : end ≡ NotHeld → names_map command ≡ true
  pub accepted : (number : ℕ) (cause : Cause) → end ≡ VerifyRefused number cause → checks_proofs command ≡ true

-- so it is where the words ask for a command
abbrev pub TellsOwn : List (List ℕ) → End → Type 0
TellsOwn given end = (job : Job) → job_of given ≡ Ok job → IsOwnEnd job.command end

-- too much input is told only where what the input had left goes past the limit
abbrev pub InputLimitHasCause : Option (List ℕ) → End → Type 0
InputLimitHasCause left end = end ≡ Limit Input → IfSome left (λ bytes. input_limit < length bytes)

-- what the run of a command that was understood promises, whichever it is: no word is told, and the rest as above
pub record SharedRuns (command : Command) (w : ℕ) (before after : Outside) (end : End) : Type 0 where
  pub words : (i : ℕ) → end ≢ BadWords i
  pub read : ReadHasCause before.input.faults after.input.faults end
  pub write : WriteHasCause before.output.faults after.output.faults end
  pub disk : DiskHasCause before.disk.faults after.disk.faults end
  pub store : RefusalHasCause (uses_store command) w before.disk end
  pub own : IsOwnEnd command end
  pub limit : InputLimitHasCause before.input.left end
  pub complete : IsComplete (CommandNeeds command w) (command_outcome command w) before after end

-- ---- for one command: a line each, in both
-- the record of a command, with tokens of w bits
abbrev pub command_runs : Command → ℕ → Outside → Outside → End → Type 0
command_runs Root w before after end = RootRuns w before after end
command_runs Apply w before after end = ApplyRuns w before after end
command_runs (Get key) w before after end = GetRuns key w before after end
command_runs (Prove root key) w before after end = ProveRuns root key w before after end
command_runs (Range root asked pairs bytes) w before after end = RangeRuns root asked pairs bytes w before after end
command_runs (Changes from to asked pairs bytes) w before after end = ChangesRuns from to asked pairs bytes w before after end
command_runs Verify w before after end = VerifyRuns w before after end

-- where the words ask for it, the run is as the record says
abbrev pub RootPart : List (List ℕ) → Outside → Outside → End → Type 0
RootPart given before after end = (w : ℕ) → job_of given ≡ Ok (record { width = w; command = Root }) → RootRuns w before after end

abbrev pub ApplyPart : List (List ℕ) → Outside → Outside → End → Type 0
ApplyPart given before after end = (w : ℕ) → job_of given ≡ Ok (record { width = w; command = Apply }) → ApplyRuns w before after end

abbrev pub GetPart : List (List ℕ) → Outside → Outside → End → Type 0
GetPart given before after end = (w : ℕ) (key : List ℕ) → job_of given ≡ Ok (record { width = w; command = Get key }) → GetRuns key w before after end

abbrev pub ProvePart : List (List ℕ) → Outside → Outside → End → Type 0
ProvePart given before after end = (w : ℕ) (root : RootWord) (key : List ℕ) → job_of given ≡ Ok (record { width = w; command = Prove root key }) → ProveRuns root key w before after end

abbrev pub RangePart : List (List ℕ) → Outside → Outside → End → Type 0
RangePart given before after end = (w : ℕ) (root : RootWord) (asked : Bounds) (pairs bytes : ℕ) → job_of given ≡ Ok (record { width = w; command = Range root asked pairs bytes }) → RangeRuns root asked pairs bytes w before after end

abbrev pub ChangesPart : List (List ℕ) → Outside → Outside → End → Type 0
ChangesPart given before after end = (w : ℕ) (from to : RootWord) (asked : Bounds) (pairs bytes : ℕ) → job_of given ≡ Ok (record { width = w; command = Changes from to asked pairs bytes }) → ChangesRuns from to asked pairs bytes w before after end

abbrev pub VerifyPart : List (List ℕ) → Outside → Outside → End → Type 0
VerifyPart given before after end = (w : ℕ) → job_of given ≡ Ok (record { width = w; command = Verify }) → VerifyRuns w before after end

-- all that a run promises: a field for each clause of the top call
pub record Runs (given : List (List ℕ)) (before after : Outside) (end : End) : Type 0 where
  pub words : TellsWords given end
  pub untouched : WordsTouchNothing before after end
  pub read : ReadHasCause before.input.faults after.input.faults end
  pub write : WriteHasCause before.output.faults after.output.faults end
  pub disk : DiskHasCause before.disk.faults after.disk.faults end
  pub store : StoreHasCause given before.disk end
  pub own : TellsOwn given end
  pub limit : InputLimitHasCause before.input.left end
  pub complete : IsComplete (Needs given) (outcome given) before after end
  pub root : RootPart given before after end
  pub apply : ApplyPart given before after end
  pub get : GetPart given before after end
  pub prove : ProvePart given before after end
  pub range : RangePart given before after end
  pub changes : ChangesPart given before after end
  pub verify : VerifyPart given before after end
