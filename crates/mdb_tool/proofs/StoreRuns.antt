-- What all runs of a command on a store promise, by how they end.
use Rattle.std.proofs.Common.{◌≡◌, ◌≢◌, ℕ, Bool, true, List, Option, Some, None, Result, Ok, Err, refl, subst, inl, inr}
use Rattle.std.specs.Prelude.{IfSome}
use Rattle.base_model.specs.Faults.{Rose}
use Rattle.disk_model.specs.Words.{TellsContents}
use Rattle.trie_model.specs.Maps.{Map, limits}
use Rattle.store_model.specs.Refusals.{Refusal, Found}
use Rattle.proof_model.specs.CheckedBytes.{Cause}
use Rattle.store_model.proofs.Refusals.{files_are_found_once}
use Rattle.run_model.specs.OutsideThings.{DiskSeen, Outside}
use Rattle.run_model.specs.End.{End, Done, BadWords, BadLine, NotOpened, VerifyRefused, NotHeld, Limit, Read, Write, Disk, NoMemory}
use Rattle.run_model.specs.Outcome.{Outcome, PrintsNothing, CameTo, IsComplete}
use Rattle.run_model.specs.Store.{IsFound, NeedsStore, on_found, RefusalHasCause}
use Rattle.run_model.specs.Command.{Command, names_map}
use Rattle.run_model.specs.Runs.{ReadHasCause, WriteHasCause, DiskHasCause, InputLimitHasCause, IsOwnEnd}
use Rattle.store_opening.specs.Opening.{FailsBy}
use Rattle.run_model.proofs.ToldThings.{always}

-- the fields of what every run promises, for a command with this outcome on a map and an input, which names a map or doesn't
pub record StoreRuns (names : Bool) (w : ℕ) (on_map : Map → List ℕ → Outcome) (before after : Outside) (end : End) : Type 0 where
  pub words : (i : ℕ) → end ≢ BadWords i
  pub read : ReadHasCause before.input.faults after.input.faults end
  pub write : WriteHasCause before.output.faults after.output.faults end
  pub disk : DiskHasCause before.disk.faults after.disk.faults end
  pub store : RefusalHasCause true w before.disk end
  pub held : end ≡ NotHeld → names ≡ true
  pub accepted : (number : ℕ) (cause : Cause) → end ≢ VerifyRefused number cause
  pub limit : InputLimitHasCause before.input.left end
  pub complete : IsComplete (NeedsStore w) (λ found bytes. on_found (λ m. on_map m bytes) found) before after end

-- files are found to be one thing
pub found_once : (w : ℕ) (disk : DiskSeen) (a b : Result Map Refusal) → IsFound w disk a → IsFound w disk b → a ≡ b
found_once w disk a b fa fb = files_are_found_once limits w disk.files a b fa.1 fb.1

-- files that stand for a map are not refused
pub not_refused : {A : Type 0} (w : ℕ) (disk : DiskSeen) (m : Map) (why : Refusal) → IsFound w disk (Ok m) → IsFound w disk (Err why) → A
not_refused w disk m why fm fw = let same = found_once w disk (Ok m) (Err why) fm fw in let no : ⊥ = cc same in absurd no

-- a run that came to its outcome on the map of the files
pub came_to : (w : ℕ) (on_map : Map → List ℕ → Outcome) (before after : Outside) (end : End) → (TellsContents before.disk.tells → (m : Map) × IsFound w before.disk (Ok m))
    → ((m : Map) → IsFound w before.disk (Ok m) → IfSome before.input.left (λ bytes. CameTo (on_map m bytes) before after end))
    → IsComplete (NeedsStore w) (λ found bytes. on_found (λ m. on_map m bytes) found) before after end
came_to w on_map before after end there came = λ _ _. by_told before.input.left came
  where
    at : (left : List ℕ) → (TellsContents before.disk.tells → (m : Map) × IsFound w before.disk (Ok m)) → ((m : Map) → IsFound w before.disk (Ok m) → CameTo (on_map m left) before after end)
        → (found : Result Map Refusal) → NeedsStore w before after found → CameTo (on_found (λ m. on_map m left) found) before after end
    at bytes there came found needs =
        let m = there needs.1.0 in
        subst (λ f. CameTo (on_found (λ m. on_map m bytes) f) before after end) (found_once w before.disk (Ok m.0) found m.1 needs.1) (came m.0 m.1)

    by_told : (left : Option (List ℕ)) → ((m : Map) → IsFound w before.disk (Ok m) → IfSome left (λ bytes. CameTo (on_map m bytes) before after end))
        → IfSome left (λ bytes. (found : Result Map Refusal) → NeedsStore w before after found → CameTo (on_found (λ m. on_map m bytes) found) before after end)
    by_told None came = tt
    by_told (Some bytes) came = at bytes there came

-- a run that is told as its files are refused
refused : {names : Bool} (w : ℕ) (on_map : Map → List ℕ → Outcome) (before after : Outside) (why : Refusal) → PrintsNothing before after → (TellsContents before.disk.tells → Found limits w before.disk.files (Err why)) → StoreRuns names w on_map before after (NotOpened why)
refused w on_map before after why printed fails = record {
  words = λ i is. let no : ⊥ = cc is in no;
  read = λ is. let no : ⊥ = cc is in absurd no;
  write = λ is. let no : ⊥ = cc is in absurd no;
  disk = λ is. let no : ⊥ = cc is in absurd no;
  store = λ other is. let same : why ≡ other = cc is in (refl, λ told. subst (λ r. Found limits w before.disk.files (Err r)) same (fails told));
  held = λ is. let no : ⊥ = cc is in absurd no;
  accepted = λ number cause is. let no : ⊥ = cc is in no;
  limit = λ is. let no : ⊥ = cc is in absurd no;
  complete = λ _ _. always (λ bytes. (found : Result Map Refusal) → NeedsStore w before after found → CameTo (on_found (λ m. on_map m bytes) found) before after (NotOpened why)) before.input.left
      (λ bytes found needs. subst (λ f. CameTo (on_found (λ m. on_map m bytes) f) before after (NotOpened why)) (found_once w before.disk (Err why) found (needs.1.0, fails needs.1.0) needs.1) (inr (refl, printed)));
}

-- a run whose disk failed
pub broke : {names : Bool} (w : ℕ) (on_map : Map → List ℕ → Outcome) (before after : Outside) → Rose before.disk.faults after.disk.faults → StoreRuns names w on_map before after Disk
broke w on_map before after rose = record {
  words = λ i is. let no : ⊥ = cc is in no;
  read = λ is. let no : ⊥ = cc is in absurd no;
  write = λ is. let no : ⊥ = cc is in absurd no;
  disk = λ _. rose;
  store = λ why is. let no : ⊥ = cc is in absurd no;
  held = λ is. let no : ⊥ = cc is in absurd no;
  accepted = λ number cause is. let no : ⊥ = cc is in no;
  limit = λ is. let no : ⊥ = cc is in absurd no;
  complete = λ _ _. always (λ bytes. (found : Result Map Refusal) → NeedsStore w before after found → CameTo (on_found (λ m. on_map m bytes) found) before after Disk) before.input.left (λ bytes found needs. absurd (needs.0 rose));
}

-- a run without memory
pub wanted_memory : {names : Bool} (w : ℕ) (on_map : Map → List ℕ → Outcome) (before after : Outside) → StoreRuns names w on_map before after NoMemory
wanted_memory w on_map before after = record {
  words = λ i is. let no : ⊥ = cc is in no;
  read = λ is. let no : ⊥ = cc is in absurd no;
  write = λ is. let no : ⊥ = cc is in absurd no;
  disk = λ is. let no : ⊥ = cc is in absurd no;
  store = λ why is. let no : ⊥ = cc is in absurd no;
  held = λ is. let no : ⊥ = cc is in absurd no;
  accepted = λ number cause is. let no : ⊥ = cc is in no;
  limit = λ is. let no : ⊥ = cc is in absurd no;
  complete = λ _ _. always (λ bytes. (found : Result Map Refusal) → NeedsStore w before after found → CameTo (on_found (λ m. on_map m bytes) found) before after NoMemory) before.input.left (λ bytes found needs. inl refl);
}

-- a run whose output failed
pub cut_off : {names : Bool} (w : ℕ) (on_map : Map → List ℕ → Outcome) (before after : Outside) → Rose before.output.faults after.output.faults → StoreRuns names w on_map before after Write
cut_off w on_map before after rose = record {
  words = λ i is. let no : ⊥ = cc is in no;
  read = λ is. let no : ⊥ = cc is in absurd no;
  write = λ _. rose;
  disk = λ is. let no : ⊥ = cc is in absurd no;
  store = λ why is. let no : ⊥ = cc is in absurd no;
  held = λ is. let no : ⊥ = cc is in absurd no;
  accepted = λ number cause is. let no : ⊥ = cc is in no;
  limit = λ is. let no : ⊥ = cc is in absurd no;
  complete = λ _ quiet. absurd (quiet rose);
}

-- a run whose work is done
pub finished : {names : Bool} (w : ℕ) (on_map : Map → List ℕ → Outcome) (before after : Outside) → IsComplete (NeedsStore w) (λ found bytes. on_found (λ m. on_map m bytes) found) before after Done → StoreRuns names w on_map before after Done
finished w on_map before after complete = record {
  words = λ i is. let no : ⊥ = cc is in no;
  read = λ is. let no : ⊥ = cc is in absurd no;
  write = λ is. let no : ⊥ = cc is in absurd no;
  disk = λ is. let no : ⊥ = cc is in absurd no;
  store = λ why is. let no : ⊥ = cc is in absurd no;
  held = λ is. let no : ⊥ = cc is in absurd no;
  accepted = λ number cause is. let no : ⊥ = cc is in no;
  limit = λ is. let no : ⊥ = cc is in absurd no;
  complete = complete;
}

-- a run whose store was not opened, or not read
pub failed : {names : Bool} (w : ℕ) (on_map : Map → List ℕ → Outcome) (before after : Outside) (end : End) → PrintsNothing before after → FailsBy w before.disk after.disk end → StoreRuns names w on_map before after end
failed w on_map before after (NotOpened why) printed fails = refused w on_map before after why printed fails
failed w on_map before after Disk printed fails = broke w on_map before after fails
failed w on_map before after NoMemory printed fails = wanted_memory w on_map before after
failed w on_map before after Done printed fails = absurd fails
failed w on_map before after (BadWords place) printed fails = absurd fails
failed w on_map before after (BadLine number) printed fails = absurd fails
failed w on_map before after (VerifyRefused number cause) printed fails = absurd fails
failed w on_map before after NotHeld printed fails = absurd fails
failed w on_map before after (Limit kind) printed fails = absurd fails
failed w on_map before after Read printed fails = absurd fails
failed w on_map before after Write printed fails = absurd fails

-- a run whose store has no map that a root names
pub not_held : (w : ℕ) (on_map : Map → List ℕ → Outcome) (before after : Outside) → IsComplete (NeedsStore w) (λ found bytes. on_found (λ m. on_map m bytes) found) before after NotHeld → StoreRuns true w on_map before after NotHeld
not_held w on_map before after complete = record {
  words = λ i is. let no : ⊥ = cc is in no;
  read = λ is. let no : ⊥ = cc is in absurd no;
  write = λ is. let no : ⊥ = cc is in absurd no;
  disk = λ is. let no : ⊥ = cc is in absurd no;
  store = λ why is. let no : ⊥ = cc is in absurd no;
  held = λ is. refl;
  accepted = λ number cause is. let no : ⊥ = cc is in no;
  limit = λ is. let no : ⊥ = cc is in absurd no;
  complete = complete;
}

-- an end that the command may come to
pub own_of : {w : ℕ} {on_map : Map → List ℕ → Outcome} {before after : Outside} {end : End} (command : Command) → StoreRuns (names_map command) w on_map before after end → IsOwnEnd command end
own_of command r = record { held = r.held; accepted = λ number cause is. absurd (r.accepted number cause is) }
