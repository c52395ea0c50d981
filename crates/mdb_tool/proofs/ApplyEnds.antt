-- What a run of `apply` promises, by how its opening and its script ended.
use Rattle.std.proofs.Common.{false, ◌≡◌, ◌≢◌, ℕ, ◌<◌, ◌≤◌, List, length, Option, Some, None, Ok, refl, subst, inr}
use Rattle.std.specs.Prelude.{IfSome}
use Rattle.base_model.specs.Faults.{Rose}
use Rattle.base_model.specs.Streams.{AtEnd}
use Rattle.disk_model.specs.Words.{TellsContents, TellsImages}
use Rattle.trie_model.specs.Maps.{Map}
use Rattle.text_model.specs.Lines.{input_limit}
use Rattle.session_model.specs.Session.{Step, Stop, BadLine as stopped_by_line, Limit as stopped_by_limit}
use Rattle.session_model.specs.Script.{script}
use Rattle.store_model.specs.Refusals.{Refusal}
use Rattle.mdb_journal.specs.DiskMoves.{AreSynced}
use Rattle.mdb_core.specs.Stores.{DbState, Keeps}
use Rattle.mdb_base.specs.declared.faults.LimitKind.{LimitKind as LimitOfCode}
use Rattle.mdb_base.specs.declared.faults.LimitKind.TheVariants.{Input as InputOfCode, Pairs as PairsOfCode, Batch as BatchOfCode, Answers as AnswersOfCode}
use Rattle.script_run.specs.declared.end.SessionEnd.{SessionEnd}
use Rattle.script_run.specs.declared.end.SessionEnd.TheVariants as script_end
use Rattle.script_run.specs.Ends.{end_of, limit_of}
use Rattle.run_model.specs.OutsideThings.{DiskSeen, Outside}
use Rattle.run_model.specs.Command.{Apply}
use Rattle.run_model.specs.End.{End, Done, BadWords, BadLine, NotOpened, VerifyRefused, NotHeld, Limit, Read, Write, Disk, NoMemory}
use Rattle.run_model.specs.Outcome.{PrintsNothing, CameTo, IsComplete}
use Rattle.run_model.specs.Store.{IsFound, NeedsStore, OnMap, on_found}
use Rattle.run_model.specs.Script.{HasSteps, ScriptRuns, Keeps as KeepsSteps, Survives, IsStop, end_of_stop}
use Rattle.run_model.specs.Apply.{apply_outcome, ApplyRuns}
use Rattle.run_model.specs.Runs.{SharedRuns, InputLimitHasCause}
use Rattle.store_opening.specs.Opening.{IsJustOpened, KeepsMaps, IsOpen, FailsBy}
use Rattle.run_model.proofs.ToldThings.{where_told, always, rose_at_last}
use Rattle.store_opening.proofs.Openings.{open_keeps}
use Rattle.mdb_tool.proofs.ScriptsSurvive.{no_step, opening_survives, script_survives}
use Rattle.mdb_tool.proofs.StoreRuns.{StoreRuns, own_of, not_refused, came_to, finished, broke, wanted_memory, cut_off, failed}

-- all that a run of `apply` promises
pub record ApplyPromises (w : ℕ) (before after : Outside) (end : End) : Type 0 where
  pub shared : SharedRuns Apply w before after end
  pub apply : ApplyRuns w before after end

shared_of : (w : ℕ) (before after : Outside) (end : End) → StoreRuns false w (apply_outcome w) before after end → SharedRuns Apply w before after end
shared_of w before after end r = record { words = r.words; read = r.read; write = r.write; disk = r.disk; store = r.store; own = own_of Apply r; limit = r.limit; complete = r.complete }

-- ---- no store was opened
-- an end that no script comes to
no_stop : (w : ℕ) (before after : DiskSeen) (end : End) (stop : Option Stop) → FailsBy w before after end → end ≡ end_of_stop stop → ⊥
no_stop w before after end None fails is = subst (FailsBy w before after) is fails
no_stop w before after end (Some (stopped_by_line number)) fails is = subst (FailsBy w before after) is fails
no_stop w before after end (Some (stopped_by_limit kind)) fails is = subst (FailsBy w before after) is fails

-- unless the disk failed, the files stand for the map that they stood for
files_stay : (w : ℕ) (before after : DiskSeen) (end : End) (m : Map) (steps : List Step) → FailsBy w before after end → IsFound w before (Ok m) → end ≢ Disk → HasSteps m steps 0 after.files
files_stay w before after (NotOpened why) m steps fails found differs = not_refused w before m why found (found.0, fails found.0)
files_stay w before after Disk m steps fails found differs = absurd (differs refl)
files_stay w before after NoMemory m steps fails found differs = no_step m steps after.files (fails found.0 m found.1.0)
files_stay w before after Done m steps fails found differs = absurd fails
files_stay w before after (BadWords place) m steps fails found differs = absurd fails
files_stay w before after (BadLine number) m steps fails found differs = absurd fails
files_stay w before after (VerifyRefused number cause) m steps fails found differs = absurd fails
files_stay w before after NotHeld m steps fails found differs = absurd fails
files_stay w before after (Limit kind) m steps fails found differs = absurd fails
files_stay w before after Read m steps fails found differs = absurd fails
files_stay w before after Write m steps fails found differs = absurd fails

-- an end by which a run fails
fails_not : {A : Type 0} (w : ℕ) (before after : DiskSeen) (end other : End) → FailsBy w before after end → (FailsBy w before after other → ⊥) → end ≡ other → A
fails_not w before after end other fails never is = absurd (never (subst (FailsBy w before after) is fails))

pub apply_failed : (w : ℕ) (before after : Outside) (end : End) → after.input ≡ before.input → PrintsNothing before after → FailsBy w before.disk after.disk end → KeepsMaps before.disk after.disk → ApplyPromises w before after end
apply_failed w before after end unread printed fails keeps = record {
  shared = shared_of w before after end (failed w (apply_outcome w) before after end printed fails);
  apply = record {
    script_runs = λ m found. always (λ bytes. ScriptRuns w m bytes before after end) before.input.left (λ bytes. record {
      came = λ stop. absurd (no_stop w before.disk after.disk end stop.0 fails stop.1);
      prefix = (0, printed);
      files = files_stay w before.disk after.disk end m (script w m bytes).steps fails found;
      undecided = fails_not w before.disk after.disk end Read fails (λ no. no);
    });
    survives = λ told m found. always (λ bytes. Survives m (script w m bytes).steps before.output.taken after.output.taken before.disk.moments after.disk.moments) before.input.left
        (λ bytes. opening_survives m (script w m bytes).steps before.output.taken after.output.taken before.disk.moments after.disk.moments printed (keeps told m found.1.0));
    done = fails_not w before.disk after.disk end Done fails (λ no. no);
    refused = λ why is. (unread, printed);
  };
}

-- ---- a script was done
-- what the script promises of a store that was opened: its input, the store and the disk before it, and how it ended
pub record Scripted (w : ℕ) (before : Outside) (mid : DiskSeen) (s : DbState) (after : Outside) (end : SessionEnd) : Type 0 where
  pub opened : IsOpen w before.disk mid s
  pub keeps : KeepsMaps before.disk mid
  pub opened_later : before.disk.faults ≤ mid.faults
  pub script_runs : TellsContents before.disk.tells → (m : Map) → Keeps s m mid.files → IsJustOpened s
      → IfSome before.input.left (λ bytes. ScriptRuns s.width m bytes (record { input = before.input; output = before.output; disk = mid }) after (end_of end))
  pub kept : TellsImages before.disk.tells → (m : Map) → Keeps s m mid.files → AreSynced mid.files mid.moments → IsJustOpened s
      → IfSome before.input.left (λ bytes. KeepsSteps m (script s.width m bytes).steps before.output.taken after.output.taken mid.moments after.disk.moments)
  pub at_end : end ≡ script_end.Done → AtEnd after.input.left
  pub limit : end ≡ script_end.Limit InputOfCode → IfSome before.input.left (λ bytes. input_limit < length bytes)
  pub damaged : (file at : ℕ) → end ≡ script_end.Damaged file at → ⊥
  pub read : end ≡ script_end.Read → Rose before.input.faults after.input.faults
  pub write : end ≡ script_end.Write → Rose before.output.faults after.output.faults
  pub disk : end ≡ script_end.Disk → Rose mid.faults after.disk.faults

-- the script's promises do not hang on the disk that it began with
begun_before : (w : ℕ) (m : Map) (bytes : List ℕ) (before : Outside) (mid : DiskSeen) (after : Outside) (end : End) → ScriptRuns w m bytes (record { input = before.input; output = before.output; disk = mid }) after end → ScriptRuns w m bytes before after end
begun_before w m bytes before mid after end r = record {
  came = λ stop. let c = r.came stop in record { stops = c.stops; text = c.text; files = c.files };
  prefix = r.prefix;
  files = r.files;
  undecided = r.undecided;
}

runs_on_map : (w : ℕ) (before : Outside) (mid : DiskSeen) (s : DbState) (after : Outside) (end : SessionEnd) → Scripted w before mid s after end → OnMap w before.disk (λ m. IfSome before.input.left (λ bytes. ScriptRuns w m bytes before after (end_of end)))
runs_on_map w before mid s after end p = λ m found.
    let between : Outside = record { input = before.input; output = before.output; disk = mid } in
    where_told (λ bytes. ScriptRuns s.width m bytes between after (end_of end)) (λ bytes. ScriptRuns w m bytes before after (end_of end)) before.input.left
    (λ bytes r. begun_before w m bytes before mid after (end_of end) (subst (λ v. ScriptRuns v m bytes between after (end_of end)) p.opened.width r))
    (p.script_runs found.0 m (open_keeps w before.disk mid s p.opened found.0 m found.1.0) p.opened.fresh)

-- a crash leaves the map after a prefix of its commits
survives_on_map : (w : ℕ) (before : Outside) (mid : DiskSeen) (s : DbState) (after : Outside) (end : SessionEnd) → Scripted w before mid s after end → TellsImages before.disk.tells
    → OnMap w before.disk (λ m. IfSome before.input.left (λ bytes. Survives m (script w m bytes).steps before.output.taken after.output.taken before.disk.moments after.disk.moments))
survives_on_map w before mid s after end p told = λ m found.
    let taken = before.output.taken in
    let taken' = after.output.taken in
    let was = before.disk.moments in
    let now = after.disk.moments in
    where_told (λ bytes. KeepsSteps m (script s.width m bytes).steps taken taken' mid.moments now) (λ bytes. Survives m (script w m bytes).steps taken taken' was now) before.input.left
    (λ bytes kept. script_survives m (script w m bytes).steps taken taken' was mid.moments now (p.keeps told m found.1.0) (p.opened.left told m found.1.0)
    (subst (λ v. KeepsSteps m (script v m bytes).steps taken taken' mid.moments now) p.opened.width kept))
    (p.kept told m (open_keeps w before.disk mid s p.opened found.0 m found.1.0) (p.opened.synced told) p.opened.fresh)

-- ---- the ends of a script
-- a script that came to its end, or stopped
came : (w : ℕ) (before : Outside) (mid : DiskSeen) (s : DbState) (after : Outside) (end : SessionEnd) → Scripted w before mid s after end → IsStop (end_of end)
    → IsComplete (NeedsStore w) (λ found bytes. on_found (λ m. apply_outcome w m bytes) found) before after (end_of end)
came w before mid s after end p stop =
    came_to w (apply_outcome w) before after (end_of end) (λ told. let o = p.opened.opened told in (o.map, (told, (o.stands, o.width_was))))
    (λ m found. where_told (λ bytes. ScriptRuns w m bytes before after (end_of end)) (λ bytes. CameTo (apply_outcome w m bytes) before after (end_of end)) before.input.left
    (λ bytes r. let c = r.came stop in inr (c.stops, c.text)) (runs_on_map w before mid s after end p m found))

past_limit : (w : ℕ) (before : Outside) (mid : DiskSeen) (s : DbState) (after : Outside) (kind : LimitOfCode) → Scripted w before mid s after (script_end.Limit kind) → InputLimitHasCause before.input.left (Limit (limit_of kind))
past_limit w before mid s after InputOfCode p is = p.limit refl
past_limit w before mid s after PairsOfCode p is = let no : ⊥ = cc is in absurd no
past_limit w before mid s after BatchOfCode p is = let no : ⊥ = cc is in absurd no
past_limit w before mid s after AnswersOfCode p is = let no : ⊥ = cc is in absurd no

store_runs : (w : ℕ) (before : Outside) (mid : DiskSeen) (s : DbState) (after : Outside) (end : SessionEnd) → Scripted w before mid s after end → StoreRuns false w (apply_outcome w) before after (end_of end)
store_runs w before mid s after script_end.Done p = finished w (apply_outcome w) before after (came w before mid s after script_end.Done p (None, refl))
store_runs w before mid s after (script_end.BadLine number) p = record {
  words = λ i is. let no : ⊥ = cc is in no;
  read = λ is. let no : ⊥ = cc is in absurd no;
  write = λ is. let no : ⊥ = cc is in absurd no;
  disk = λ is. let no : ⊥ = cc is in absurd no;
  store = λ why is. let no : ⊥ = cc is in absurd no;
  held = λ is. let no : ⊥ = cc is in absurd no;
  accepted = λ number cause is. let no : ⊥ = cc is in no;
  limit = λ is. let no : ⊥ = cc is in absurd no;
  complete = came w before mid s after (script_end.BadLine number) p (Some (stopped_by_line number), refl);
}
store_runs w before mid s after (script_end.Limit kind) p = record {
  words = λ i is. let no : ⊥ = cc is in no;
  read = λ is. let no : ⊥ = cc is in absurd no;
  write = λ is. let no : ⊥ = cc is in absurd no;
  disk = λ is. let no : ⊥ = cc is in absurd no;
  store = λ why is. let no : ⊥ = cc is in absurd no;
  held = λ is. let no : ⊥ = cc is in absurd no;
  accepted = λ number cause is. let no : ⊥ = cc is in no;
  limit = past_limit w before mid s after kind p;
  complete = came w before mid s after (script_end.Limit kind) p (Some (stopped_by_limit (limit_of kind)), refl);
}
store_runs w before mid s after (script_end.Damaged file at) p = absurd (p.damaged file at refl)
store_runs w before mid s after script_end.Read p = record {
  words = λ i is. let no : ⊥ = cc is in no;
  read = λ _. p.read refl;
  write = λ is. let no : ⊥ = cc is in absurd no;
  disk = λ is. let no : ⊥ = cc is in absurd no;
  store = λ why is. let no : ⊥ = cc is in absurd no;
  held = λ is. let no : ⊥ = cc is in absurd no;
  accepted = λ number cause is. let no : ⊥ = cc is in no;
  limit = λ is. let no : ⊥ = cc is in absurd no;
  complete = λ quiet _. absurd (quiet (p.read refl));
}
store_runs w before mid s after script_end.Write p = cut_off w (apply_outcome w) before after (p.write refl)
store_runs w before mid s after script_end.Disk p = broke w (apply_outcome w) before after (rose_at_last before.disk.faults mid.faults after.disk.faults p.opened_later (p.disk refl))
store_runs w before mid s after script_end.NoMemory p = wanted_memory w (apply_outcome w) before after

done_is : (end : SessionEnd) → end_of end ≡ Done → end ≡ script_end.Done
done_is script_end.Done is = refl
done_is (script_end.BadLine number) is = let no : ⊥ = cc is in absurd no
done_is (script_end.Limit kind) is = let no : ⊥ = cc is in absurd no
done_is (script_end.Damaged file at) is = let no : ⊥ = cc is in absurd no
done_is script_end.Read is = let no : ⊥ = cc is in absurd no
done_is script_end.Write is = let no : ⊥ = cc is in absurd no
done_is script_end.Disk is = let no : ⊥ = cc is in absurd no
done_is script_end.NoMemory is = let no : ⊥ = cc is in absurd no

-- a script refuses no files
refuses_none : (end : SessionEnd) (why : Refusal) → ((file at : ℕ) → end ≡ script_end.Damaged file at → ⊥) → end_of end ≡ NotOpened why → ⊥
refuses_none script_end.Done why never is = cc is
refuses_none (script_end.BadLine number) why never is = cc is
refuses_none (script_end.Limit kind) why never is = cc is
refuses_none (script_end.Damaged file at) why never is = never file at refl
refuses_none script_end.Read why never is = cc is
refuses_none script_end.Write why never is = cc is
refuses_none script_end.Disk why never is = cc is
refuses_none script_end.NoMemory why never is = cc is

pub script_done : (w : ℕ) (before : Outside) (mid : DiskSeen) (s : DbState) (after : Outside) (end : SessionEnd) → Scripted w before mid s after end → ApplyPromises w before after (end_of end)
script_done w before mid s after end p = record {
  shared = shared_of w before after (end_of end) (store_runs w before mid s after end p);
  apply = record {
    script_runs = runs_on_map w before mid s after end p;
    survives = survives_on_map w before mid s after end p;
    done = λ is. p.at_end (done_is end is);
    refused = λ why is. absurd (refuses_none end why p.damaged is);
  };
}
