-- Lines that print nothing, and lines that are not read.
use Rattle.std.proofs.Common.{◌≡◌, ℕ, List, [], Option, None, Result, Ok, Err, refl, sym, ap, subst}
use Rattle.std.specs.Prelude.{OnOk, IsErr, String}
use Rattle.std.specs.Global.{Global}
use Rattle.disk_model.specs.Files.{Files}
use Rattle.disk_model.specs.Moments.{Moments}
use Rattle.trie_model.specs.Maps.{Map}
use Rattle.batch_model.specs.Batch.{Change, set_change}
use Rattle.text_model.specs.LineKind.{LineKind}
use Rattle.text_model.specs.ReadLine.{Line, Script, read_line}
use Rattle.session_model.specs.Session.{Session, Step, BadLine, pend, quiet, read_step, step}
use Rattle.run_model.specs.End.{BadLine as BadLineEnd, NoMemory}
use Rattle.run_model.specs.Script.{Keeps as KeepsSteps}
use Rattle.mdb_base.specs.Batches.{change_of}
use Rattle.mdb_journal.specs.DiskMoves.{AreSynced}
use Rattle.mdb_core.specs.Stores.{DbState, Keeps}
use Rattle.script_run.specs.declared.end.SessionEnd.{SessionEnd}
use Rattle.script_run.specs.declared.end.SessionEnd.TheVariants.{Done as done, BadLine as bad_line, Limit as limit, Damaged as damaged_at, Read as failed_read, Write as failed_write, Disk as failed_disk, NoMemory as no_memory}
use Rattle.script_run.specs.Ends.{end_of, IsTextOf}
use Rattle.script_run.specs.ScriptSteps.{IsAt, IsQuiet, PartRuns, IsUnread, played, session_of}
use Rattle.mdb_core.proofs.StoreFiles.{kept_stands}
use Rattle.script_run.proofs.KeptFiles.{kept_leaves}
use Rattle.script_run.proofs.KeptSteps.{idle}
use Rattle.script_run.proofs.Refusals.{text_quiet}
use Rattle.script_run.proofs.StoppedParts.{stopped_runs, refused_runs, memory_no_stop}

-- nothing is done
pub skip_quiet : (m : Map) (db : DbState) (pending : List Change) (files : Files) (r : Result (String Global) SessionEnd) → Keeps db m files → IsTextOf [] r → IsQuiet (Ok (session_of m db pending, quiet)) r db pending files
skip_quiet m db pending files r keeps of = text_quiet (Ok (session_of m db pending, quiet)) (session_of m db pending) db pending files r [] refl (record { keeps_map = keeps; holding_is = refl; pending_is = refl; views_are = refl }) of

-- a change is pending more
pub pend_quiet : (m : Map) (db : DbState) (pending pending' : List Change) (files : Files) (key : List ℕ) (value : Option (List ℕ)) (r : Result (String Global) SessionEnd) → Keeps db m files → OnOk r (pending' ≡ set_change pending (change_of key value)) → IsTextOf [] r
    → IsQuiet (Ok (pend (session_of m db pending) key value, quiet)) r db pending' files
pend_quiet m db pending pending' files key value (Ok t) keeps is of = record { next = pend (session_of m db pending) key value; is = ap (λ (u : List ℕ). Ok (pend (session_of m db pending) key value, record { text = u; committed = None })) (sym of); at = record { keeps_map = keeps; holding_is = refl; pending_is = is; views_are = refl } }
pend_quiet m db pending pending' files key value (Err end) keeps is of = subst (λ (e : SessionEnd). IsQuiet (Ok (pend (session_of m db pending) key value, quiet)) (Err e) db pending' files) (sym of) tt

-- the disk was not called
pub kept_still : (s : Session) (xs : List Step) (db : DbState) (pending : List Change) (files : Files) (taken : Option (List ℕ)) (now : Moments) → IsAt s db pending files → AreSynced files now → KeepsSteps s.map xs taken taken now now
kept_still s xs db pending files taken now at synced = idle s.map xs taken now (kept_leaves db s.map files now at.keeps_map synced)

-- a line that was not read
module _ (w number : ℕ) (s : Session) (db : DbState) (pending : List Change) (files : Files) (taken : Option (List ℕ)) (at : IsAt s db pending files) where
  bad : (n : ℕ) (read : Result Line LineKind) → n ≡ number → IsErr read → PartRuns (played s (read_step w number s read)) s.map taken taken files (BadLineEnd n)
  bad n (Ok line) same err = let no : ⊥ = cc err in absurd no
  bad n (Err kind) same err = subst (λ (k : ℕ). PartRuns (played s (Err (BadLine number))) s.map taken taken files (BadLineEnd k)) (sym same) (refused_runs s (BadLine number) taken files (kept_stands db s.map files at.keeps_map))

  pub unread_runs : (line : List ℕ) (end : SessionEnd) → IsUnread number (read_line Script line) end → PartRuns (played s (step w number s line)) s.map taken taken files (end_of end)
  unread_runs line done why = absurd why
  unread_runs line (bad_line n) why = bad n (read_line Script line) why.0 why.1
  unread_runs line (limit kind) why = absurd why
  unread_runs line (damaged_at file place) why = absurd why
  unread_runs line failed_read why = absurd why
  unread_runs line failed_write why = absurd why
  unread_runs line failed_disk why = absurd why
  unread_runs line no_memory why = stopped_runs (played s (step w number s line)) s.map taken files NoMemory memory_no_stop (λ ne. kept_stands db s.map files at.keeps_map)
