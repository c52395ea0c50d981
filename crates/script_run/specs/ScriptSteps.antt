-- What the code of a script holds from step to step, and what a part of a script promises.
use Rattle.std.specs.Prelude.{◌≡◌, ◌≢◌, ℕ, ◌≤◌, List, [], length, Option, None, Result, Ok, Err, IsErr, String, string_bytes}
use Rattle.std.specs.Global.{Global}
use Rattle.std.specs.Io.KnownBytes.{Appends}
use Rattle.base_model.specs.Streams.{AppendsPrefix}
use Rattle.disk_model.specs.Files.{Files}
use Rattle.disk_model.specs.Moments.{Moments}
use Rattle.trie_model.specs.Maps.{Map, limits}
use Rattle.batch_model.specs.Batch.{Change}
use Rattle.text_model.specs.Lines.{input_limit, lines_within}
use Rattle.text_model.specs.LineKind.{LineKind}
use Rattle.text_model.specs.ReadLine.{Line}
use Rattle.store_model.specs.Journal.{Stands}
use Rattle.session_model.specs.Session.{Session, Step, Stop, Limit, start, prints}
use Rattle.session_model.specs.Script.{Played, then_play, play, text_of}
use Rattle.run_model.specs.End.{End, Disk}
use Rattle.run_model.specs.Script.{HasSteps, IsStop, end_of_stop, Keeps as KeepsSteps}
use Rattle.mdb_core.specs.Stores.{DbState, Keeps}
use Rattle.store_opening.specs.Opening.{holding_of}
use Rattle.script_run.specs.Ends.{limit_of}
use Rattle.script_run.specs.declared.end.SessionEnd.{SessionEnd}
use Rattle.script_run.specs.declared.end.SessionEnd.TheVariants.{Done as done, BadLine as bad_line, Limit as limit, Damaged as damaged_at, Read as failed_read, Write as failed_write, Disk as failed_disk, NoMemory as no_memory}

-- ---- where the code is

-- the store, the pending batch and the files are those of a session
pub record IsAt (s : Session) (db : DbState) (pending : List Change) (files : Files) : Type 0 where
  pub keeps_map : Keeps db s.map files
  pub holding_is : holding_of db s.map ≡ s.holding
  pub pending_is : pending ≡ s.pending
  pub views_are : db.forest ≡ s.views

-- the session at which a store of this map is, with this batch pending
abbrev pub session_of : Map → DbState → List Change → Session
session_of m db pending = record { map = m; holding = holding_of db m; views = db.forest; pending = pending }

-- ---- one step

-- a script of no line more
abbrev pub still : Session → Played
still s = record { session = s; steps = []; stop = None }

-- a script of one step
abbrev pub played : Session → Result (Session × Step) Stop → Played
played s made = then_play s made still

-- the step was done, and its text was printed
pub record IsDone (made : Result (Session × Step) Stop) (db : DbState) (pending : List Change) (files : Files) (taken taken' : Option (List ℕ)) : Type 0 where
  pub next : Session
  pub step : Step
  pub is : made ≡ Ok (next, step)
  pub at : IsAt next db pending files
  pub text : Appends taken taken' step.text

-- the step was done, and this is its text, which is to be printed
pub record IsMade (made : Result (Session × Step) Stop) (text : List ℕ) (db : DbState) (pending : List Change) (files : Files) : Type 0 where
  pub next : Session
  pub step : Step
  pub is : made ≡ Ok (next, step)
  pub text_is : text ≡ step.text
  pub at : IsAt next db pending files

-- a step that commits nothing was done, and this is its text, which is to be printed
pub record IsToTell (made : Result (Session × Step) Stop) (text : List ℕ) (db : DbState) (pending : List Change) (files : Files) : Type 0 where
  pub next : Session
  pub is : made ≡ Ok (next, prints text)
  pub at : IsAt next db pending files

-- how a step ends that commits nothing and calls no disk: by its limit, or for want of memory
abbrev pub IsQuietEnd : Result (Session × Step) Stop → SessionEnd → Type 0
IsQuietEnd made done = ⊥
IsQuietEnd made (bad_line n) = ⊥
IsQuietEnd made (limit kind) = made ≡ Err (Limit (limit_of kind))
IsQuietEnd made (damaged_at file at) = ⊥
IsQuietEnd made failed_read = ⊥
IsQuietEnd made failed_write = ⊥
IsQuietEnd made failed_disk = ⊥
IsQuietEnd made no_memory = Unit {0}

-- such a step was done, or ended so
abbrev pub IsQuiet : Result (Session × Step) Stop → Result (String Global) SessionEnd → DbState → List Change → Files → Type 0
IsQuiet made (Ok text) db pending files = IsToTell made (string_bytes text) db pending files
IsQuiet made (Err end) db pending files = IsQuietEnd made end

-- a line of this number was not read: it is outside the grammar, or there was no memory
abbrev pub IsUnread : ℕ → Result Line LineKind → SessionEnd → Type 0
IsUnread number read done = ⊥
IsUnread number read (bad_line n) = (n ≡ number) × IsErr read
IsUnread number read (limit kind) = ⊥
IsUnread number read (damaged_at file at) = ⊥
IsUnread number read failed_read = ⊥
IsUnread number read failed_write = ⊥
IsUnread number read failed_disk = ⊥
IsUnread number read no_memory = Unit {0}

-- ---- a part of a script, that ended so

-- it ended as it had to, its text was printed whole, and the files stand for its last map
pub record CameTo (p : Played) (taken taken' : Option (List ℕ)) (files : Files) (end : End) : Type 0 where
  pub stops : end ≡ end_of_stop p.stop
  pub text : Appends taken taken' (text_of p.steps)
  pub stands : Stands limits files p.session.map

-- what it promises from this map on, as `ScriptRuns` does of a whole script
pub record PartRuns (p : Played) (m : Map) (taken taken' : Option (List ℕ)) (files : Files) (end : End) : Type 0 where
  pub came : IsStop end → CameTo p taken taken' files end
  pub prefix : AppendsPrefix taken taken' (text_of p.steps)
  pub files_are : end ≢ Disk → HasSteps m p.steps 0 files

-- with nothing printed, whatever the output took before
abbrev pub RunsUnprinted : Session → Result (Session × Step) Stop → Files → End → Type 0
RunsUnprinted s made files end = (taken : Option (List ℕ)) → PartRuns (played s made) s.map taken taken files end

-- and what a crash leaves of it then
abbrev pub KeptUnprinted : Session → Result (Session × Step) Stop → Moments → Moments → Type 0
KeptUnprinted s made old now = (taken : Option (List ℕ)) → KeepsSteps s.map (played s made).steps taken taken old now

-- and what it leaves, however much of the text is printed
abbrev pub KeptPrinting : Session → Result (Session × Step) Stop → Moments → Moments → Type 0
KeptPrinting s made old now = (taken taken' : Option (List ℕ)) → AppendsPrefix taken taken' (text_of (played s made).steps) → KeepsSteps s.map (played s made).steps taken taken' old now

-- ---- all lines

-- the lines of an input, before what is pending at their end is committed
abbrev pub all_lines : ℕ → Map → List ℕ → Played
all_lines w m bytes = play w 1 (start m) (lines_within input_limit bytes)

-- all lines were done, and the code is where they lead
pub record AllDone (w : ℕ) (m : Map) (bytes : List ℕ) (db : DbState) (pending : List Change) (files : Files) (taken taken' : Option (List ℕ)) : Type 0 where
  pub done : (all_lines w m bytes).stop ≡ None
  pub within : length bytes ≤ input_limit
  pub at : IsAt (all_lines w m bytes).session db pending files
  pub text : Appends taken taken' (text_of (all_lines w m bytes).steps)
