-- A script on a store that is open: what it promises, and what a crash leaves of it.
use Rattle.std.specs.Prelude.{◌≡◌, ◌≢◌, ◌⊎◌, ℕ, ◌≤◌, List, [], ◌++◌, take, Option, Some, None, IfSome}
use Rattle.std.specs.Io.KnownBytes.{Appends}
use Rattle.base_model.specs.Streams.{AppendsPrefix}
use Rattle.disk_model.specs.Files.{Files}
use Rattle.disk_model.specs.Crash.{IsImageOf}
use Rattle.disk_model.specs.Moments.{Moments, LeavesOnly, Meanwhile}
use Rattle.trie_model.specs.Maps.{Map, limits}
use Rattle.store_model.specs.Journal.{Stands}
use Rattle.session_model.specs.Session.{Step, Stop, BadLine as stopped_by_line, Limit as stopped_by_limit}
use Rattle.session_model.specs.Script.{Played, script, decided, text_of, after_steps}
use Rattle.run_model.specs.OutsideThings.{Outside}
use Rattle.run_model.specs.End.{End, Done, BadLine, Limit, Read, Disk}

-- ---- what a crash leaves

-- the files stand for the map after some of the steps, from the first on, and at least after so many
pub record HasSteps (m : Map) (steps : List Step) (n : ℕ) (image : Files) : Type 0 where
  pub count : ℕ
  pub at_least : n ≤ count
  pub stands : Stands limits image (after_steps m (take count steps))

-- From old to now a crash leaves the map after some of the steps. What the output took is of the text of steps that a crash
-- now leaves: it holds each commit whose line the output took.
pub record Keeps (m : Map) (steps : List Step) (taken taken' : Option (List ℕ)) (old now : Moments) : Type 0 where
  pub meanwhile : Meanwhile (HasSteps m steps 0) old now
  pub told : ℕ
  pub text : AppendsPrefix taken taken' (text_of (take told steps))
  pub left : LeavesOnly (HasSteps m steps told) now.now

-- the store is still opening: a crash leaves what it might have left before, and the output took nothing
pub record StillOpening (taken taken' : Option (List ℕ)) (old now : Moments) : Type 0 where
  pub meanwhile : Meanwhile (IsImageOf old.now) old now
  pub text : Appends taken taken' []

-- the opening was synced at some moment, and from then on the steps are kept
pub record OpenedThen (m : Map) (steps : List Step) (taken taken' : Option (List ℕ)) (old now : Moments) : Type 0 where
  pub at : Moments
  pub before : Meanwhile (IsImageOf old.now) old at
  pub there : LeavesOnly (λ image. Stands limits image m) at.now
  pub kept : Keeps m steps taken taken' at now

-- what a crash leaves of a run that opens a store, which stands for this map, and then does these steps
abbrev pub Survives : Map → List Step → Option (List ℕ) → Option (List ℕ) → Moments → Moments → Type 0
Survives m steps taken taken' old now = StillOpening taken taken' old now ⊎ OpenedThen m steps taken taken' old now

-- ---- what is printed, and what the files stand for

-- how a run ends, by why its script stopped
abbrev pub end_of_stop : Option Stop → End
end_of_stop None = Done
end_of_stop (Some (stopped_by_line number)) = BadLine number
end_of_stop (Some (stopped_by_limit kind)) = Limit kind

-- an end that a script itself comes to
abbrev pub IsStop : End → Type 0
IsStop end = (stop : Option Stop) × (end ≡ end_of_stop stop)

-- the script ended as it had to, its text was printed whole, and the files stand for its last map
pub record Came (p : Played) (before after : Outside) (end : End) : Type 0 where
  pub stops : end ≡ end_of_stop p.stop
  pub text : Appends before.output.taken after.output.taken (text_of p.steps)
  pub files : Stands limits after.disk.files p.session.map

-- the bytes that the input gave decide nothing
abbrev pub DecideNothing : ℕ → Map → List ℕ → Option (List ℕ) → Type 0
DecideNothing w m bytes left = IfSome left (λ rest. (given : List ℕ) × (bytes ≡ given ++ rest) × (decided w m given ≡ None))

-- what a script promises, of an input of these bytes, on a store that stands for this map
pub record ScriptRuns (w : ℕ) (m : Map) (bytes : List ℕ) (before after : Outside) (end : End) : Type 0 where
  pub came : IsStop end → Came (script w m bytes) before after end
  -- with any end a prefix of the script's text was printed
  pub prefix : AppendsPrefix before.output.taken after.output.taken (text_of (script w m bytes).steps)
  -- unless the disk failed, the files stand for the map after some of the steps
  pub files : end ≢ Disk → HasSteps m (script w m bytes).steps 0 after.disk.files
  -- a failed read is told only where the bytes that the input gave decide nothing
  pub undecided : end ≡ Read → DecideNothing w m bytes after.input.left
