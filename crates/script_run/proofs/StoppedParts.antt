-- Parts of a script that stop, or are stopped from outside.
use Rattle.std.proofs.Common.{◌≡◌, ◌≢◌, List, [], ℕ, Option, Some, None, Err, refl}
use Rattle.disk_model.specs.Files.{Files}
use Rattle.trie_model.specs.Maps.{Map, limits}
use Rattle.store_model.specs.Journal.{Stands}
use Rattle.session_model.specs.Session.{Session, Stop, BadLine, Limit}
use Rattle.session_model.specs.Script.{Played, text_of}
use Rattle.run_model.specs.End.{End, Read, Write, Disk, NoMemory}
use Rattle.run_model.specs.Script.{IsStop, end_of_stop}
use Rattle.script_run.specs.ScriptSteps.{PartRuns, played}
use Rattle.run_model.proofs.PrintedText.{nothing, nothing_yet}
use Rattle.script_run.proofs.KeptSteps.{none_done}

-- ---- ends that are none of a script's own
read_is_no : (stop : Option Stop) → Read ≡ end_of_stop stop → ⊥
read_is_no None is = cc is
read_is_no (Some (BadLine number)) is = cc is
read_is_no (Some (Limit kind)) is = cc is

pub read_no_stop : IsStop Read → ⊥
read_no_stop is = read_is_no is.0 is.1

write_is_no : (stop : Option Stop) → Write ≡ end_of_stop stop → ⊥
write_is_no None is = cc is
write_is_no (Some (BadLine number)) is = cc is
write_is_no (Some (Limit kind)) is = cc is

pub write_no_stop : IsStop Write → ⊥
write_no_stop is = write_is_no is.0 is.1

disk_is_no : (stop : Option Stop) → Disk ≡ end_of_stop stop → ⊥
disk_is_no None is = cc is
disk_is_no (Some (BadLine number)) is = cc is
disk_is_no (Some (Limit kind)) is = cc is

pub disk_no_stop : IsStop Disk → ⊥
disk_no_stop is = disk_is_no is.0 is.1

memory_is_no : (stop : Option Stop) → NoMemory ≡ end_of_stop stop → ⊥
memory_is_no None is = cc is
memory_is_no (Some (BadLine number)) is = cc is
memory_is_no (Some (Limit kind)) is = cc is

pub memory_no_stop : IsStop NoMemory → ⊥
memory_no_stop is = memory_is_no is.0 is.1

-- ---- parts of which nothing was printed, and no step was done

-- stopped from outside
pub stopped_runs : (p : Played) (m : Map) (taken : Option (List ℕ)) (files : Files) (end : End) → (IsStop end → ⊥) → (end ≢ Disk → Stands limits files m) → PartRuns p m taken taken files end
stopped_runs p m taken files end no_stop stands = record {
  came = λ is. absurd (no_stop is);
  prefix = nothing_yet taken (text_of p.steps);
  files_are = λ ne. none_done m p.steps files (stands ne);
}

-- a step that its session refuses
pub refused_runs : (s : Session) (why : Stop) (taken : Option (List ℕ)) (files : Files) → Stands limits files s.map → PartRuns (played s (Err why)) s.map taken taken files (end_of_stop (Some why))
refused_runs s why taken files stands = record {
  came = λ is. record { stops = refl; text = nothing taken; stands = stands };
  prefix = nothing_yet taken [];
  files_are = λ ne. none_done s.map [] files stands;
}
