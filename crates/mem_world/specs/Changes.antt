-- What the calls of a disk in memory changed, one after another.
use Rattle.std.specs.Prelude.{ℕ, ◌+◌, ◌≤◌, List, [], ◌∷◌, ◌++◌, length, get_or, set}
use Rattle.disk_model.specs.Files.{file_limit}
use Rattle.mem_world.specs.declared.changes.Change.{Change}
use Rattle.mem_world.specs.declared.changes.Change.TheVariants.{Write, FailedWrite, Cut, FailedCut, Sync}
use Rattle.mem_world.specs.declared.changes.Call.{Call}
use Rattle.mem_world.specs.File.{File, resting, after_writing, after_failed_write, after_cutting, after_failed_cut, after_syncing}

-- its range ends within the greatest length of a file
abbrev pub Fits : Change → Type 0
Fits (Write at bytes) = at + length bytes.items ≤ file_limit
Fits (FailedWrite at count) = at + count ≤ file_limit
Fits (Cut n) = Unit {0}
Fits (FailedCut n) = Unit {0}
Fits Sync = Unit {0}

-- what it makes of a file
abbrev pub changed : Change → File → File
changed (Write at bytes) = after_writing at bytes.items
changed (FailedWrite at count) = after_failed_write at count
changed (Cut n) = after_cutting n
changed (FailedCut n) = after_failed_cut n
changed Sync = after_syncing

-- the file of that number
abbrev pub file_at : List File → ℕ → File
file_at files k = get_or files k (resting [])

-- the files after a call
abbrev pub step : Call → List File → List File
step call files = set files call.file (changed call.change (file_at files call.file))

-- the files after these calls
abbrev pub after : List File → List Call → List File
after files [] = files
after files (call ∷ calls) = after (step call files) calls

-- the files before each of these calls, the latest first
abbrev pub earlier : List File → List Call → List (List File)
earlier files [] = []
earlier files (call ∷ calls) = earlier (step call files) calls ++ files ∷ []
