-- What is seen of the files in memory.
use Rattle.std.specs.Prelude.{ℕ, List, map, get_or, []}
use Rattle.disk_model.specs.Files.{Files}
use Rattle.disk_model.specs.Crash.{Unsynced}
use Rattle.disk_model.specs.Moments.{Moments}
use Rattle.mem_world.specs.declared.bytes.FileBytes.{FileBytes}
use Rattle.mem_world.specs.declared.file.MemFile.{MemFile}
use Rattle.mem_world.specs.File.{File, file_with}
use Rattle.mem_world.specs.Changes.{file_at}

-- the bytes of a file
abbrev pub bytes_of : FileBytes → List ℕ
bytes_of f = f.bytes.items

-- a file, and what is unsynced of it
abbrev pub file_of : MemFile → File
file_of f = file_with f.bytes.bytes.items f.synced.items f.least f.greatest f.touched.items

-- what is read of these files, by their number
abbrev pub seen_in : List File → Files
seen_in files k = (file_at files k).seen

-- what is unsynced of these files, by their number
abbrev pub unsynced_in : List File → ℕ → Unsynced
unsynced_in files k = (file_at files k).unsynced

-- the moments of these files, and of the files before them
abbrev pub moments_of : List File → List (List File) → Moments
moments_of files past = record { now = unsynced_in files; past = map unsynced_in past }

-- what is read of plain files, by their number
abbrev pub bytes_in : List FileBytes → Files
bytes_in files k = get_or (map bytes_of files) k []
