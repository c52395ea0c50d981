-- What the disks in memory tell, and what their calls do besides.
use Rattle.std.specs.Prelude.{◌≡◌, ◌⊎◌, ℕ, List, ◌∷◌, map, Result, OnErr, IsErr}
use Rattle.base_model.specs.Faults.{CountsFaults}
use Rattle.disk_model.specs.Words.{DiskWords, Contents, Images, no_moments}
use Rattle.mem_world.specs.declared.stops.Stops.{Stops}
use Rattle.mem_world.specs.declared.changes.Call.{Call}
use Rattle.mem_world.specs.declared.mem_disk.MemDisk.{MemDisk}
use Rattle.mem_world.specs.declared.flat_disk.FlatDisk.{FlatDisk}
use Rattle.mem_world.specs.File.{File, resting}
use Rattle.mem_world.specs.Stops.{FailsNext, next_stops}
use Rattle.mem_world.specs.Changes.{step, earlier}
use Rattle.mem_world.specs.Seen.{file_of, seen_in, moments_of, bytes_in}

-- the files of a disk
abbrev pub disk_files : MemDisk → List File
disk_files d = map file_of d.files

-- its files at each earlier moment, the latest first
abbrev pub disk_past : MemDisk → List (List File)
disk_past d = earlier (map (λ v. resting v.items) d.start) d.calls.items

-- which of its calls are told to fail
abbrev pub disk_stops : MemDisk → Stops
disk_stops d = d.stops

-- how often it has failed
abbrev pub disk_faults : MemDisk → ℕ
disk_faults d = d.faults

-- a disk that tells what is read, and what a crash may leave
abbrev pub mem_words : DiskWords MemDisk
mem_words = record { tells = Images; seen = λ d. seen_in (disk_files d); moments = λ d. moments_of (disk_files d) (disk_past d); faults = disk_faults }

-- what each call does besides: it fails where it is told to, one that fails leaves what is read, and faults are counted
pub record Heeds {T E : Type 0} (old new : MemDisk) (result : Result T E) : Type 0 where
  pub fails : FailsNext (disk_stops old) → IsErr result
  pub stops : disk_stops new ≡ next_stops (disk_stops old)
  pub kept : OnErr result (seen_in (disk_files new) ≡ seen_in (disk_files old))
  pub faults : CountsFaults (disk_faults old) (disk_faults new) result

-- a call that was begun changed the files, or there was no memory for it
abbrev pub Begun : Call → MemDisk → MemDisk → Type 0
Begun call old new =
    ((disk_files new ≡ disk_files old) × (disk_past new ≡ disk_past old))
    ⊎ ((disk_files new ≡ step call (disk_files old)) × (disk_past new ≡ disk_files old ∷ disk_past old))

-- how often a plain disk has failed
abbrev pub flat_faults : FlatDisk → ℕ
flat_faults d = d.faults

-- a disk that tells what is read, and nothing of crashes
abbrev pub flat_words : DiskWords FlatDisk
flat_words = record { tells = Contents; seen = λ d. bytes_in d.files; moments = λ _. no_moments; faults = flat_faults }
