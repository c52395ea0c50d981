-- A file in memory, and what the calls of a disk do to it.
use Rattle.std.specs.Prelude.{ℕ, ◌+◌, ◌≤◌, List, length, take}
use Rattle.disk_model.specs.Files.{written, file_limit, first_touched}
use Rattle.disk_model.specs.Crash.{Unsynced, IsImage, at_rest, after_write, after_cut}

-- what is read of a file, and what a crash may leave of it
pub record File : Type 0 where
  pub seen : List ℕ
  pub unsynced : Unsynced

-- a file of these bytes, with what it went through since its last successful sync
abbrev pub file_with : List ℕ → List ℕ → ℕ → ℕ → List (ℕ × ℕ) → File
file_with seen synced least greatest touched = record { seen = seen; unsynced = record { synced = synced; least = least; greatest = greatest; touched = touched } }

-- a file that was synced just now
abbrev pub resting : List ℕ → File
resting bytes = record { seen = bytes; unsynced = at_rest bytes }

-- after a write
abbrev pub after_writing : ℕ → List ℕ → File → File
after_writing at bytes f = record { seen = written f.seen at bytes; unsynced = after_write (first_touched f.seen at) (at + length bytes) f.unsynced }

-- after a write of so many bytes that failed: it reads as before, and a crash may leave anything in the range
abbrev pub after_failed_write : ℕ → ℕ → File → File
after_failed_write at count f = record { seen = f.seen; unsynced = after_write (first_touched f.seen at) (at + count) f.unsynced }

-- after a cut
abbrev pub after_cutting : ℕ → File → File
after_cutting n f = record { seen = take n f.seen; unsynced = after_cut n f.unsynced }

-- after a cut that failed: it reads as before, and a crash may leave anything behind the place
abbrev pub after_failed_cut : ℕ → File → File
after_failed_cut n f = record { seen = f.seen; unsynced = after_cut n f.unsynced }

-- after a sync
abbrev pub after_syncing : File → File
after_syncing f = resting f.seen

-- what is read is an image, and so is what was there at the last sync
pub record IsSound (f : File) : Type 0 where
  pub kept : IsImage f.unsynced f.seen
  pub lost : IsImage f.unsynced f.unsynced.synced
  pub limit : f.unsynced.greatest ≤ file_limit
