-- The crash rule: what a crash may leave of files.
use Rattle.std.specs.Prelude.{◌≡◌, ℕ, ◌≤◌, ◌<◌, ◌&&◌, ◌||◌, min, max, Bool, false, List, [], ◌∷◌, ◌++◌, length, slice_index, nat_lt, nat_le}
use Rattle.std.specs.List.{list_any}
use Rattle.disk_model.specs.Files.{Files, IsFile}

-- what a file went through since its last successful sync
pub record Unsynced : Type 0 where
  pub synced : List ℕ  -- its bytes at that sync
  pub least : ℕ  -- its least length since then
  pub greatest : ℕ  -- its greatest length since then
  pub touched : List (ℕ × ℕ)  -- the ranges that were written since then, each from its first place to the one after its last

-- a place lies in one of the ranges
abbrev pub is_touched : List (ℕ × ℕ) → ℕ → Bool
is_touched ranges i = list_any (λ r. nat_le r.0 i && nat_lt i r.1) ranges

-- the crash rule leaves a byte open: it lies past the least length, or a write touched it
abbrev pub is_open : Unsynced → ℕ → Bool
is_open file i = nat_le file.least i || is_touched file.touched i

-- A crash may leave these bytes of a file. Their number is anything between the least and the greatest length.
-- Bytes below the least length that no write touched are as they were. All others may be anything.
pub record IsImage (file : Unsynced) (image : List ℕ) : Type 0 where
  pub is_file : IsFile image
  pub no_shorter : file.least ≤ length image
  pub no_longer : length image ≤ file.greatest
  pub untouched : (i : ℕ) → i < file.least → is_touched file.touched i ≡ false → slice_index image i ≡ slice_index file.synced i

-- a file that was synced just now
abbrev pub at_rest : List ℕ → Unsynced
at_rest bytes = record { synced = bytes; least = length bytes; greatest = length bytes; touched = [] }

-- a file after a write that touched this range
abbrev pub after_write : ℕ → ℕ → Unsynced → Unsynced
after_write from to file = record { synced = file.synced; least = file.least; greatest = max file.greatest to; touched = file.touched ++ (from, to) ∷ [] }

-- a file after a cut to this length
abbrev pub after_cut : ℕ → Unsynced → Unsynced
after_cut n file = record { synced = file.synced; least = min n file.least; greatest = file.greatest; touched = file.touched }

-- a crash leaves an image of each file, and files are independent of each other
abbrev pub IsImageOf : (ℕ → Unsynced) → Files → Type 0
IsImageOf files image = (file : ℕ) → IsImage (files file) (image file)
