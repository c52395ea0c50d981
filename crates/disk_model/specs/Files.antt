-- What is read of files, and what the calls of a disk make of one.
use Rattle.std.specs.Prelude.{◌≡◌, ◌≢◌, ℕ, ◌+◌, ◌-◌, ◌^◌, ◌≤◌, max, min, List, ◌++◌, length, take, drop, replicate, Result, OnOk, OnErr}
use Rattle.base_model.specs.Bytes.{AreBytes}

-- the bytes of each file, by its number
abbrev pub Files : Type 0
Files = ℕ → List ℕ

-- how many bytes a file has at most
abbrev pub file_limit : ℕ
file_limit = 2 ^ 63 - 1

-- what a file may hold: bytes, and not too many
pub record IsFile (file : List ℕ) : Type 0 where
  pub bytes : AreBytes file
  pub fits : length file ≤ file_limit

-- a file with these bytes at this place; a gap before it is filled with zeros
abbrev pub written : List ℕ → ℕ → List ℕ → List ℕ
written file at bytes = (take at file ++ replicate (at - length file) 0) ++ bytes ++ drop (at + length bytes) file

-- where a write touches a file first: at its place, or where the gap before it begins
abbrev pub first_touched : List ℕ → ℕ → ℕ
first_touched file at = min at (length file)

-- torn from one place to another: there anything, elsewhere the same; no shorter, and no longer than up to the range's end
pub record Torn (from to : ℕ) (old new : List ℕ) : Type 0 where
  pub before : take from new ≡ take from old
  pub after : drop to new ≡ drop to old
  pub no_shorter : length old ≤ length new
  pub no_longer : length new ≤ max (length old) to

-- half cut: the same up to a place, and after it anything or nothing; no longer
pub record HalfCut (n : ℕ) (old new : List ℕ) : Type 0 where
  pub before : take n new ≡ take n old
  pub no_shorter : min n (length old) ≤ length new
  pub no_longer : length new ≤ length old

-- what a write makes of a file; one that failed may leave anything in its range
pub record Writes {T E : Type 0} (at : ℕ) (bytes : List ℕ) (result : Result T E) (old new : List ℕ) : Type 0 where
  pub ok : OnOk result (new ≡ written old at bytes)
  pub err : OnErr result (Torn (first_touched old at) (at + length bytes) old new)

-- what a cut makes of a file; one that failed may leave anything past its place
pub record Cuts {T E : Type 0} (n : ℕ) (result : Result T E) (old new : List ℕ) : Type 0 where
  pub ok : OnOk result (new ≡ take n old)
  pub err : OnErr result (HalfCut n old new)

-- one of many has changed so, and the others are as they were
pub record Alone {X : Type 0} (file : ℕ) (change : X → X → Type 0) (old new : ℕ → X) : Type 0 where
  pub here : change (old file) (new file)
  pub others : (other : ℕ) → other ≢ file → new other ≡ old other
