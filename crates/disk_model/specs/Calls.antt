-- What each call of a disk promises. What a disk doesn't tell, its calls say nothing of.
use Rattle.std.specs.Prelude.{◌≡◌, ℕ, ◌+◌, ◌≤◌, List, length, take, drop, Result, IfOk, OnOk, OnErr}
use Rattle.base_model.specs.Faults.{HasCause}
use Rattle.disk_model.specs.Files.{Alone, Writes, Cuts, file_limit, first_touched}
use Rattle.disk_model.specs.Crash.{at_rest, after_write, after_cut}
use Rattle.disk_model.specs.Moments.{Passes, Ticks}
use Rattle.disk_model.specs.Words.{DiskWords, TellsContents, TellsImages}

-- the length of a file, which is at most the greatest that a file has
pub record IsLen {D E : Type 0} (words : DiskWords D) (file : ℕ) (old new : D) (result : Result ℕ E) : Type 0 where
  pub limit : IfOk result (λ n. n ≤ file_limit)
  pub contents : TellsContents words.tells → IfOk result (λ n. n ≡ length (words.seen old file))
  pub seen : words.seen new ≡ words.seen old
  pub images : words.moments new ≡ words.moments old
  pub cause : HasCause (words.faults old) (words.faults new) result

-- the bytes at a place, into a piece, where there are so many
pub record IsRead {D T E : Type 0} (words : DiskWords D) (file at : ℕ) (piece : List ℕ) (old new : D) (result : Result T E) : Type 0 where
  pub inside : TellsContents words.tells → OnOk result (at + length piece ≤ length (words.seen old file))
  pub contents : TellsContents words.tells → OnOk result (piece ≡ take (length piece) (drop at (words.seen old file)))
  pub seen : words.seen new ≡ words.seen old
  pub images : words.moments new ≡ words.moments old
  pub cause : HasCause (words.faults old) (words.faults new) result

-- a write, whose range ends within the greatest length of a file
pub record IsWrite {D T E : Type 0} (words : DiskWords D) (file at : ℕ) (bytes : List ℕ) (old new : D) (result : Result T E) : Type 0 where
  pub limit : OnOk result (at + length bytes ≤ file_limit)
  pub contents : TellsContents words.tells → Alone file (Writes at bytes result) (words.seen old) (words.seen new)
  pub images : TellsImages words.tells → Ticks result file (after_write (first_touched (words.seen old file) at) (at + length bytes)) (words.moments old) (words.moments new)
  pub cause : HasCause (words.faults old) (words.faults new) result

-- a cut
pub record IsCut {D T E : Type 0} (words : DiskWords D) (file n : ℕ) (old new : D) (result : Result T E) : Type 0 where
  pub contents : TellsContents words.tells → Alone file (Cuts n result) (words.seen old) (words.seen new)
  pub images : TellsImages words.tells → Ticks result file (after_cut n) (words.moments old) (words.moments new)
  pub cause : HasCause (words.faults old) (words.faults new) result

-- a sync: only a successful one counts, and one that failed may leave anything where a crash might
pub record IsSync {D T E : Type 0} (words : DiskWords D) (file : ℕ) (old new : D) (result : Result T E) : Type 0 where
  pub contents : TellsContents words.tells → Alone file (λ was is. OnOk result (is ≡ was)) (words.seen old) (words.seen new)
  pub images : TellsImages words.tells → OnOk result (Passes file (λ _. at_rest (words.seen old file)) (words.moments old) (words.moments new))
  pub unsynced : TellsImages words.tells → OnErr result (words.moments new ≡ words.moments old)
  pub cause : HasCause (words.faults old) (words.faults new) result
