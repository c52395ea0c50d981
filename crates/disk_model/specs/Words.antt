-- What is known of a disk.
use Rattle.std.specs.Prelude.{ℕ, []}
use Rattle.disk_model.specs.Files.{Files, IsFile}
use Rattle.disk_model.specs.Crash.{IsImage, at_rest}
use Rattle.disk_model.specs.Moments.{Moments}

-- how much a disk tells: nothing, what is read, or also what a crash may leave
pub data Telling : Type 0 where
  Nothing : Telling
  Contents : Telling
  Images : Telling

-- it tells what is read
abbrev pub TellsContents : Telling → Type 0
TellsContents Nothing = ⊥
TellsContents Contents = Unit {0}
TellsContents Images = Unit {0}

-- it tells what a crash may leave
abbrev pub TellsImages : Telling → Type 0
TellsImages Nothing = ⊥
TellsImages Contents = ⊥
TellsImages Images = Unit {0}

-- what is known of a disk, for proofs alone
pub record DiskWords (D : Type 0) : Type 1 where
  pub tells : Telling  -- how much it tells
  pub seen : D → Files  -- what a read gives
  pub moments : D → Moments  -- what a crash may leave, now and at each earlier moment
  pub faults : D → ℕ  -- how often it has failed

-- what stands for the files and the moments of a disk that tells none
abbrev pub no_files : Files
no_files file = []

abbrev pub no_moments : Moments
no_moments = record { now = λ _. at_rest []; past = [] }

-- what holds of each disk: it reads as files, and as one of its images
pub record IsDisk {D : Type 0} (words : DiskWords D) : Type 0 where
  pub reads_files : TellsContents words.tells → (disk : D) (file : ℕ) → IsFile (words.seen disk file)
  pub reads_an_image : TellsImages words.tells → (disk : D) (file : ℕ) → IsImage ((words.moments disk).now file) (words.seen disk file)
