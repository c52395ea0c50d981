-- What a run sees of the things outside at one moment: what they tell, and how often they have failed.
use Rattle.std.specs.Prelude.{ℕ, List, Option}
use Rattle.disk_model.specs.Files.{Files}
use Rattle.disk_model.specs.Moments.{Moments}
use Rattle.disk_model.specs.Words.{Telling, DiskWords}

-- of the input: the bytes that are left, where it tells them
pub record InputSeen : Type 0 where
  pub left : Option (List ℕ)
  pub faults : ℕ

-- of an output: the bytes that it took, where it tells them
pub record OutputSeen : Type 0 where
  pub taken : Option (List ℕ)
  pub faults : ℕ

-- of the disk: how much it tells, what is read of its files, and what a crash may leave of them
pub record DiskSeen : Type 0 where
  pub tells : Telling
  pub files : Files
  pub moments : Moments
  pub faults : ℕ

-- of all things that a run is handed
pub record Outside : Type 0 where
  pub input : InputSeen
  pub output : OutputSeen
  pub disk : DiskSeen

abbrev pub input_seen : Option (List ℕ) → ℕ → InputSeen
input_seen left faults = record { left = left; faults = faults }

abbrev pub output_seen : Option (List ℕ) → ℕ → OutputSeen
output_seen taken faults = record { taken = taken; faults = faults }

abbrev pub disk_seen : {D : Type 0} → DiskWords D → D → DiskSeen
disk_seen words disk = record { tells = words.tells; files = words.seen disk; moments = words.moments disk; faults = words.faults disk }

abbrev pub outside : Option (List ℕ) → ℕ → Option (List ℕ) → ℕ → DiskSeen → Outside
outside left reads taken writes disk = record { input = input_seen left reads; output = output_seen taken writes; disk = disk }
