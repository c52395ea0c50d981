-- What the disks in memory read as: the proofs that their laws ask for.
use Rattle.std.proofs.Common.{ℕ, zero, suc, List, [], ◌∷◌, map, arith}
use Rattle.disk_model.specs.Files.{IsFile}
use Rattle.disk_model.specs.Words.{IsDisk}
use Rattle.disk_model.proofs.RestImages.{image_at_rest}
use Rattle.mem_world.specs.declared.bytes.FileBytes.{FileBytes}
use Rattle.mem_world.specs.declared.file.MemFile.{MemFile}
use Rattle.mem_world.specs.File.{IsSound, resting}
use Rattle.mem_world.specs.Changes.{file_at}
use Rattle.mem_world.specs.Seen.{file_of, bytes_in}
use Rattle.mem_world.specs.Told.{mem_words, flat_words}

empty_file : IsFile []
empty_file = record { bytes = tt; fits = omega arith }

sound_rest : IsSound (resting [])
sound_rest = record { kept = image_at_rest [] empty_file; lost = image_at_rest [] empty_file; limit = omega arith }

pub each_sound : (files : List MemFile) (k : ℕ) → IsSound (file_at (map file_of files) k)
each_sound [] k = sound_rest
each_sound (f ∷ files) zero = f.sound
each_sound (f ∷ files) (suc k) = each_sound files k

each_file : (files : List FileBytes) (k : ℕ) → IsFile (bytes_in files k)
each_file [] k = empty_file
each_file (f ∷ files) zero = f.is_file
each_file (f ∷ files) (suc k) = each_file files k

pub mem_is_disk : IsDisk mem_words
mem_is_disk = record {
  reads_files = λ told d k. (each_sound d.files k).kept.is_file;
  reads_an_image = λ told d k. (each_sound d.files k).kept;
}

pub flat_is_disk : IsDisk flat_words
flat_is_disk = record {
  reads_files = λ told d k. each_file d.files k;
  reads_an_image = λ told d k. absurd told;
}
