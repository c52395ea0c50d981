-- Each file in memory reads as one of its images.
use Rattle.std.proofs.Common.{◌≡◌, ℕ, ◌+◌, ◌≤◌, max, List, [], ◌∷◌, ◌++◌, length, refl, subst, arith}
use Rattle.disk_model.specs.Files.{IsFile, written, file_limit, first_touched}
use Rattle.disk_model.proofs.TornImages.{image_after_write}
use Rattle.mem_world.specs.File.{File, file_with, IsSound, after_writing}
use Rattle.mem_world.proofs.Writing.{written_torn}

pub sound-writing : (at : ℕ) (bytes : List ℕ) (f : File) → at + length bytes ≤ file_limit → IsFile (written f.seen at bytes) → IsSound f → IsSound (after_writing at bytes f)
sound-writing at bytes f fits is sound = record {
  kept = image_after_write f.unsynced (first_touched f.seen at) (at + length bytes) f.seen (written f.seen at bytes) is sound.kept (written_torn f.seen at bytes);
  lost = record { is_file = sound.lost.is_file; no_shorter = sound.lost.no_shorter; no_longer = omega (arith, sound.lost.no_longer); untouched = λ i lt none. refl };
  limit = omega (arith, sound.limit);
}

-- the same of a file that was put together
pub sound_written : (at : ℕ) (bytes : List ℕ) (f : File) (seen : List ℕ) (greatest : ℕ) (touched : List (ℕ × ℕ)) → at + length bytes ≤ file_limit
    → seen ≡ written f.seen at bytes → greatest ≡ max f.unsynced.greatest (at + length bytes) → touched ≡ f.unsynced.touched ++ (first_touched f.seen at, at + length bytes) ∷ []
    → IsFile seen → IsSound f → IsSound (file_with seen f.unsynced.synced f.unsynced.least greatest touched)
sound_written at bytes f seen greatest touched fits s g t is sound =
    let made : after_writing at bytes f ≡ file_with seen f.unsynced.synced f.unsynced.least greatest touched = cc in
    subst IsSound made (sound-writing at bytes f fits (subst IsFile s is) sound)
