-- What a crash picks is an image.
use Rattle.std.proofs.Common.{◌≡◌, ⊎_elim, ℕ, ◌+◌, ◌%◌, ◌<◌, ◌≤◌, Bool, true, false, cond, List, [], map, get_or, Result, Ok, Err, IfOk, refl, sym, ◌∙◌, ap, subst, arith}
use Rattle.std.proofs.Math.ListN.{get_or-map}
use Rattle.std.proofs.lemmas.List.{get_or_past}
use Rattle.std.proofs.lemmas.List.FromFn.{length-map-range_with_len, get_or-map-range_with_len}
use Rattle.std.proofs.lemmas.Bool.{cases_lt}
use Rattle.std.specs.List.{range_with_len}
use Rattle.base_model.specs.Bytes.{AreBytes}
use Rattle.disk_model.specs.Crash.{Unsynced, IsImage, IsImageOf, is_open}
use Rattle.disk_model.proofs.Bytes.{bytes_below, below_bytes}
use Rattle.disk_model.proofs.Touched.{closed_at}
use Rattle.mem_world.specs.declared.pick.Pick.{Pick}
use Rattle.mem_world.specs.declared.pick.Pick.TheVariants.{Kept, Lost, Noise}
use Rattle.mem_world.specs.declared.mem_disk.MemDisk.{MemDisk}
use Rattle.mem_world.specs.File.{File, IsSound, resting}
use Rattle.mem_world.specs.Picks.{picked, noise_at}
use Rattle.mem_world.specs.Changes.{file_at}
use Rattle.mem_world.specs.Seen.{seen_in, unsynced_in}
use Rattle.mem_world.specs.Told.{disk_files}

noise_below : (seed : ℕ) (file : Unsynced) (i : ℕ) → AreBytes file.synced → noise_at seed file i < 256
noise_below seed file i are = by_case (is_open file i)
  where
    by_case : (o : Bool) → cond o ((seed + i) % 256) (get_or file.synced i 0) < 256
    by_case true = omega arith
    by_case false = below_bytes file.synced are i

noise_place : (seed : ℕ) (file : Unsynced) (i : ℕ) → i < file.greatest → get_or (map (noise_at seed file) (range_with_len 0 file.greatest)) i 0 ≡ noise_at seed file i
noise_place seed file i lt = get_or-map-range_with_len (noise_at seed file) 0 file.greatest i i 0 lt (omega arith)

noise_bytes : (seed : ℕ) (file : Unsynced) → AreBytes file.synced → AreBytes (map (noise_at seed file) (range_with_len 0 file.greatest))
noise_bytes seed file are = bytes_below (map (noise_at seed file) (range_with_len 0 file.greatest)) (λ i. ⊎_elim
    (λ (lt : i < file.greatest). subst (λ (n : ℕ). n < 256) (sym (noise_place seed file i lt)) (noise_below seed file i are))
    (λ (le : file.greatest ≤ i). subst (λ (n : ℕ). n < 256) (sym (get_or_past (map (noise_at seed file) (range_with_len 0 file.greatest)) i 0 (omega (arith, le, length-map-range_with_len (noise_at seed file) 0 file.greatest)))) (omega arith))
    (cases_lt i file.greatest))

noise_closed : (seed : ℕ) (file : Unsynced) (i : ℕ) → is_open file i ≡ false → noise_at seed file i ≡ get_or file.synced i 0
noise_closed seed file i shut = rw shut refl

pub picked_is_image : (pick : Pick) (f : File) → IsSound f → IsImage f.unsynced (picked pick f)
picked_is_image Kept f sound = sound.kept
picked_is_image Lost f sound = sound.lost
picked_is_image (Noise seed) f sound =
    let size = length-map-range_with_len (noise_at seed f.unsynced) 0 f.unsynced.greatest in
    record {
      is_file = record { bytes = noise_bytes seed f.unsynced sound.lost.is_file.bytes; fits = omega (arith, size, sound.limit) };
      no_shorter = omega (arith, size, sound.kept.no_shorter, sound.kept.no_longer);
      no_longer = omega (arith, size);
      untouched = λ i lt none. noise_place seed f.unsynced i (omega (arith, lt, sound.kept.no_shorter, sound.kept.no_longer)) ∙ noise_closed seed f.unsynced i (closed_at f.unsynced i lt none);
    }

-- of an empty file it is an empty one
empty : (pick : Pick) → resting (picked pick (resting [])) ≡ resting []
empty Kept = refl
empty Lost = refl
empty (Noise seed) = refl

pub picked_are_images : {E : Type 0} (result : Result MemDisk E) (files : List File) (pick : Pick) → ((k : ℕ) → IsSound (file_at files k)) → IfOk result (λ disk. disk_files disk ≡ map (λ f. resting (picked pick f)) files)
    → IfOk result (λ disk. IsImageOf (unsynced_in files) (seen_in (disk_files disk)))
picked_are_images (Ok disk) files pick sound is = λ k.
    let there : file_at (disk_files disk) k ≡ resting (picked pick (file_at files k)) =
    ap (λ (l : List File). file_at l k) is ∙ ap (λ (f : File). get_or (map (λ g. resting (picked pick g)) files) k f) (sym (empty pick)) ∙ get_or-map (λ (g : File). resting (picked pick g)) files k (resting []) in
    subst (λ (f : File). IsImage (unsynced_in files k) f.seen) (sym there) (picked_is_image pick (file_at files k) (sound k))
picked_are_images (Err e) files pick sound is = tt
