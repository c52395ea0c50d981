-- A file that was synced just now has one image.
use Rattle.std.proofs.Common.{◌≡◌, ℕ, List, refl, arith}
use Rattle.disk_model.specs.Files.{IsFile}
use Rattle.disk_model.specs.Crash.{IsImage, at_rest}
use Rattle.disk_model.proofs.Bytes.{same_places}

pub rest_image : (seen image : List ℕ) → IsImage (at_rest seen) image → image ≡ seen
rest_image seen image is = same_places image seen (omega (arith, is.no_shorter, is.no_longer)) (λ i lt. is.untouched i lt refl)

pub image_at_rest : (seen : List ℕ) → IsFile seen → IsImage (at_rest seen) seen
image_at_rest seen is = record { is_file = is; no_shorter = omega arith; no_longer = omega arith; untouched = λ i lt none. refl }
