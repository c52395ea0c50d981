use Rattle.std.proofs.Common.{List, ℕ, sym, subst}
use Rattle.disk_model.specs.Crash.{IsImage, at_rest}
use Rattle.disk_model.proofs.RestImages.{rest_image, image_at_rest}
use Rattle.disk_model.proofs.syncs_keep.Goals as goal

pub returns : goal.returns
returns c = λ seen image is. (rest_image seen image, λ same. subst (λ (l : List ℕ). IsImage (at_rest seen) l) (sym same) (image_at_rest seen is))
