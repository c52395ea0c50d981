use Rattle.std.proofs.Common.{List, ℕ, sym, subst}
use Rattle.disk_model.specs.Crash.{IsImage}
use Rattle.disk_model.proofs.RestImages.{rest_image}
use Rattle.disk_model.proofs.syncs_narrow.Goals as goal

pub returns : goal.returns
returns c = λ file seen image real is. subst (λ (l : List ℕ). IsImage file l) (sym (rest_image seen image is)) real
