use Rattle.std.proofs.Common.{◌+◌, arith}
use Rattle.disk_model.specs.Files.{first_touched}
use Rattle.disk_model.proofs.TornImages.{image_after_write, torn_from}
use Rattle.disk_model.proofs.writes_tear.Goals as goal

pub returns : goal.returns
returns c = λ file seen at n image real. (
  λ is. (is.is_file, torn_from file seen image (first_touched seen at) (at + n) real (omega arith) is),
  λ torn. image_after_write file (first_touched seen at) (at + n) torn.1.0 image torn.0 torn.1.1 torn.1.2,
)
