use Rattle.disk_model.proofs.HalfCutImages.{image_after_cut, half_cut_from}
use Rattle.disk_model.proofs.cuts_halve.Goals as goal

pub returns : goal.returns
returns c = λ file seen n image real. (
  λ is. (is.is_file, half_cut_from file seen image n real is),
  λ half. image_after_cut file n half.1.0 image half.0 half.1.1 half.1.2,
)
