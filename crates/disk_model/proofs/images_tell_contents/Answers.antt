use Rattle.disk_model.proofs.Telling.{contents_too}
use Rattle.disk_model.proofs.images_tell_contents.Goals as goal

pub returns : goal.returns
returns c = contents_too
