use Rattle.text_model.proofs.MapOfLines.{lines_make_maps}
use Rattle.text_model.proofs.lines_make_maps.Goals as goal

pub returns : goal.returns
returns c = lines_make_maps
