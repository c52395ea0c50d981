use Rattle.store_model.proofs.Journals.{files_stand_for_one_map}
use Rattle.store_model.proofs.files_stand_for_one_map.Goals as goal

pub returns : goal.returns
returns c = files_stand_for_one_map
