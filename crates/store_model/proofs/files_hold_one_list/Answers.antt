use Rattle.store_model.proofs.Journals.{files_hold_one_list}
use Rattle.store_model.proofs.files_hold_one_list.Goals as goal

pub returns : goal.returns
returns c = files_hold_one_list
