use Rattle.store_model.proofs.Refusals.{files_are_found_once}
use Rattle.store_model.proofs.files_are_found_once.Goals as goal

pub returns : goal.returns
returns c = files_are_found_once
