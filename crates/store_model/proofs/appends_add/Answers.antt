use Rattle.store_model.proofs.Appends.{appends_add}
use Rattle.store_model.proofs.appends_add.Goals as goal

pub returns : goal.returns
returns c = appends_add
