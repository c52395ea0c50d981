use Rattle.store_model.proofs.WorkedJournals.{worked_journals}
use Rattle.store_model.proofs.worked_journals.Goals as goal

pub returns : goal.returns
returns c = worked_journals
