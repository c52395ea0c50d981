use Rattle.store_model.proofs.WorkedJournals.{wrong_headers}
use Rattle.store_model.proofs.wrong_headers.Goals as goal

pub returns : goal.returns
returns c = wrong_headers
