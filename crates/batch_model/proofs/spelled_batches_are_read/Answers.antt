use Rattle.batch_model.proofs.Batches.{spelled_batches_are_read}
use Rattle.batch_model.proofs.spelled_batches_are_read.Goals as goal

pub returns : goal.returns
returns c = spelled_batches_are_read
