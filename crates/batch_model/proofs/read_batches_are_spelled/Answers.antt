use Rattle.batch_model.proofs.Batches.{read_batches_are_spelled}
use Rattle.batch_model.proofs.read_batches_are_spelled.Goals as goal

pub returns : goal.returns
returns c = read_batches_are_spelled
