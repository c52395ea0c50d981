use Rattle.store_model.proofs.Records.{records_are_prefix_free}
use Rattle.store_model.proofs.records_are_prefix_free.Goals as goal

pub returns : goal.returns
returns c = records_are_prefix_free
