use Rattle.store_model.proofs.Records.{spelled_records_are_read}
use Rattle.store_model.proofs.spelled_records_are_read.Goals as goal

pub returns : goal.returns
returns c = spelled_records_are_read
