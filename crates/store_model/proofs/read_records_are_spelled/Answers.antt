use Rattle.store_model.proofs.Records.{read_records_are_spelled}
use Rattle.store_model.proofs.read_records_are_spelled.Goals as goal

pub returns : goal.returns
returns c = read_records_are_spelled
