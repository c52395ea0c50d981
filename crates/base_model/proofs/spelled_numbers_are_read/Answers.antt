use Rattle.base_model.proofs.ReadNumbers.{spelled_is_read}
use Rattle.base_model.proofs.spelled_numbers_are_read.Goals as goal

pub returns : goal.returns
returns c = spelled_is_read
