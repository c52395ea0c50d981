use Rattle.base_model.proofs.ReadNumbers.{read_is_spelled}
use Rattle.base_model.proofs.read_numbers_are_spelled.Goals as goal

pub returns : goal.returns
returns c = read_is_spelled
