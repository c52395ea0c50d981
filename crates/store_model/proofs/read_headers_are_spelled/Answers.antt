use Rattle.store_model.proofs.Headers.{read_headers_are_spelled}
use Rattle.store_model.proofs.read_headers_are_spelled.Goals as goal

pub returns : goal.returns
returns c = read_headers_are_spelled
