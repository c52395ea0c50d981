use Rattle.store_model.proofs.Headers.{spelled_headers_are_read}
use Rattle.store_model.proofs.spelled_headers_are_read.Goals as goal

pub returns : goal.returns
returns c = spelled_headers_are_read
