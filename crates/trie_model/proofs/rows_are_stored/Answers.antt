use Rattle.trie_model.proofs.StoredRows.{rows_are_stored}
use Rattle.trie_model.proofs.rows_are_stored.Goals as goal

pub returns : goal.returns
returns c = rows_are_stored
