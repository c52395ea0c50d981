use Rattle.trie_model.proofs.StoredRows.{value_rows_are_stored}
use Rattle.trie_model.proofs.value_rows_are_stored.Goals as goal

pub returns : goal.returns
returns c = value_rows_are_stored
