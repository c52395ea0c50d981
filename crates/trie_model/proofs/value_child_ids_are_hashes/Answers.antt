use Rattle.trie_model.proofs.Slots.{value_child_ids_are_hashes}
use Rattle.trie_model.proofs.value_child_ids_are_hashes.Goals as goal

pub returns : goal.returns
returns c = value_child_ids_are_hashes
