use Rattle.trie_model.proofs.Slots.{child_ids_are_hashes}
use Rattle.trie_model.proofs.child_ids_are_hashes.Goals as goal

pub returns : goal.returns
returns c = child_ids_are_hashes
