use Rattle.trie_model.proofs.HashedString.{key_form-apart}
use Rattle.trie_model.proofs.key_forms_are_prefix_free.Goals as goal

pub returns : goal.returns
returns c = key_form-apart
