use Rattle.std.proofs.Common.{refl}
use Rattle.trie_model.specs.Hashing.{zero_id}
use Rattle.script_run.proofs.proving.root_of.Goals as goal

pub returns-in-Empty : goal.returns-in-Empty
unfolding zero_id
returns-in-Empty c = λ m files keeps. rw c.in-Empty.is refl
