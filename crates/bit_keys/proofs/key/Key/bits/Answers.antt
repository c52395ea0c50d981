use Rattle.std.proofs.Common.{sym, ap, ◌∙◌, length}
use Rattle.trie_model.proofs.Keys.{length-key}
use Rattle.bit_keys.proofs.key.Key.bits.Goals as goal

pub returns : goal.returns
returns c = sym (length-key c.self.inside.bits c.self.inside.bytes.items c.self.invariant.0) ∙ ap length c.self.view_is
