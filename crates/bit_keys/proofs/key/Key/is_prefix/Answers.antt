use Rattle.std.proofs.Common.{◌≡◌, sym, ap, ◌∙◌, length, eqb}
use Rattle.trie_model.proofs.Keys.{length-key}
use Rattle.trie_model.specs.Bits.{common_prefix}
use Rattle.bit_keys.proofs.SharedBits.{begins}
use Rattle.bit_keys.proofs.key.Key.is_prefix.Goals as goal

pub returns : goal.returns
returns c =
    let e : c.self.inside.bits ≡ length c.args.self.now = sym (length-key c.self.inside.bits c.self.inside.bytes.items c.self.invariant.0) ∙ ap length c.self.view_is in
    ap (λ n. eqb n c.self.inside.bits) c.shared.ensures ∙ ap (eqb (length (common_prefix c.args.self.now c.args.of.now))) e ∙ begins c.args.self.now c.args.of.now
