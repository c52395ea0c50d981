use Rattle.std.proofs.Common.{◌∙◌}
use Rattle.bit_keys.proofs.KeyFacts.{key_bits, key_packed}
use Rattle.bit_keys.proofs.Windows.{window_is}
use Rattle.bit_keys.proofs.key.Key.window.Goals as goal

pub returns : goal.returns
returns c = window_is c.args.at c.from.result c.from-2.result c.self.inside.bits c.self.inside.bytes.items c.args.self.now
    (key_packed c.self.inside.bits c.self.inside.bytes.items c.args.self.now (c.self.view_is, c.self.invariant.0, c.self.invariant.1))
    (key_bits c.self.inside.bits c.self.inside.bytes.items c.args.self.now (c.self.view_is, c.self.invariant.0, c.self.invariant.1))
    c.self.invariant.0 c.requires (c.from.ensures ∙ c.byte.ensures) (c.from-2.ensures ∙ c.byte-2.ensures)
