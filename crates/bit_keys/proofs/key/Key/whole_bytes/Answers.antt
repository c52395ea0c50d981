use Rattle.std.proofs.Common.{ap, ◌%◌, eqb}
use Rattle.bit_keys.proofs.KeyFacts.{key_bits}
use Rattle.bit_keys.proofs.key.Key.whole_bytes.Goals as goal

pub returns : goal.returns
returns c = ap (λ n. eqb (n % 8) 0) (key_bits c.self.inside.bits c.self.inside.bytes.items c.args.self.now (c.self.view_is, c.self.invariant.0, c.self.invariant.1))
