use Rattle.bit_keys.proofs.Order.{equal_bits, other_bits}
use Rattle.bit_keys.proofs.key.KeyPartialEq.eq.Goals as goal

pub returns-then-self-other : goal.returns-then-self-other
returns-then-self-other c = equal_bits c.self.inside.bits c.other.inside.bits c.self.inside.bytes.items c.other.inside.bytes.items c.args.self.now c.args.other.now c.eq.result
    (c.self.view_is, c.self.invariant.0, c.self.invariant.1) (c.other.view_is, c.other.invariant.0, c.other.invariant.1) c.if-self-other.true c.eq.ensures

pub returns-else-self-other : goal.returns-else-self-other
returns-else-self-other c = other_bits c.self.inside.bits c.other.inside.bits c.self.inside.bytes.items c.other.inside.bytes.items c.args.self.now c.args.other.now
    (c.self.view_is, c.self.invariant.0, c.self.invariant.1) (c.other.view_is, c.other.invariant.0, c.other.invariant.1) c.if-self-other.false
