use Rattle.bit_keys.proofs.Order.{compared}
use Rattle.bit_keys.proofs.key.Key.compare.Goals as goal

pub returns : goal.returns
returns c = compared c.self.inside.bits c.other.inside.bits c.self.inside.bytes.items c.other.inside.bytes.items c.args.self.now c.args.other.now c.cmp.result c.cmp-2.result c.then.result
    (c.self.view_is, c.self.invariant.0, c.self.invariant.1) (c.other.view_is, c.other.invariant.0, c.other.invariant.1) c.cmp.ensures c.cmp-2.ensures c.then.ensures
