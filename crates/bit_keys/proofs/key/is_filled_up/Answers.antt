use Rattle.std.proofs.Common.{arith}
use Rattle.bit_keys.proofs.FilledBytes.{whole_filled, part_filled}
use Rattle.bit_keys.proofs.key.is_filled_up.Goals as goal

pub returns-then-rest-eq0 : goal.returns-then-rest-eq0
returns-then-rest-eq0 c = whole_filled c.args.bytes.now c.args.bits c.div_ceil.result c.if-bytes-div_ceil.false c.div_ceil.ensures c.if-rest-eq0.true

pub returns-else-rest-eq0 : goal.returns-else-rest-eq0
returns-else-rest-eq0 c = part_filled c.args.bytes.now c.args.bits c.div_ceil.result (λ i. omega (arith, c.type_inv.bytes i)) c.if-bytes-div_ceil.false c.div_ceil.ensures c.if-rest-eq0.false
