use Rattle.std.proofs.Common.{arith}
use Rattle.mdb_base.proofs.ReadNumber.{group_fits}
use Rattle.mdb_base.proofs.uvarint.value_of_groups.Goals as goal

pub overflow_mul-value : goal.overflow_mul-value
overflow_mul-value c = omega (arith, c.requires, group_fits c.args.groups.now c.loop-left.left c.loop-left.value c.loop-left-test.true c.loop-left.invariant.left c.loop-left.invariant.value)

pub overflow_add-value : goal.overflow_add-value
overflow_add-value c = omega (arith, c.requires, c.from.ensures, group_fits c.args.groups.now c.loop-left.left c.loop-left.value c.loop-left-test.true c.loop-left.invariant.left c.loop-left.invariant.value)
