use Rattle.std.proofs.Common.{arith}
use Rattle.mdb_base.proofs.VarintLengths.{length-small, length-big, length-ten}
use Rattle.mdb_base.proofs.uvarint.uvarint_len.Goals as goal

pub overflow_add-count : goal.overflow_add-count
overflow_add-count c = omega (arith, c.loop-left.invariant, length-ten c.args.n c.ranges.n.fits)

pub loop-left-preserved : goal.loop-left-preserved
loop-left-preserved c = omega (arith, c.loop-left.invariant, length-big c.loop-left.left c.loop-left-test.true)

pub returns-clause-exact : goal.returns-clause-exact
returns-clause-exact c = omega (arith, c.loop-left.invariant, length-small c.loop-left.left c.loop-left-test.false)

pub returns-clause-few : goal.returns-clause-few
returns-clause-few c = omega (arith, c.loop-left.invariant, length-small c.loop-left.left c.loop-left-test.false, length-ten c.args.n c.ranges.n.fits)
