use Rattle.std.proofs.Common.{◌+◌, arith}
use Rattle.node_table.proofs.KeptChildren.{passed_on}
use Rattle.node_table.proofs.kept.led_at.Goals as goal

pub loop-at-preserved : goal.loop-at-preserved
loop-at-preserved c = passed_on c.args.ids.now c.args.below.now c.loop-at.at (c.loop-at.at + 1) c.args.token _ _ (omega arith) c.requires c.loop-at-test.true c.if-child-token.false c.loop-at.invariant
