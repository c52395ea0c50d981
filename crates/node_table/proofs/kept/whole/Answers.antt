use Rattle.std.proofs.Common.{◌+◌, [], arith}
use Rattle.node_table.proofs.KeptChildren.{whole_on}
use Rattle.node_table.proofs.kept.whole.Goals as goal

pub loop-at-preserved : goal.loop-at-preserved
loop-at-preserved c =
    whole_on c.args.ids.now c.args.below.now c.loop-at.at (c.loop-at.at + 1) (record { index = 0; id = [] }) _ c.index-below-at.result c.loop-at.made.items c.push.new.self.items c.in_ok-copy_key.field-0 _ (omega arith) c.requires c.loop-at-test.true
    c.index-below-at.is c.in_ok-copy_key.ensures c.in_ok-push.ensures.items c.loop-at.invariant
