use Rattle.node_table.proofs.KeptChildren.{parted_on}
use Rattle.node_table.proofs.kept.parted.Goals as goal

pub loop-child-preserved : goal.loop-child-preserved
loop-child-preserved c =
    let before = c.loop-child.invariant in
    let kept = parted_on c.loop-child.ids.items c.push.new.self.items c.loop-child.below.items c.push-in-loop-child.new.self.items c.loop-child.yielded c.in-Some.child c.loop-child.row before.long before.same c.in_ok-push.ensures.items c.in_ok-push-2.ensures.items in
    record { long = kept.long; same = kept.same }
