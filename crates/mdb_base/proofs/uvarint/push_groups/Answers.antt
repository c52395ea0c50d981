use Rattle.mdb_base.proofs.Groups.{group_more, group_last}
use Rattle.mdb_base.proofs.uvarint.push_groups.Goals as goal

pub loop-rest-preserved : goal.loop-rest-preserved
loop-rest-preserved c = rw c.in_ok-push.ensures.items (group_more _ _ _ _ c.loop-rest-test.true c.loop-rest.invariant)

pub returns-clause-ok : goal.returns-clause-ok
returns-clause-ok c = rw c.in_ok-push-2.ensures.items (group_last _ _ _ _ c.loop-rest-test.false c.loop-rest.invariant)
