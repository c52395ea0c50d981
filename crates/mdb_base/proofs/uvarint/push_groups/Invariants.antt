use Rattle.mdb_base.proofs.Groups.{IsBegun}
use Rattle.mdb_base.proofs.uvarint.push_groups.Given as goal

abbrev pub invariant-loop-rest : goal.invariant-loop-rest
invariant-loop-rest l = IsBegun l.fn.out.items l.out.items l.rest l.n

abbrev pub decreases-loop-rest : goal.decreases-loop-rest
decreases-loop-rest l = l.rest
