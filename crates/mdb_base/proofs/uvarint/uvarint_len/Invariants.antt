use Rattle.std.proofs.Common.{◌≡◌, ◌+◌, length}
use Rattle.base_model.specs.Uvarint.{uvarint}
use Rattle.mdb_base.proofs.uvarint.uvarint_len.Given as goal

abbrev pub invariant-loop-left : goal.invariant-loop-left
invariant-loop-left l = l.count + length (uvarint l.left) ≡ 1 + length (uvarint l.n)

abbrev pub decreases-loop-left : goal.decreases-loop-left
decreases-loop-left l = l.left
