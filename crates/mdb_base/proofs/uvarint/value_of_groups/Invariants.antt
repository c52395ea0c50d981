use Rattle.std.proofs.Common.{◌≡◌, ◌≤◌, drop, length}
use Rattle.base_model.specs.ReadUvarint.{groups_value}
use Rattle.mdb_base.proofs.uvarint.value_of_groups.Given as goal

abbrev pub invariant-loop-left : goal.invariant-loop-left
invariant-loop-left l = record {
  left : l.left ≤ length l.groups;
  value : l.value ≡ groups_value (drop l.left l.groups);
}

abbrev pub decreases-loop-left : goal.decreases-loop-left
decreases-loop-left l = l.left
