use Rattle.std.proofs.Common.{◌≡◌, ◌+◌, ◌-◌, ◌≤◌, drop}
use Rattle.base_model.specs.ReadUvarint.{high_run}
use Rattle.mdb_base.proofs.uvarint.leading_high_bytes.Given as goal

abbrev pub invariant-loop-run : goal.invariant-loop-run
invariant-loop-run l = record {
  ten : l.run ≤ 10;
  run : high_run l.bytes ≡ l.run + high_run (drop l.run l.bytes);
}

abbrev pub decreases-loop-run : goal.decreases-loop-run
decreases-loop-run l = 10 - l.run
