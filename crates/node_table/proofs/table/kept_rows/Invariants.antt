use Rattle.std.proofs.Common.{◌≡◌}
use Rattle.node_table.proofs.table.kept_rows.Given as goal

abbrev pub invariant-loop-key : goal.invariant-loop-key
invariant-loop-key l = l.made.items ≡ l.yielded
