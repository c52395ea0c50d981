use Rattle.std.proofs.Common.{◌≡◌, length}
use Rattle.node_codec.specs.StoredNodes.{stored_children}
use Rattle.node_table.specs.KeptNodes.{joined_all}
use Rattle.node_table.proofs.kept.parted.Given as goal

abbrev pub invariant-loop-child : goal.invariant-loop-child
invariant-loop-child l = record {
  long : length l.ids.items ≡ length l.below.items;
  same : joined_all l.ids.items l.below.items ≡ stored_children l.yielded;
}
