use Rattle.std.proofs.Common.{◌≡◌, ◌-◌, ◌≤◌, length}
use Rattle.bit_keys.specs.Branch.{width_of}
use Rattle.trie_model.specs.Maps.{limits}
use Rattle.trie_model.specs.StoredNode.{children_at}
use Rattle.node_codec.specs.StoredNodes.{stored_children}
use Rattle.node_codec.proofs.Children.{with_front}
use Rattle.node_codec.proofs.reading.children_of.Given as goal

-- what was read and what is still read are all children
abbrev pub invariant-loop : goal.invariant-loop
invariant-loop l = record {
  inside : l.next ≤ length l.bytes;
  so_far : with_front (stored_children l.children.items) (children_at limits (l.count - l.counter) (width_of l.branch) l.low l.bytes l.next) ≡ children_at limits l.count (width_of l.branch) 0 l.bytes l.at;
}
