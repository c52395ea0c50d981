use Rattle.std.proofs.Common.{◌≡◌, ◌++◌, drop}
use Rattle.std.specs.List.{flat_map}
use Rattle.trie_model.specs.StoredNode.{stored_child_form}
use Rattle.base_model.specs.Bytes.{Grown}
use Rattle.node_codec.specs.StoredNodes.{stored_children}
use Rattle.node_codec.proofs.writing.write_children.Given as goal

-- what is written, and what is left to write, are what was there and all children
abbrev pub invariant-loop-child : goal.invariant-loop-child
invariant-loop-child l = record {
  so_far : l.out.items ++ flat_map stored_child_form (stored_children (drop l.child-index l.children)) ≡ l.fn.out.items ++ flat_map stored_child_form (stored_children l.children);
  grown : Grown l.fn.out.items l.out.items;
}
