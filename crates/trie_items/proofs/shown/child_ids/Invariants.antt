use Rattle.std.proofs.Common.{◌≡◌, ◌++◌, map, drop}
use Rattle.trie_model.specs.Table.{hashed_child}
use Rattle.trie_items.specs.Children.{children_of}
use Rattle.node_codec.specs.StoredNodes.{stored_children}
use Rattle.trie_items.proofs.shown.child_ids.Given as goal

-- the children so far, and those that are left, are all children
abbrev pub invariant-loop-child : goal.invariant-loop-child
invariant-loop-child l = children_of l.made.items ++ map hashed_child (stored_children (drop l.child-index l.children)) ≡ map hashed_child (stored_children l.children)
