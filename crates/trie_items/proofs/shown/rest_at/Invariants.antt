use Rattle.std.proofs.Common.{◌≡◌, drop}
use Rattle.node_codec.specs.StoredNodes.{stored_children}
use Rattle.trie_items.specs.Shown.{child_at}
use Rattle.trie_items.proofs.shown.rest_at.Given as goal

abbrev pub invariant-loop-child : goal.invariant-loop-child
invariant-loop-child l = child_at l.token (stored_children (drop l.child-index l.children)) ≡ child_at l.token (stored_children l.children)
