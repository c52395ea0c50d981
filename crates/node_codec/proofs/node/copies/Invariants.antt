use Rattle.std.proofs.Common.{◌≡◌, take}
use Rattle.node_codec.proofs.node.copies.Given as goal

abbrev pub invariant-loop-child : goal.invariant-loop-child
invariant-loop-child l = l.made.items ≡ take l.child-index l.children
