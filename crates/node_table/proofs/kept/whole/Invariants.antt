use Rattle.std.proofs.Common.{◌≡◌, ◌++◌, drop}
use Rattle.node_codec.specs.StoredNodes.{stored_children}
use Rattle.node_table.specs.KeptNodes.{joined_all}
use Rattle.node_table.proofs.kept.whole.Given as goal

-- the children so far, and those that are left, are all children
abbrev pub invariant-loop-at : goal.invariant-loop-at
invariant-loop-at l = stored_children l.made.items ++ joined_all (drop l.at l.ids) (drop l.at l.below) ≡ joined_all l.ids l.below
