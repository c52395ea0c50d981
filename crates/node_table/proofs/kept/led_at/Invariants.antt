use Rattle.std.proofs.Common.{◌≡◌, drop}
use Rattle.trie_items.specs.Shown.{child_at}
use Rattle.node_table.specs.KeptNodes.{joined_all}
use Rattle.node_table.proofs.kept.led_at.Given as goal

abbrev pub invariant-loop-at : goal.invariant-loop-at
invariant-loop-at l = child_at l.token (joined_all (drop l.at l.ids) (drop l.at l.below)) ≡ child_at l.token (joined_all l.ids l.below)
