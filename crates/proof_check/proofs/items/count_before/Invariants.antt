use Rattle.std.proofs.Common.{◌≡◌, ◌+◌, ◌-◌, ◌≤◌, drop, map}
use Rattle.std.specs.List.{prefix_len}
use Rattle.std.specs.VecDeque.{deque_len}
use Rattle.trie_items.specs.Items.{item_of}
use Rattle.proof_check.specs.ItemFronts.{is_before}
use Rattle.proof_check.proofs.items.count_before.Given as goal

abbrev pub invariant-loop-count : goal.invariant-loop-count
invariant-loop-count l = record {
  within : l.count ≤ deque_len l.items;
  so_far : l.count + prefix_len (is_before l.key) (map item_of (drop l.count l.items.items)) ≡ prefix_len (is_before l.key) (map item_of l.items.items);
}

abbrev pub decreases-loop-count : goal.decreases-loop-count
decreases-loop-count l = deque_len l.items - l.count
