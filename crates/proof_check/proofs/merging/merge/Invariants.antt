use Rattle.std.proofs.Common.{◌≡◌, ◌+◌, ◌++◌, map}
use Rattle.std.specs.VecDeque.{deque_len}
use Rattle.trie_items.specs.Items.{item_of}
use Rattle.proof_check.proofs.ItemFronts.{Rises, both}
use Rattle.proof_check.proofs.merging.merge.Given as goal

abbrev pub invariant-loop-item : goal.invariant-loop-item
invariant-loop-item l = (both l.fn.left.items l.fn.right.items ≡ map item_of l.merged.items ++ both l.left.items l.right.items) × Rises l.left.items × Rises l.right.items

abbrev pub decreases-loop-item : goal.decreases-loop-item
decreases-loop-item l = deque_len l.left + deque_len l.right
