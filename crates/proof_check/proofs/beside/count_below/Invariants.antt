use Rattle.std.proofs.Common.{◌≡◌, ◌+◌, ◌-◌, ◌≤◌, length, drop}
use Rattle.std.specs.List.{prefix_len}
use Rattle.trie_items.specs.Children.{children_of}
use Rattle.proof_check.specs.Descents.{is_in_front}
use Rattle.proof_check.proofs.beside.count_below.Given as goal

abbrev pub invariant-loop-count : goal.invariant-loop-count
invariant-loop-count l = record {
  within : l.count ≤ length l.children;
  so_far : l.count + prefix_len (is_in_front l.index) (children_of (drop l.count l.children)) ≡ prefix_len (is_in_front l.index) (children_of l.children);
}

abbrev pub decreases-loop-count : goal.decreases-loop-count
decreases-loop-count l = length l.children - l.count
