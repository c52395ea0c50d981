use Rattle.std.proofs.Common.{◌≡◌, ◌-◌, ◌≤◌, length}
use Rattle.bit_keys.specs.Branch.{width_of}
use Rattle.trie_items.specs.Children.{children_of}
use Rattle.proof_model.specs.Wire.{children_at}
use Rattle.proof_check.proofs.ListFields.{with_front}
use Rattle.proof_check.proofs.path_reading.children_of.Given as goal

-- what was read and what is still read are all children
abbrev pub invariant-loop : goal.invariant-loop
invariant-loop l = record {
  inside : l.next ≤ length l.bytes;
  so_far : with_front (children_of l.children.items) (children_at (l.count - l.counter) (width_of l.branch) l.low l.bytes l.next) ≡ children_at l.count (width_of l.branch) 0 l.bytes l.at;
}
