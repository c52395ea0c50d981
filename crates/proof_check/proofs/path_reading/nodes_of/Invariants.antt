use Rattle.std.proofs.Common.{◌≡◌, ◌-◌, ◌≤◌, length}
use Rattle.bit_keys.specs.Branch.{width_of}
use Rattle.trie_model.specs.Maps.{limits}
use Rattle.proof_model.specs.Wire.{nodes_at}
use Rattle.proof_check.proofs.ListFields.{with_front}
use Rattle.proof_check.proofs.path_reading.nodes_of.Given as goal

-- what was read and what is still read are all nodes
abbrev pub invariant-loop : goal.invariant-loop
invariant-loop l = record {
  inside : l.next ≤ length l.bytes;
  so_far : with_front l.nodes.items (nodes_at limits (l.count - l.counter) (width_of l.branch) l.bytes l.next) ≡ nodes_at limits l.count (width_of l.branch) l.bytes l.at;
}
