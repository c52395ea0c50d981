use Rattle.std.proofs.Common.{◌≡◌, ◌-◌, ◌≤◌, length}
use Rattle.trie_model.specs.Maps.{limits}
use Rattle.proof_model.specs.Wire.{listed_at}
use Rattle.proof_model.specs.ChangeWire.{change_at}
use Rattle.proof_check.proofs.ListFields.{with_front}
use Rattle.proof_check.proofs.change_reading.listed_of.Given as goal

-- what was read and what is still read are all changes
abbrev pub invariant-loop : goal.invariant-loop
invariant-loop l = record {
  inside : l.next ≤ length l.bytes;
  so_far : with_front l.changes.items (listed_at (change_at limits) (l.count - l.counter) l.bytes l.next) ≡ listed_at (change_at limits) l.count l.bytes l.at;
}
