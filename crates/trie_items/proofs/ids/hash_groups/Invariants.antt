use Rattle.std.proofs.Common.{◌≡◌, ℕ, List, ◌++◌}
use Rattle.sha2.specs.Hashers.{Holds256}
use Rattle.base_model.specs.Uvarint.{uvarint}
use Rattle.trie_items.proofs.ids.hash_groups.Given as goal

abbrev pub invariant-loop-rest : goal.invariant-loop-rest
invariant-loop-rest l = (m : List ℕ) → Holds256 l.fn.hasher m → (done : List ℕ) × Holds256 l.hasher done × (done ++ uvarint l.rest ≡ m ++ uvarint l.number)

abbrev pub decreases-loop-rest : goal.decreases-loop-rest
decreases-loop-rest l = l.rest
