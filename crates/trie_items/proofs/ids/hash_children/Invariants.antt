use Rattle.std.proofs.Common.{◌≡◌, ℕ, List, ◌++◌, drop}
use Rattle.std.specs.List.{flat_map}
use Rattle.sha2.specs.Hashers.{Holds256}
use Rattle.trie_model.specs.Hashing.{child_form}
use Rattle.trie_items.specs.Children.{children_of}
use Rattle.trie_items.proofs.ids.hash_children.Given as goal

abbrev pub invariant-loop-child : goal.invariant-loop-child
invariant-loop-child l = (m : List ℕ) → Holds256 l.fn.hasher m → (done : List ℕ) × Holds256 l.hasher done × (done ++ flat_map child_form (children_of (drop l.child-index l.children)) ≡ m ++ flat_map child_form (children_of l.children))
