-- The children of a node as the model sees them.
use Rattle.std.specs.Prelude.{ℕ, List, map}
use Rattle.trie_items.specs.declared.child.ChildId.{ChildId}

-- each child as its index and its ID
abbrev pub children_of : List ChildId → List (ℕ × List ℕ)
children_of = map (λ (c : ChildId). (c.index, c.id))
