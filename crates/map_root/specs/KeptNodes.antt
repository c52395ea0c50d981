-- Where the code stands in the pass, by what its sink has kept of children.
use Rattle.std.specs.Prelude.{ℕ, ◌≡◌, List, length, map, reverse}
use Rattle.trie_model.specs.StoredNode.{StoredChild}
use Rattle.trie_model.specs.Table.{Row}
use Rattle.node_codec.specs.declared.node.Child.{Child}
use Rattle.trie_items.specs.declared.child.ChildId.{ChildId}
use Rattle.map_root.specs.declared.nodes.ClosedNode.{ClosedNode}
use Rattle.map_root.specs.declared.nodes.OpenNode.{OpenNode}
use Rattle.map_root.specs.PassState.{Unfinished, PassState, AreNested}

-- all of a child
abbrev pub stored : StoredChild → Child
stored c = record { index = c.index; rest = c.rest; id = c.id; has_value = c.has_value }

-- what is hashed of a child
abbrev pub hashed : StoredChild → ChildId
hashed c = record { index = c.index; id = c.id }

-- the bits of an open node, and its children so far
abbrev pub open_node : {C : Type 0} → OpenNode C → ℕ × List C
open_node o = (o.bits, reverse o.children.items)

-- open nodes, the deepest last
abbrev pub above_of : {C : Type 0} → List (OpenNode C) → List (ℕ × List C)
above_of os = reverse (map open_node os)

-- what is kept of an open node
abbrev pub kept_open : {C : Type 0} → (StoredChild → C) → Unfinished → ℕ × List C
kept_open kept o = (o.0, map kept o.1)

-- a node is that of a row, by what is kept of each child
pub record IsRow {C : Type 0} (kept : StoredChild → C) (n : ClosedNode C) (r : Row) : Type 0 where
  pub key : n.key ≡ r.0
  pub digest : n.digest ≡ r.1.digest
  pub children : n.children.items ≡ map kept r.1.children

-- the node in hand, the open nodes above it, and a sink with the finished ones, are at this state
pub record Stands {S C : Type 0} (kept : StoredChild → C) (holds : S → List Row → Type 0) (low : ClosedNode C) (os : List (OpenNode C)) (sink : S) (y : PassState) : Type 0 where
  pub low_is : IsRow kept low y.low
  pub above_is : above_of os ≡ map (kept_open kept) y.above
  pub rows_are : holds sink y.rows

-- they are at some state, whose open nodes are nested
abbrev pub StandsNested : {S C : Type 0} → (StoredChild → C) → (S → List Row → Type 0) → ℕ → ClosedNode C → List (OpenNode C) → S → Type 0
StandsNested kept holds w low os sink = (y : PassState) × Stands kept holds low os sink y × AreNested w (length y.low.0) y.above
