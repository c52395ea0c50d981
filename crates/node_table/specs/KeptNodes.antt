-- A node as the table keeps it: the IDs of its children in one piece, and beside them what else is kept of each.
use Rattle.std.specs.Prelude.{List, [], ◌∷◌}
use Rattle.trie_model.specs.StoredNode.{StoredChild}
use Rattle.trie_items.specs.declared.child.ChildId.{ChildId}
use Rattle.node_table.specs.declared.kept.Below.{Below}

-- the child of which these are the two parts
abbrev pub joined : ChildId → Below → StoredChild
joined c b = record { index = c.index; rest = b.rest; id = c.id; has_value = b.has_value }

abbrev pub joined_all : List ChildId → List Below → List StoredChild
joined_all [] bs = []
joined_all (c ∷ cs) [] = []
joined_all (c ∷ cs) (b ∷ bs) = joined c b ∷ joined_all cs bs
