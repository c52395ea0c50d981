-- What a path shows of a node, and the rest of the child at a token, by which the way goes on.
use Rattle.std.specs.Prelude.{ℕ, Bool, cond, ◌==◌, List, [], ◌∷◌, map, Option, Some, None}
use Rattle.trie_model.specs.StoredNode.{StoredChild, StoredNode}
use Rattle.trie_model.specs.Table.{hashed_child}

-- the child at a token
abbrev pub child_at : ℕ → List StoredChild → Option StoredChild
child_at t [] = None
child_at t (c ∷ cs) = cond (c.index == t) (Some c) (child_at t cs)

-- the child at a token that may be given
abbrev pub child_named : Option ℕ → List StoredChild → Option StoredChild
child_named None cs = None
child_named (Some t) cs = child_at t cs

-- the rest of a child that may be there
abbrev pub rest_of : Option StoredChild → Option (List Bool)
rest_of None = None
rest_of (Some c) = Some c.rest

-- all that is hashed of a node but its key, and the rest of one child
pub record Shown : Type 0 where
  pub digest : Option (List ℕ)
  pub children : List (ℕ × List ℕ)
  pub rest : Option (List Bool)

abbrev pub shown_of : Option ℕ → StoredNode → Shown
shown_of token n = record { digest = n.digest; children = map hashed_child n.children; rest = rest_of (child_named token n.children) }
