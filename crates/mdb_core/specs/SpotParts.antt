-- What a spot has of a view, and of a past map.
use Rattle.std.specs.Prelude.{ℕ, List}
use Rattle.trie_model.specs.Table.{Row}
use Rattle.batch_model.specs.Batch.{Change}
use Rattle.view_stack.specs.declared.state.ViewId.{ViewId}

-- the view, the digests of its map by their keys, and the nodes of its trie
pub record ProposalState : Type 0 where
  pub id : ViewId
  pub digests : List (List ℕ × List ℕ)
  pub nodes : List Row

-- the batch that leads back to the map, the digests of the map by their keys, and the nodes of its trie
pub record PastState : Type 0 where
  pub undo : List Change
  pub digests : List (List ℕ × List ℕ)
  pub nodes : List Row
