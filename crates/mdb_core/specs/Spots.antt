-- Which map a spot names, and the keys of its map.
use Rattle.std.specs.Prelude.{◌≡◌, ℕ, List, [], Some}
use Rattle.trie_model.specs.Maps.{Map, map_digests}
use Rattle.trie_model.specs.Table.{table}
use Rattle.batch_model.specs.Batch.{after_batch}
use Rattle.view_model.specs.Forest.{Live, state}
use Rattle.view_model.specs.Maps.{view_map}
use Rattle.history_model.specs.Held.{no_map}
use Rattle.node_table.specs.Pairs.{AreShort}
use Rattle.mdb_core.specs.Stores.{DbState, keys_of}
use Rattle.mdb_core.specs.TidyKeys.{tidy}
use Rattle.mdb_core.specs.SpotParts.{ProposalState, PastState}
use Rattle.mdb_core.specs.declared.spot.Spot.{Spot}
use Rattle.mdb_core.specs.declared.spot.Spot.TheVariants.{Store, View, Past, Empty}

-- the view is live and has this map, where the store has that one, and the digests and the nodes are those of the map
pub record IsProposal (s : DbState) (m : Map) (p : ProposalState) (n : Map) : Type 0 where
  pub live : state s.forest p.id.number ≡ Some Live
  pub map : n ≡ view_map s.forest m p.id.number
  pub digests : p.digests ≡ map_digests n
  pub short : AreShort (keys_of p.digests)
  pub nodes : p.nodes ≡ table s.width n

-- the batch leads from the map of the store to this one, and the digests and the nodes are those of the map
pub record IsPast (s : DbState) (m : Map) (p : PastState) (n : Map) : Type 0 where
  pub map : n ≡ after_batch m p.undo
  pub digests : p.digests ≡ map_digests n
  pub short : AreShort (keys_of p.digests)
  pub nodes : p.nodes ≡ table s.width n

-- the spot names this map, where the store has that one
abbrev pub IsSpotOf : DbState → Map → Spot → Map → Type 0
IsSpotOf s m Store n = n ≡ m
IsSpotOf s m (View p) n = IsProposal s m p n
IsSpotOf s m (Past p) n = IsPast s m p n
IsSpotOf s m Empty n = n ≡ no_map

-- the keys of its map, which a spot has whether or not it names one still
abbrev pub keys_at : DbState → Spot → List (List ℕ)
keys_at s Store = tidy (keys_of s.digests)
keys_at s (View p) = tidy (keys_of p.digests)
keys_at s (Past p) = tidy (keys_of p.digests)
keys_at s Empty = []
