-- Proofs that are made of a map, and that they are accepted against its root.
use Rattle.std.specs.Prelude.{◌≡◌, ◌⊎◌, ℕ, ◌≤◌, Bool, true, List, [], length, map, Option, Some, None}
use Rattle.std.specs.List.{filter}
use Rattle.std.specs.FinMap as map_of
use Rattle.base_model.specs.Bytes.{AreBytes}
use Rattle.base_model.specs.Member.{Member}
use Rattle.trie_model.specs.Bits.{IsWidth}
use Rattle.trie_model.specs.Items.{Item, Stub, position, places, IsValid}
use Rattle.trie_model.specs.Ids.{id}
use Rattle.trie_model.specs.Laws.{Describes}
use Rattle.trie_model.specs.Maps.{Map, Limits, IsMap, map_items, root}
use Rattle.trie_model.specs.Table.{node_keys}
use Rattle.range_model.specs.Ranges.{Range, IsRange, holds}
use Rattle.proof_model.specs.Paths.{ProofNode, path}
use Rattle.proof_model.specs.Proofs.{Pair, point_proof}
use Rattle.proof_model.specs.Claims.{Claim}
use Rattle.proof_model.specs.Refusals.{refusal, point_refusal}

-- ---- item lists

-- each stub stands at a node of some values
abbrev pub StubsStandAtNodes : ℕ → List Item → List Item → Type 0
StubsStandAtNodes w is ns = (p : List Bool) (x : List ℕ) → Member is (Stub p x) → Member (node_keys w (places ns)) (position w (Stub p x))

-- a valid item list that describes a map has the map's root for its ID, where its stubs stand at nodes of the map.
-- Where a stub stands elsewhere, its list has a node there that the map has not, and another string is hashed
abbrev pub DescribedHasTheRoot : Type 0
DescribedHasTheRoot =
    (l : Limits) (w : ℕ) (is : List Item) (m : Map) → IsWidth w → IsValid w is → IsMap l m
    → Describes w is (map_items m) → StubsStandAtNodes w is (map_items m) → id w is ≡ root w m

-- ---- claims

-- the path to a bound, where there is one
abbrev pub path_to : ℕ → Map → Option (List ℕ) → List ProofNode
path_to w m None = []
path_to w m (Some key) = path w m key

-- a range that entries tell of: the one that was asked for, or its front up to a key of the map
pub record IsReached (m : Map) (asked reached : Range) : Type 0 where
  pub start : reached.start ≡ asked.start
  pub end : (reached.end ≡ asked.end) ⊎ ((last : List ℕ) × (reached.end ≡ Some last) × Member (map (λ (e : Pair). e.0) (map_of.entries m)) last × (holds asked last ≡ true))

-- all pairs that a map has in a range, and the paths to both ends; where these are one, the path may be given once
pub record IsTrueClaim (w : ℕ) (m : Map) (c : Claim) : Type 0 where
  pub keys : c.keys ≡ map (λ (e : Pair). e.0) c.pairs
  pub pairs : c.pairs ≡ filter (λ (e : Pair). holds c.reached e.0) (map_of.entries m)
  pub start : c.start ≡ path_to w m c.reached.start
  pub end : (c.end ≡ path_to w m c.reached.end) ⊎ ((c.reached.end ≡ c.reached.start) × (c.end ≡ []))
  pub idle : c.idle ≡ None

-- what a map has in a range is accepted against its root
abbrev pub TrueClaimsAreAccepted : Type 0
TrueClaimsAreAccepted =
    (l : Limits) (w : ℕ) (m : Map) (asked : Range) (c : Claim) → IsWidth w → IsMap l m → IsRange l asked
    → IsReached m asked c.reached → IsTrueClaim w m c → refusal w asked (root w m) c ≡ None

-- ---- points

-- what is proved of a key in a map is accepted against its root
abbrev pub TruePointsAreAccepted : Type 0
TruePointsAreAccepted =
    (l : Limits) (w : ℕ) (m : Map) (key : List ℕ) → IsWidth w → IsMap l m → AreBytes key → length key ≤ l.key
    → point_refusal w key (root w m) (point_proof w m key) ≡ None
