-- Range proofs: what the store shows of a range of a map, and how it is checked.
use Rattle.std.specs.Prelude.{ℕ, Bool, List, map, Option, None}
use Rattle.std.specs.FinMap as map_of
use Rattle.std.specs.List.{filter}
use Rattle.trie_model.specs.Maps.{Map}
use Rattle.range_model.specs.Ranges.{Range, holds}
use Rattle.proof_model.specs.Paths.{ProofNode}
use Rattle.proof_model.specs.Proofs.{Pair, pair_size}
use Rattle.proof_model.specs.TakenEntries.{taken, is_cut, reached_by}
use Rattle.proof_model.specs.Claims.{Claim}
use Rattle.proof_model.specs.Refusals.{Refusal, refusal}
use Rattle.proof_model.specs.TrueClaims.{path_to}

-- pairs, whether others of the range follow them, and the paths of the start and of where the pairs reach
pub record RangeProof : Type 0 where
  pub cut : Bool
  pub pairs : List Pair
  pub start : List ProofNode
  pub end : List ProofNode

-- the pairs that a map has in a range
abbrev pub pairs_in : Map → Range → List Pair
pairs_in m r = filter (λ (e : Pair). holds r e.0) (map_of.entries m)

abbrev pub keys_of : List Pair → List (List ℕ)
keys_of es = map (λ (e : Pair). e.0) es

-- the range that pairs tell of, where they were listed for a range
abbrev pub reached_range : Range → Bool → List Pair → Range
reached_range asked cut es = reached_by asked cut (keys_of es)

-- pairs with the paths to the bounds of the range that they tell of
abbrev pub proof_of_pairs : ℕ → Map → Range → Bool → List Pair → RangeProof
proof_of_pairs w m asked cut es = record { cut = cut; pairs = es; start = path_to w m asked.start; end = path_to w m (reached_range asked cut es).end }

-- what is proved of a range of a map, where n pairs and z bytes of them are allowed
abbrev pub range_proof : ℕ → Map → Range → ℕ → ℕ → RangeProof
range_proof w m r n z = proof_of_pairs w m r (is_cut pair_size n z (pairs_in m r)) (taken pair_size n z (pairs_in m r))

-- a range proof is checked for the range that its pairs tell of
abbrev pub range_claim : Range → RangeProof → Claim
range_claim asked p = record {
  keys = keys_of p.pairs;
  reached = reached_range asked p.cut p.pairs;
  pairs = p.pairs;
  start = p.start;
  end = p.end;
  idle = None;
}

-- why a range proof is refused
abbrev pub range_refusal : ℕ → Range → List ℕ → RangeProof → Option Refusal
range_refusal w asked root p = refusal w asked root (range_claim asked p)
