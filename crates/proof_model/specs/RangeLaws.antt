-- What an accepted range proof proves, and which range proofs are accepted.
use Rattle.std.specs.Prelude.{◌≡◌, ◌⊎◌, ℕ, ◌≤◌, false, List, [], length, None}
use Rattle.std.specs.List.{AllByRecursion}
use Rattle.base_model.specs.Bytes.{AreBytes}
use Rattle.trie_model.specs.Bits.{IsWidth}
use Rattle.trie_model.specs.Maps.{Map, Limits, IsMap, root, map_strings}
use Rattle.trie_model.specs.Strings.{Break}
use Rattle.range_model.specs.Ranges.{Range, IsRange}
use Rattle.proof_model.specs.Paths.{IsProofNode}
use Rattle.proof_model.specs.Proofs.{Pair}
use Rattle.proof_model.specs.Claims.{claim_strings}
use Rattle.proof_model.specs.RangeProofs.{RangeProof, pairs_in, reached_range, range_proof, range_claim, range_refusal}

-- a byte string within the limit of keys
pub record IsKey (l : Limits) (k : List ℕ) : Type 0 where
  pub bytes : AreBytes k
  pub short : length k ≤ l.key

-- a pair with such a key
abbrev pub HasKey : Limits → Pair → Type 0
HasKey l e = IsKey l e.0

-- what is asked of a range proof that is handed in as a value: keys within the limit, and nodes for tokens of w bits.
-- In what order the keys stand is not asked, nor that they lie in any range
pub record IsRangeClaim (l : Limits) (w : ℕ) (p : RangeProof) : Type 0 where
  pub listed : AllByRecursion (HasKey l) p.pairs
  pub start : AllByRecursion (IsProofNode w) p.start
  pub end : AllByRecursion (IsProofNode w) p.end

-- SHA-256 is broken by the strings of a range proof and of a map
abbrev pub RangeBreak : ℕ → Range → RangeProof → Map → Type 0
RangeBreak w asked p m = Break (claim_strings w (range_claim asked p)) (map_strings w m)

-- a range proof that is accepted against the root of a map lists all that the map has up to where its pairs reach
abbrev pub AcceptedRangesAreTrue : Type 0
AcceptedRangesAreTrue =
    (l : Limits) (w : ℕ) (asked : Range) (p : RangeProof) (m : Map) → IsWidth w → IsRange l asked → IsRangeClaim l w p → IsMap l m
    → range_refusal w asked (root w m) p ≡ None → RangeBreak w asked p m ⊎ (p.pairs ≡ pairs_in m (reached_range asked p.cut p.pairs))

-- one that is not cut, or lists nothing, lists all that the map has in the range that was asked for
abbrev pub UncutRangesAreWhole : Type 0
UncutRangesAreWhole =
    (l : Limits) (w : ℕ) (asked : Range) (p : RangeProof) (m : Map) → IsWidth w → IsRange l asked → IsRangeClaim l w p → IsMap l m
    → range_refusal w asked (root w m) p ≡ None → (p.cut ≡ false) ⊎ (p.pairs ≡ []) → RangeBreak w asked p m ⊎ (p.pairs ≡ pairs_in m asked)

-- what is proved of a range of a map is accepted against its root
abbrev pub TrueRangesAreAccepted : Type 0
TrueRangesAreAccepted =
    (l : Limits) (w : ℕ) (m : Map) (asked : Range) (n z : ℕ) → IsWidth w → IsMap l m → IsRange l asked → 1 ≤ n
    → range_refusal w asked (root w m) (range_proof w m asked n z) ≡ None
