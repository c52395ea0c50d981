-- What an accepted proof proves: it shows what the map has whose root it was checked against, or SHA-256 is broken.
use Rattle.std.specs.Prelude.{◌≡◌, ◌⊎◌, ℕ, ◌≤◌, true, List, [], ◌∷◌, length, None}
use Rattle.std.specs.FinMap as map_of
use Rattle.std.specs.List.{filter, AllByRecursion}
use Rattle.std.specs.declared.cmp.Ordering.TheVariants.{Less}
use Rattle.base_model.specs.Bytes.{AreBytes, bytes_cmp}
use Rattle.trie_model.specs.Bits.{IsWidth}
use Rattle.trie_model.specs.Items.{IsValid}
use Rattle.trie_model.specs.Maps.{Map, Limits, IsMap, root, map_strings}
use Rattle.trie_model.specs.Strings.{Break}
use Rattle.range_model.specs.Ranges.{Range, IsRange, holds}
use Rattle.proof_model.specs.Paths.{IsProofNode}
use Rattle.proof_model.specs.Proofs.{Pair, PointProof}
use Rattle.proof_model.specs.Claims.{Claim, nodes, claim_items, claim_strings, point_claim}
use Rattle.proof_model.specs.Refusals.{refusal, point_refusal}

-- ---- which claims there are

-- a pair whose key is a byte string in a range
pub record LiesIn (r : Range) (e : Pair) : Type 0 where
  pub bytes : AreBytes e.0
  pub inside : holds r e.0 ≡ true

-- pairs whose keys strictly increase
abbrev pub AreSorted : List Pair → Type 0
AreSorted [] = Unit {0}
AreSorted (e ∷ es) = AllByRecursion (λ (f : Pair). bytes_cmp e.0 f.0 ≡ Less) es × AreSorted es

-- what is asked of a proof that is handed in as a value: a range, pairs in it in the order of their keys, and nodes
-- for tokens of w bits. Where the nodes stand in their paths is not asked, nor that they agree
pub record IsClaim (l : Limits) (w : ℕ) (c : Claim) : Type 0 where
  pub range : IsRange l c.reached
  pub listed : AllByRecursion (LiesIn c.reached) c.pairs
  pub sorted : AreSorted c.pairs
  pub shown : AllByRecursion (IsProofNode w) (nodes c)

-- ---- laws

-- the items of a proof are a valid list
abbrev pub ClaimItemsAreValid : Type 0
ClaimItemsAreValid = (l : Limits) (w : ℕ) (c : Claim) → IsWidth w → IsClaim l w c → IsValid w (claim_items w c)

-- the pairs of a proof that is accepted against the root of a map are all that the map has in the range, or SHA-256 is
-- broken by the strings of both
abbrev pub AcceptedClaimsAreTrue : Type 0
AcceptedClaimsAreTrue =
    (l : Limits) (w : ℕ) (asked : Range) (c : Claim) (m : Map) → IsWidth w → IsClaim l w c → IsMap l m → refusal w asked (root w m) c ≡ None
    → Break (claim_strings w c) (map_strings w m) ⊎ (c.pairs ≡ filter (λ (e : Pair). holds c.reached e.0) (map_of.entries m))

-- a point proof that is accepted against the root of a map shows what the map has at the key
abbrev pub AcceptedPointsAreTrue : Type 0
AcceptedPointsAreTrue =
    (l : Limits) (w : ℕ) (key : List ℕ) (p : PointProof) (m : Map) → IsWidth w → AreBytes key → length key ≤ l.key → AllByRecursion (IsProofNode w) p.path → IsMap l m
    → point_refusal w key (root w m) p ≡ None → Break (claim_strings w (point_claim key p)) (map_strings w m) ⊎ (map_of.get m key ≡ p.value)
