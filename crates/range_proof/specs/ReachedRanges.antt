-- The range for which a range proof is checked.
use Rattle.std.specs.Prelude.{◌≡◌, ◌⊎◌, ℕ, false, List, Option, Some, None}
use Rattle.trie_model.specs.Maps.{limits}
use Rattle.range_model.specs.Ranges.{Range, IsRange, holds}
use Rattle.proof_model.specs.RangeProofs.{RangeProof, keys_of, reached_range}
use Rattle.proof_model.specs.TakenEntries.{last_key}

-- the last pair lies outside the range that was asked for
abbrev pub EndsOutside : Range → RangeProof → Type 0
EndsOutside asked p = (last : List ℕ) × (last_key (keys_of p.pairs) ≡ Some last) × (holds asked last ≡ false)

-- a range that a proof may be checked for: the one that its pairs tell of, or, where the last pair lies outside, the whole one
pub record StandsFor (asked : Range) (p : RangeProof) (r : Range) : Type 0 where
  pub range : IsRange limits r
  pub tells : (r ≡ reached_range asked p.cut p.pairs) ⊎ ((r ≡ asked) × EndsOutside asked p)

abbrev pub or_asked : Range → Option Range → Range
or_asked asked None = asked
or_asked asked (Some r) = r
