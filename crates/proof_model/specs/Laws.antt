-- What the words on proofs say of each other.
use Rattle.std.specs.Prelude.{◌≡◌, ℕ, ◌^◌, ◌<◌, ◌≤◌, List, Ok}
use Rattle.base_model.specs.Bytes.{AreBytes}
use Rattle.trie_model.specs.Bits.{IsWidth}
use Rattle.trie_model.specs.Maps.{Limits}
use Rattle.trie_model.specs.StoredNode.{FitsLimits}
use Rattle.proof_model.specs.TakenEntries.{taken, IsLongest}
use Rattle.proof_model.specs.Proofs.{Pair, PointProof, pair_size}
use Rattle.proof_model.specs.Wire.{IsPoint, point_form, point_of}
use Rattle.proof_model.specs.RangeProofs.{RangeProof}
use Rattle.proof_model.specs.RangeWire.{IsRangeProof, range_form, range_of}
use Rattle.proof_model.specs.ChangeProofs.{ChangeProof}
use Rattle.proof_model.specs.ChangeWire.{IsChangeProof, changes_form, changes_of}

-- what is taken of pairs is the longest front that fits, or one pair
abbrev pub TakenIsLongest : Type 0
TakenIsLongest = (n z : ℕ) (xs : List Pair) → 1 ≤ n → IsLongest pair_size n z xs (taken pair_size n z xs)

-- a proof that is spelled is read
abbrev pub SpelledPointsAreRead : Type 0
SpelledPointsAreRead = (l : Limits) (w : ℕ) (p : PointProof) → FitsLimits l → l.value < 2 ^ 64 → IsWidth w → IsPoint l w p → point_of l w (point_form p) ≡ Ok p

-- a proof that is read is spelled so, each byte of it
abbrev pub ReadPointsAreSpelled : Type 0
ReadPointsAreSpelled = (l : Limits) (w : ℕ) (bytes : List ℕ) (p : PointProof) → AreBytes bytes → point_of l w bytes ≡ Ok p → IsPoint l w p × (bytes ≡ point_form p)

-- so for range proofs
abbrev pub SpelledRangesAreRead : Type 0
SpelledRangesAreRead = (l : Limits) (w : ℕ) (p : RangeProof) → FitsLimits l → l.value < 2 ^ 64 → IsWidth w → IsRangeProof l w p → range_of l w (range_form p) ≡ Ok p

abbrev pub ReadRangesAreSpelled : Type 0
ReadRangesAreSpelled = (l : Limits) (w : ℕ) (bytes : List ℕ) (p : RangeProof) → AreBytes bytes → range_of l w bytes ≡ Ok p → IsRangeProof l w p × (bytes ≡ range_form p)

-- and for change proofs
abbrev pub SpelledChangesAreRead : Type 0
SpelledChangesAreRead = (l : Limits) (w : ℕ) (p : ChangeProof) → FitsLimits l → l.value < 2 ^ 64 → IsWidth w → IsChangeProof l w p → changes_of l w (changes_form p) ≡ Ok p

abbrev pub ReadChangesAreSpelled : Type 0
ReadChangesAreSpelled = (l : Limits) (w : ℕ) (bytes : List ℕ) (p : ChangeProof) → AreBytes bytes → changes_of l w bytes ≡ Ok p → IsChangeProof l w p × (bytes ≡ changes_form p)
