-- A proof as bytes, read and then checked: the proof, or why it is none.
use Rattle.std.specs.Prelude.{ℕ, List, Option, Some, None, Result, Ok, Err}
use Rattle.trie_model.specs.Maps.{Map, Limits}
use Rattle.range_model.specs.Ranges.{Range}
use Rattle.proof_model.specs.Proofs.{PointProof}
use Rattle.proof_model.specs.Refusals.{Refusal, point_refusal}
use Rattle.proof_model.specs.Wire.{WireFault, point_of}
use Rattle.proof_model.specs.RangeProofs.{RangeProof, range_refusal}
use Rattle.proof_model.specs.RangeWire.{range_of}
use Rattle.proof_model.specs.ChangeProofs.{ChangeProof, change_refusal}
use Rattle.proof_model.specs.ChangeWire.{changes_of}

-- bytes that are no proof, or a proof that is refused
pub data Cause : Type 0 where
  NotRead : WireFault → Cause
  NotAccepted : Refusal → Cause

-- a proof, unless there is a reason against it
abbrev pub unless_refused : {A : Type 0} → A → Option Refusal → Result A Cause
unless_refused p None = Ok p
unless_refused p (Some why) = Err (NotAccepted why)

-- what was read as a proof, checked
abbrev pub checked : {A : Type 0} → (A → Option Refusal) → Result A WireFault → Result A Cause
checked refuse (Ok p) = unless_refused p (refuse p)
checked refuse (Err why) = Err (NotRead why)

-- the point proof of a key that bytes are, accepted against a root
unfoldable pub point_checked : Limits → ℕ → List ℕ → List ℕ → List ℕ → Result PointProof Cause
point_checked l w root key bytes = checked (point_refusal w key root) (point_of l w bytes)

-- the range proof that bytes are, accepted for a range and against a root
unfoldable pub range_checked : Limits → ℕ → List ℕ → Range → List ℕ → Result RangeProof Cause
range_checked l w root asked bytes = checked (range_refusal w asked root) (range_of l w bytes)

-- the change proof that bytes are, accepted for a range against a local map and a root
unfoldable pub change_checked : Limits → ℕ → List ℕ → Range → Map → List ℕ → Result ChangeProof Cause
change_checked l w root asked local bytes = checked (change_refusal w asked local root) (changes_of l w bytes)
