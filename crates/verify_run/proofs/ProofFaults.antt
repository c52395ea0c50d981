-- What is known of a proof of a line, by what its bytes are read as and what its check tells.
use Rattle.std.proofs.Common.{◌≡◌, ℕ, false, List, Option, None, Result, Ok, Err, refl, sym, ap, ◌∙◌}
use Rattle.std.specs.Prelude.{IsErr}
use Rattle.trie_model.specs.Maps.{Map, limits}
use Rattle.store_model.specs.Refusals.{Refusal as WhyNotOpened}
use Rattle.text_model.specs.LineKind.{LineKind}
use Rattle.range_model.specs.Ranges.{Range}
use Rattle.text_model.specs.ReadLine.{Line, Verify as proof_lines, Point, VerifyRange, read_line}
use Rattle.text_model.proofs.PointLines.{point_lines_are_within, range_lines_are_within}
use Rattle.proof_model.specs.CheckedBytes.{Cause, unless_refused, checked, point_checked, range_checked, change_checked}
use Rattle.proof_model.specs.ChangeProofs.{ChangeProof, change_refusal}
use Rattle.proof_model.specs.ChangeWire.{changes_of}
use Rattle.change_proof.specs.CheckAnswers.{IsReasonOr}
use Rattle.verify_run.specs.declared.proof_fault.ProofFault.{ProofFault}
use Rattle.verify_run.specs.declared.proof_fault.ProofFault.TheVariants as proofs
use Rattle.proof_model.specs.Proofs.{PointProof}
use Rattle.proof_model.specs.RangeProofs.{RangeProof, range_refusal}
use Rattle.proof_model.specs.RangeWire.{range_of}
use Rattle.proof_model.specs.Refusals.{Refusal, point_refusal}
use Rattle.proof_model.specs.Wire as wire
use Rattle.proof_model.specs.Wire.{point_of}
use Rattle.proof_check.specs.ReaderAnswers.{seen_kind, IsFault}
use Rattle.proof_check.specs.CheckResults.{Tells}
use Rattle.proof_check.specs.declared.verify_fault.VerifyFault.{VerifyFault}
use Rattle.proof_check.specs.declared.verify_fault.VerifyFault.TheVariants as checks
use Rattle.proof_check.specs.declared.wire_fault.WireKind.{WireKind}
use Rattle.proof_check.specs.declared.wire_fault.WireKind.TheVariants as kinds
use Rattle.proof_check.specs.declared.wire_fault.WireFault.{WireFault}
use Rattle.run_model.specs.Verify.{NotUnderstood, tells_changes, read_verdict}
use Rattle.batch_text.specs.SeenLine.{seen_line}
use Rattle.batch_text.specs.declared.line.Line.{Line as ReadLine}
use Rattle.batch_text.specs.declared.line.Line.TheVariants as read
use Rattle.verify_run.specs.Checks.{wire_fault, check_fault, IsRefused, IsRefusedOr, AsLine}

-- bytes that are no proof
pub wire_refused : {A : Type 0} (refuse : A → Option Refusal) (read : Result A wire.WireFault) (kind : WireKind) (fault : WireFault) → fault.kind ≡ kind → IsFault fault.at (seen_kind kind) read → IsRefused (checked refuse read) (wire_fault kind fault)
wire_refused refuse read kinds.NoMemory fault is wrong = tt
wire_refused refuse read kind fault is wrong = rw (is, wrong) refl

-- a proof that is not accepted
pub check_refused : {A : Type 0} (p : A) (why : Option Refusal) (fault : VerifyFault) → Tells {A = Unit {0}} (Err fault) why → IsRefused (unless_refused p why) (check_fault fault)
check_refused p why checks.NoMemory told = tt
check_refused p why checks.Failed told = absurd told
check_refused p why (checks.Unsorted i) told = rw told refl
check_refused p why (checks.Outside i) told = rw told refl
check_refused p why (checks.PathOrder i) told = rw told refl
check_refused p why (checks.PathsDiffer i) told = rw told refl
check_refused p why (checks.Idle i) told = rw told refl
check_refused p why (checks.RootDiffers have want) told = rw told refl

-- the check of bytes that are a proof is that of the proof
pub checked_read : (w : ℕ) (want key bytes : List ℕ) (p : PointProof) → point_of limits w bytes ≡ Ok p → unless_refused p (point_refusal w key want p) ≡ point_checked limits w want key bytes
unfolding point_checked
checked_read w want key bytes p is = rw is refl

pub accepted_read : (w : ℕ) (want key bytes : List ℕ) (p : PointProof) → point_of limits w bytes ≡ Ok p → point_refusal w key want p ≡ None → point_checked limits w want key bytes ≡ Ok p
accepted_read w want key bytes p is none = sym (checked_read w want key bytes p is) ∙ ap (unless_refused p) none

-- so of a range proof
pub checked_range : (w : ℕ) (want : List ℕ) (asked : Range) (bytes : List ℕ) (p : RangeProof) → range_of limits w bytes ≡ Ok p → unless_refused p (range_refusal w asked want p) ≡ range_checked limits w want asked bytes
unfolding range_checked
checked_range w want asked bytes p is = rw is refl

pub accepted_range : (w : ℕ) (want : List ℕ) (asked : Range) (bytes : List ℕ) (p : RangeProof) → range_of limits w bytes ≡ Ok p → range_refusal w asked want p ≡ None → range_checked limits w want asked bytes ≡ Ok p
accepted_range w want asked bytes p is none = sym (checked_range w want asked bytes p is) ∙ ap (unless_refused p) none

-- what is not read is not understood
pub not_understood : (w : ℕ) (found : Result Map WhyNotOpened) (read : Result Line LineKind) → IsErr read → read_verdict w found read ≡ Err NotUnderstood
not_understood w found (Err kind) bad = refl
not_understood w found (Ok line) bad = let no : ⊥ = cc bad in absurd no

-- a line that was read has a key within its limit, or a range that is one
pub as_line : (line : List ℕ) (found : Line) → read_line proof_lines line ≡ Ok found → AsLine found
as_line line (Point want key bytes) is = (point_lines_are_within line want key bytes is).key_short
as_line line (VerifyRange want asked bytes) is = (range_lines_are_within.0 line want asked bytes is).range
as_line line other is = tt

-- so of a change proof, which is checked against a map
pub checked_changes : (w : ℕ) (want : List ℕ) (asked : Range) (local : Map) (bytes : List ℕ) (p : ChangeProof) → changes_of limits w bytes ≡ Ok p → unless_refused p (change_refusal w asked local want p) ≡ change_checked limits w want asked local bytes
unfolding change_checked
checked_changes w want asked local bytes p is = rw is refl

pub accepted_changes : (w : ℕ) (want : List ℕ) (asked : Range) (local : Map) (bytes : List ℕ) (p : ChangeProof) → changes_of limits w bytes ≡ Ok p → change_refusal w asked local want p ≡ None → change_checked limits w want asked local bytes ≡ Ok p
accepted_changes w want asked local bytes p is none = sym (checked_changes w want asked local bytes p is) ∙ ap (unless_refused p) none

pub or_refused : {A : Type 0} (checked : Result A Cause) (fault : ProofFault) → IsRefused checked fault → IsRefusedOr checked fault
or_refused checked (proofs.Refused cause) is = is
or_refused checked (proofs.Store fault) is = tt
or_refused checked proofs.NoMemory is = tt

pub or_check_refused : {A : Type 0} (p : A) (why : Option Refusal) (fault : VerifyFault) → IsReasonOr fault why → IsRefusedOr (unless_refused p why) (check_fault fault)
or_check_refused p why checks.NoMemory told = tt
or_check_refused p why checks.Failed told = tt
or_check_refused p why (checks.Unsorted i) told = rw told refl
or_check_refused p why (checks.Outside i) told = rw told refl
or_check_refused p why (checks.PathOrder i) told = rw told refl
or_check_refused p why (checks.PathsDiffer i) told = rw told refl
or_check_refused p why (checks.Idle i) told = rw told refl
or_check_refused p why (checks.RootDiffers have want) told = rw told refl

-- a line of another sort tells of no changes
pub not_changes : (line : ReadLine) → ((root : _) (range : _) (proof : _) → line ≡ read.VerifyChanges root range proof → ⊥) → tells_changes (Ok (seen_line line)) ≡ false
not_changes (read.VerifyChanges root range proof) other = absurd (other root range proof refl)
not_changes line other = refl
