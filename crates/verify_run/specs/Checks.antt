-- What was read of a line, and what its proof came to.
use Rattle.std.specs.Prelude.{◌≡◌, ℕ, ◌≤◌, length, List, [], Option, Some, None, Result, Ok, Err, IsErr}
use Rattle.trie_model.specs.Maps.{key_limit, limits}
use Rattle.range_model.specs.Ranges.{IsRange}
use Rattle.text_model.specs.LineKind.{LineKind}
use Rattle.text_model.specs.ReadLine.{Line, Point, VerifyRange}
use Rattle.text_model.specs.Texts.{ok_text}
use Rattle.proof_model.specs.CheckedBytes.{Cause}
use Rattle.run_model.specs.End.{End, NotOpened}
use Rattle.run_model.specs.Verify.{Fault, Refused, Unopened}
use Rattle.mdb_core.specs.declared.fault.DbFault.TheVariants.{Disk as disk_fault}
use Rattle.store_opening.specs.Opening.{end_of_fault}
use Rattle.proof_check.specs.declared.refusal.Refusal.TheVariants.{Wire, Verify}
use Rattle.proof_check.specs.declared.verify_fault.VerifyFault.{VerifyFault}
use Rattle.proof_check.specs.declared.verify_fault.VerifyFault.TheVariants as checks
use Rattle.proof_check.specs.declared.wire_fault.WireKind.{WireKind}
use Rattle.proof_check.specs.declared.wire_fault.WireKind.TheVariants as kinds
use Rattle.proof_check.specs.declared.wire_fault.WireFault.{WireFault}
use Rattle.proof_check.specs.RefusalReasons.{seen_cause}
use Rattle.verify_run.specs.declared.proof_fault.ProofFault.{ProofFault}
use Rattle.verify_run.specs.declared.proof_fault.ProofFault.TheVariants as faults
use Rattle.verify_run.specs.declared.end.VerifyEnd.{VerifyEnd}
use Rattle.verify_run.specs.declared.end.VerifyEnd.TheVariants as ends

-- what becomes of a proof whose bytes are not read, by what is wrong with them
abbrev pub wire_fault : WireKind → WireFault → ProofFault
wire_fault kinds.NoMemory fault = faults.NoMemory
wire_fault other fault = faults.Refused (Wire fault)

-- and of one that is not accepted
abbrev pub check_fault : VerifyFault → ProofFault
check_fault checks.NoMemory = faults.NoMemory
check_fault checks.Failed = faults.Store disk_fault
check_fault other = faults.Refused (Verify other)

-- how a run ends at the line of this number whose proof shows nothing
abbrev pub end_at : ℕ → ProofFault → VerifyEnd
end_at number (faults.Refused cause) = ends.Refused number cause
end_at number (faults.Store fault) = ends.Store fault
end_at number faults.NoMemory = ends.NoMemory

-- why a proof shows nothing; want of memory may come in the place of any answer
abbrev pub IsRefused : {A : Type 0} → Result A Cause → ProofFault → Type 0
IsRefused checked (faults.Refused cause) = checked ≡ Err (seen_cause cause)
IsRefused checked faults.NoMemory = Unit {0}
IsRefused checked (faults.Store fault) = ⊥

-- so of a proof that is checked against the map of a store, whose disk may fail in the place of any answer
abbrev pub IsRefusedOr : {A : Type 0} → Result A Cause → ProofFault → Type 0
IsRefusedOr checked (faults.Store fault) = Unit {0}
IsRefusedOr checked other = IsRefused checked other

-- the line of this number is not understood, or memory ran out
abbrev pub IsUnread : ℕ → Result Line LineKind → VerifyEnd → Type 0
IsUnread number read (ends.BadLine n) = (n ≡ number) × IsErr read
IsUnread number read ends.NoMemory = Unit {0}
IsUnread number read other = ⊥

-- a line whose key is within its limit, or whose range is one, if it tells of a proof
abbrev pub AsLine : Line → Type 0
AsLine (Point root key proof) = length key ≤ key_limit
AsLine (VerifyRange root asked proof) = IsRange limits asked
AsLine other = Unit {0}

-- ---- a line, of which this is the verdict

-- its proof shows so many pairs or changes
abbrev pub IsCounted : ℕ → Result (List ℕ) Fault → Type 0
IsCounted pairs verdict = verdict ≡ Ok (ok_text pairs)

-- so, or it tells of none and prints nothing
abbrev pub IsShown : Option ℕ → Result (List ℕ) Fault → Type 0
IsShown (Some pairs) verdict = IsCounted pairs verdict
IsShown None verdict = verdict ≡ Ok []

-- files that are not opened are told as such, where a run ends so; a disk that failed and want of memory may come in the place of
-- any verdict
abbrev pub TellsStore : End → Result (List ℕ) Fault → Type 0
TellsStore (NotOpened why) verdict = verdict ≡ Err (Unopened why)
TellsStore other verdict = Unit {0}

-- its proof shows nothing, for this reason
abbrev pub IsNotShown : ProofFault → Result (List ℕ) Fault → Type 0
IsNotShown (faults.Refused cause) verdict = verdict ≡ Err (Refused (seen_cause cause))
IsNotShown (faults.Store fault) verdict = TellsStore (end_of_fault fault) verdict
IsNotShown faults.NoMemory verdict = Unit {0}

-- it does not tell of a store
abbrev pub IsOfNoStore : ProofFault → Type 0
IsOfNoStore (faults.Store fault) = ⊥
IsOfNoStore other = Unit {0}
