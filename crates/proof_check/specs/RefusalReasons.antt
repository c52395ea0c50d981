-- Why bytes do not prove what they are to prove, in the words of the definitions.
use Rattle.std.specs.Prelude.{Option, Some, None}
use Rattle.proof_model.specs.Refusals as words
use Rattle.proof_model.specs.CheckedBytes.{Cause, NotRead, NotAccepted}
use Rattle.proof_model.specs.Wire.{WireKind, Short, wrong}
use Rattle.proof_check.specs.declared.refusal.Refusal.{Refusal}
use Rattle.proof_check.specs.declared.refusal.Refusal.TheVariants.{Wire, Verify}
use Rattle.proof_check.specs.declared.verify_fault.VerifyFault.{VerifyFault}
use Rattle.proof_check.specs.declared.verify_fault.VerifyFault.TheVariants as faults
use Rattle.proof_check.specs.ReaderAnswers.{seen_kind}

-- the reason that a fault tells of. No refusal is made of a failed source or of want of memory: these are seen as a change
-- that no proof of one key and no range has
abbrev pub seen_reason : VerifyFault → words.Refusal
seen_reason (faults.Unsorted place) = words.Unsorted place
seen_reason (faults.Outside place) = words.Outside place
seen_reason (faults.PathOrder place) = words.PathOrder place
seen_reason (faults.PathsDiffer place) = words.PathsDiffer place
seen_reason (faults.Idle place) = words.Idle place
seen_reason (faults.RootDiffers have want) = words.RootDiffers have want
seen_reason faults.Failed = words.Idle 0
seen_reason faults.NoMemory = words.Idle 0

abbrev pub kind_or_short : Option WireKind → WireKind
kind_or_short None = Short
kind_or_short (Some kind) = kind

-- nor of want of memory for bytes: it is seen as a field that runs past the end
abbrev pub seen_cause : Refusal → Cause
seen_cause (Wire fault) = NotRead (wrong (kind_or_short (seen_kind fault.kind)) fault.at)
seen_cause (Verify fault) = NotAccepted (seen_reason fault)
