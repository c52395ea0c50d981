-- How the lines of an input end, as the definitions see it, and what a line may end with.
use Rattle.std.specs.Prelude.{◌≡◌, ℕ, List, Option, Result, Ok, Err}
use Rattle.std.specs.Io.KnownBytes.{Appends}
use Rattle.base_model.specs.Faults.{Rose}
use Rattle.base_model.specs.Streams.{AppendsPrefix}
use Rattle.text_model.specs.Texts.{Input}
use Rattle.run_model.specs.End.{End, Done, BadLine, VerifyRefused, Limit, Read, Write, NoMemory}
use Rattle.run_model.specs.Verify.{Fault, NotUnderstood, Refused}
use Rattle.batch_text.specs.declared.reader.ReaderFault.{ReaderFault}
use Rattle.batch_text.specs.declared.reader.ReaderFault.TheVariants.{Read as ReadFault, Limit as LimitFault, Overlong, NoMemory as NoMemoryOfReader}
use Rattle.proof_check.specs.RefusalReasons.{seen_cause}
use Rattle.store_opening.specs.Opening.{end_of_fault}
use Rattle.verify_run.specs.Checks.{TellsStore}
use Rattle.verify_run.specs.declared.end.VerifyEnd.{VerifyEnd}
use Rattle.verify_run.specs.declared.end.VerifyEnd.TheVariants as ends

abbrev pub end_of : VerifyEnd → End
end_of ends.Done = Done
end_of (ends.BadLine number) = BadLine number
end_of (ends.Refused number cause) = VerifyRefused number (seen_cause cause)
end_of (ends.Store fault) = end_of_fault fault
end_of ends.Limit = Limit Input
end_of ends.Read = Read
end_of ends.Write = Write
end_of ends.NoMemory = NoMemory

abbrev pub reader_end : ℕ → ReaderFault → VerifyEnd
reader_end number ReadFault = ends.Read
reader_end number LimitFault = ends.Limit
reader_end number Overlong = ends.BadLine number
reader_end number NoMemoryOfReader = ends.NoMemory

-- ---- a line

-- the line of this number, of which this is the verdict, ends so before it prints; want of memory may come in the place of any
-- verdict
abbrev pub Leaves : ℕ → Result (List ℕ) Fault → VerifyEnd → Type 0
Leaves number verdict (ends.BadLine n) = (n ≡ number) × (verdict ≡ Err NotUnderstood)
Leaves number verdict (ends.Refused n cause) = (n ≡ number) × (verdict ≡ Err (Refused (seen_cause cause)))
Leaves number verdict (ends.Store fault) = TellsStore (end_of_fault fault) verdict
Leaves number verdict ends.NoMemory = Unit {0}
Leaves number verdict other = ⊥

-- a line passes, and its text was printed
abbrev pub Passes : Result (List ℕ) Fault → Option (List ℕ) → Option (List ℕ) → Type 0
Passes verdict taken taken' = (text : List ℕ) × (verdict ≡ Ok text) × Appends taken taken' text

-- a line passes, and its text could not be printed to its end
abbrev pub Breaks : Result (List ℕ) Fault → Option (List ℕ) → Option (List ℕ) → Type 0
Breaks verdict taken taken' = (text : List ℕ) × (verdict ≡ Ok text) × AppendsPrefix taken taken' text

-- how the line of this number ends: where it does not pass nothing is printed
abbrev pub LineEnds : ℕ → Result (List ℕ) Fault → (taken taken' : Option (List ℕ)) → (writes writes' : ℕ) → VerifyEnd → Type 0
LineEnds number verdict taken taken' writes writes' ends.Write = Breaks verdict taken taken' × Rose writes writes'
LineEnds number verdict taken taken' writes writes' other = Leaves number verdict other × (taken' ≡ taken)

-- what is known of that, whatever the verdict is
abbrev pub MayEnd : (taken taken' : Option (List ℕ)) → (writes writes' : ℕ) → VerifyEnd → Type 0
MayEnd taken taken' writes writes' ends.Write = Rose writes writes'
MayEnd taken taken' writes writes' ends.Done = ⊥
MayEnd taken taken' writes writes' ends.Limit = ⊥
MayEnd taken taken' writes writes' ends.Read = ⊥
MayEnd taken taken' writes writes' other = taken' ≡ taken

-- an end that comes before anything is printed
abbrev pub IsEarlyEnd : VerifyEnd → Type 0
IsEarlyEnd ends.Write = ⊥
IsEarlyEnd ends.Done = ⊥
IsEarlyEnd ends.Limit = ⊥
IsEarlyEnd ends.Read = ⊥
IsEarlyEnd other = Unit {0}
