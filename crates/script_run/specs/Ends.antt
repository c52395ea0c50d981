-- How a script ends, as the definitions see it, and what a step may end with.
use Rattle.std.specs.Prelude.{◌≡◌, ℕ, ◌<◌, List, ◌++◌, length, codes, Option, Some, None, IfSome, Result, Ok, Err, String, string_bytes}
use Rattle.std.specs.Global.{Global}
use Rattle.base_model.specs.Faults.{Rose}
use Rattle.batch_text.specs.declared.reader.ReaderFault.{ReaderFault}
use Rattle.batch_text.specs.declared.reader.ReaderFault.TheVariants.{Read as ReadFault, Limit as LimitFault, Overlong, NoMemory as NoMemoryOfReader}
use Rattle.mdb_base.specs.declared.faults.LimitKind.{LimitKind as LimitOfCode}
use Rattle.mdb_base.specs.declared.faults.LimitKind.TheVariants.{Input as InputOfCode, Pairs as PairsOfCode, Batch as BatchOfCode, Answers as AnswersOfCode}
use Rattle.mdb_core.specs.declared.fault.DbFault.{DbFault}
use Rattle.mdb_core.specs.declared.fault.DbFault.TheVariants.{Disk as DiskFault, NotAStore, BranchDiffers, Damaged as DamagedFault, Failed, Unknown, NotLive, NotHeld, TooMany, TooDeep, TooHeavy, TooLarge, NotParent, Full, NoMemory as NoMemoryFault}
use Rattle.script_run.specs.declared.end.SessionEnd.{SessionEnd}
use Rattle.script_run.specs.declared.end.SessionEnd.TheVariants.{Done as done, BadLine as bad_line, Limit as limit, Damaged as damaged_at, Read as read, Write as write, Disk as disk, NoMemory as no_memory}
use Rattle.text_model.specs.Lines.{input_limit}
use Rattle.text_model.specs.Texts.{LimitKind, Input, Pairs, Batch, Answers}
use Rattle.store_model.specs.Refusals.{Damaged}
use Rattle.session_model.specs.MapsByRoot.{not_held}
use Rattle.session_model.specs.Refusals.{state_word}
use Rattle.view_stack.specs.ViewAnswers.{state_meant}
use Rattle.run_model.specs.End.{End, Done, BadLine, NotOpened, Limit, Read, Write, Disk, NoMemory}

abbrev pub limit_of : LimitOfCode → LimitKind
limit_of InputOfCode = Input
limit_of PairsOfCode = Pairs
limit_of BatchOfCode = Batch
limit_of AnswersOfCode = Answers

abbrev pub end_of : SessionEnd → End
end_of done = Done
end_of (bad_line number) = BadLine number
end_of (limit kind) = Limit (limit_of kind)
end_of (damaged_at file at) = NotOpened (Damaged file at)
end_of read = Read
end_of write = Write
end_of disk = Disk
end_of no_memory = NoMemory

-- the end that a fault of the store makes, where it is none for which a line is refused; what only an opening meets never
-- comes of a store that works
abbrev pub fault_end : DbFault → SessionEnd
fault_end DiskFault = disk
fault_end (NotAStore file) = disk
fault_end (BranchDiffers kept asked) = disk
fault_end (DamagedFault file at) = damaged_at file at
fault_end Failed = disk
fault_end Unknown = disk
fault_end (NotLive state) = disk
fault_end TooMany = limit BatchOfCode
fault_end TooDeep = disk
fault_end TooHeavy = disk
fault_end (TooLarge n) = limit BatchOfCode
fault_end NotParent = disk
fault_end NotHeld = disk
fault_end Full = limit PairsOfCode
fault_end NoMemoryFault = no_memory

-- why a line on a view is refused, in words, by the fault of the store; None for a fault that ends the script
abbrev pub cause_told : DbFault → Option (List ℕ)
cause_told Unknown = Some (codes "unknown")
cause_told (NotLive state) = Some (codes "not live " ++ state_word (state_meant state))
cause_told TooMany = Some (codes "too many")
cause_told TooDeep = Some (codes "too deep")
cause_told TooHeavy = Some (codes "too heavy")
cause_told NotParent = Some (codes "not parent")
cause_told NotHeld = Some not_held
cause_told other = None

-- this text was made, or there was no memory
abbrev pub IsTextOf : List ℕ → Result (String Global) SessionEnd → Type 0
IsTextOf text (Ok made) = string_bytes made ≡ text
IsTextOf text (Err end) = end ≡ no_memory

-- the limits that a step reaches
abbrev pub IsStepLimit : LimitOfCode → Type 0
IsStepLimit InputOfCode = ⊥
IsStepLimit PairsOfCode = Unit {0}
IsStepLimit BatchOfCode = Unit {0}
IsStepLimit AnswersOfCode = ⊥

-- what a step ends with, if it is not done: a failed output or disk has its cause, and it is not the input that ends it
abbrev pub StepCause : (writes writes' disks disks' : ℕ) → SessionEnd → Type 0
StepCause writes writes' disks disks' done = ⊥
StepCause writes writes' disks disks' (bad_line number) = Unit {0}
StepCause writes writes' disks disks' (limit kind) = IsStepLimit kind
StepCause writes writes' disks disks' (damaged_at file at) = ⊥
StepCause writes writes' disks disks' read = ⊥
StepCause writes writes' disks disks' write = Rose writes writes'
StepCause writes writes' disks disks' disk = Rose disks disks'
StepCause writes writes' disks disks' no_memory = Unit {0}

-- the end that a fault of the reader makes before the line of this number
abbrev pub reader_end : ℕ → ReaderFault → SessionEnd
reader_end number ReadFault = read
reader_end number LimitFault = limit InputOfCode
reader_end number Overlong = bad_line number
reader_end number NoMemoryOfReader = no_memory

-- an input reaches its limit only where what it has left goes past it
abbrev pub LimitCause : Option (List ℕ) → LimitOfCode → Type 0
LimitCause left InputOfCode = IfSome left (λ bytes. input_limit < length bytes)
LimitCause left PairsOfCode = Unit {0}
LimitCause left BatchOfCode = Unit {0}
LimitCause left AnswersOfCode = Unit {0}

-- what lines end with, if they are not all done, by what the input has left before them and by how often each thing has failed
abbrev pub LinesCause : Option (List ℕ) → (reads reads' writes writes' disks disks' : ℕ) → SessionEnd → Type 0
LinesCause left reads reads' writes writes' disks disks' done = ⊥
LinesCause left reads reads' writes writes' disks disks' (bad_line number) = Unit {0}
LinesCause left reads reads' writes writes' disks disks' (limit kind) = LimitCause left kind
LinesCause left reads reads' writes writes' disks disks' (damaged_at file at) = ⊥
LinesCause left reads reads' writes writes' disks disks' read = Rose reads reads'
LinesCause left reads reads' writes writes' disks disks' write = Rose writes writes'
LinesCause left reads reads' writes writes' disks disks' disk = Rose disks disks'
LinesCause left reads reads' writes writes' disks disks' no_memory = Unit {0}
