-- Why lines end, if they are not all done.
use Rattle.std.proofs.Common.{◌≡◌, ◌≢◌, ℕ, List, [], ◌++◌, length, Option, Some, None, refl, ◌∙◌}
use Rattle.std.specs.Prelude.{nat_le}
use Rattle.base_model.specs.Faults.{TellsAlike}
use Rattle.text_model.specs.Lines.{input_limit}
use Rattle.run_model.specs.End.{Done, Read}
use Rattle.batch_text.specs.Stream.{Stream, Gives}
use Rattle.script_run.specs.declared.end.SessionEnd.{SessionEnd}
use Rattle.script_run.specs.declared.end.SessionEnd.TheVariants.{Done as done, BadLine as bad_line, Limit as limit, Damaged as damaged_at, Read as failed_read, Write as failed_write, Disk as failed_disk, NoMemory as no_memory}
use Rattle.script_run.specs.Ends.{end_of, StepCause}

-- ---- whether an input is within its limit, from line to line
abbrev pub FitsAlike : Option (List ℕ) → Stream → Option (List ℕ) → Type 0
FitsAlike None ahead left = Unit {0}
FitsAlike (Some bytes) ahead None = Unit {0}
FitsAlike (Some bytes) ahead (Some left) = nat_le (length (ahead.held ++ left)) ahead.allowed ≡ nat_le (length bytes) input_limit

pub fits_start : (left : Option (List ℕ)) (ahead : Stream) → ahead.held ≡ [] → ahead.allowed ≡ input_limit → FitsAlike left ahead left
fits_start None ahead held allowed = tt
fits_start (Some bytes) ahead held allowed = rw (held, allowed) refl

pub fits_on : (start left left' : Option (List ℕ)) (old new : Stream) → TellsAlike start left → FitsAlike start old left → Gives old left new left' → FitsAlike start new left'
fits_on None left left' old new tells fits gives = tt
fits_on (Some bytes) left None old new tells fits gives = tt
fits_on (Some bytes) None (Some l') old new tells fits gives = let no : ⊥ = cc (tells.1 refl) in absurd no
fits_on (Some bytes) (Some l) (Some l') old new tells fits gives = gives.1 ∙ fits

-- a line is no end of its script, and no failed read
pub step_not_done : (writes writes' disks disks' : ℕ) (end : SessionEnd) → StepCause writes writes' disks disks' end → end_of end ≢ Done
step_not_done writes writes' disks disks' done why = absurd why
step_not_done writes writes' disks disks' (bad_line n) why = λ is. cc is
step_not_done writes writes' disks disks' (limit kind) why = λ is. cc is
step_not_done writes writes' disks disks' (damaged_at file place) why = absurd why
step_not_done writes writes' disks disks' failed_read why = absurd why
step_not_done writes writes' disks disks' failed_write why = λ is. cc is
step_not_done writes writes' disks disks' failed_disk why = λ is. cc is
step_not_done writes writes' disks disks' no_memory why = λ is. cc is

pub step_not_read : (writes writes' disks disks' : ℕ) (end : SessionEnd) → StepCause writes writes' disks disks' end → end_of end ≢ Read
step_not_read writes writes' disks disks' done why = absurd why
step_not_read writes writes' disks disks' (bad_line n) why = λ is. cc is
step_not_read writes writes' disks disks' (limit kind) why = λ is. cc is
step_not_read writes writes' disks disks' (damaged_at file place) why = absurd why
step_not_read writes writes' disks disks' failed_read why = absurd why
step_not_read writes writes' disks disks' failed_write why = λ is. cc is
step_not_read writes writes' disks disks' failed_disk why = λ is. cc is
step_not_read writes writes' disks disks' no_memory why = λ is. cc is
