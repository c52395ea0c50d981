-- Why a proof of what a store has is not made.
use Rattle.std.proofs.Common.{◌≡◌, ◌⊎◌, inl, inr, ℕ, ◌≤◌, sym, subst}
use Rattle.base_model.specs.Faults.{Rose}
use Rattle.mdb_journal.specs.Opening.{Untouched}
use Rattle.mdb_core.specs.Stores.{DbState}
use Rattle.run_model.specs.OutsideThings.{DiskSeen}
use Rattle.run_model.proofs.ToldThings.{rose_at_last}
use Rattle.script_run.specs.declared.end.SessionEnd.{SessionEnd}
use Rattle.script_run.specs.declared.end.SessionEnd.TheVariants as ends
use Rattle.store_opening.specs.Opening.{IsOpen, FailsBy}
use Rattle.store_opening.proofs.Openings.{open_stands, untouched_stands}
use Rattle.mdb_tool.specs.Ends.{end_of_reading}

-- a proof that is not made
pub reading_fails : (w : ℕ) (before mid after : DiskSeen) (s : DbState) (end : SessionEnd) → IsOpen w before mid s → before.faults ≤ mid.faults → Untouched mid.files after.files mid.moments after.moments
    → (end ≡ ends.NoMemory) ⊎ ((end ≡ ends.Disk) × Rose mid.faults after.faults) → FailsBy w before after (end_of_reading end)
reading_fails w before mid after s end o later u (inl memory) =
    subst (λ e. FailsBy w before after (end_of_reading e)) (sym memory) (λ told m stands. untouched_stands mid.files after.files mid.moments after.moments m u (open_stands w before mid s o told m stands))
reading_fails w before mid after s end o later u (inr lost) =
    subst (λ e. FailsBy w before after (end_of_reading e)) (sym lost.0) (rose_at_last before.faults mid.faults after.faults later lost.1)
