-- How a run ends, as the definitions see its status.
use Rattle.mdb_tool.specs.declared.status.Status.{Status}
use Rattle.mdb_tool.specs.declared.status.Status.TheVariants.{Done as DoneStatus, BadWords as BadWordsStatus, BadLine as BadLineStatus, NotAStore as NotAStoreStatus, BranchDiffers as BranchDiffersStatus, Damaged as DamagedStatus, VerifyRefused as VerifyRefusedStatus, NotHeld as NotHeldStatus, Limit as LimitStatus, Read as ReadStatus, Write as WriteStatus, Disk as DiskStatus, NoMemory as NoMemoryStatus}
use Rattle.store_model.specs.Refusals.{NotAStore, BranchDiffers, Damaged}
use Rattle.run_model.specs.End.{End, Done, BadWords, BadLine, NotOpened, VerifyRefused, NotHeld, Limit, Read, Write, Disk, NoMemory}
use Rattle.proof_check.specs.RefusalReasons.{seen_cause}
use Rattle.script_run.specs.declared.end.SessionEnd.{SessionEnd}
use Rattle.script_run.specs.declared.end.SessionEnd.TheVariants as ends
use Rattle.script_run.specs.Ends.{limit_of}

abbrev pub end_of : Status → End
end_of DoneStatus = Done
end_of (BadWordsStatus place) = BadWords place
end_of (BadLineStatus number) = BadLine number
end_of (NotAStoreStatus file) = NotOpened (NotAStore file)
end_of (BranchDiffersStatus kept asked) = NotOpened (BranchDiffers kept asked)
end_of (DamagedStatus file at) = NotOpened (Damaged file at)
end_of (VerifyRefusedStatus line cause) = VerifyRefused line (seen_cause cause)
end_of NotHeldStatus = NotHeld
end_of (LimitStatus kind) = Limit (limit_of kind)
end_of ReadStatus = Read
end_of WriteStatus = Write
end_of DiskStatus = Disk
end_of NoMemoryStatus = NoMemory

-- how a run ends that could not read its store
abbrev pub end_of_reading : SessionEnd → End
end_of_reading ends.Disk = Disk
end_of_reading other = NoMemory
