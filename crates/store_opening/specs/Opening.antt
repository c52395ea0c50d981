-- What opening the store of a disk comes to, as a run sees it.
use Rattle.std.specs.Prelude.{◌≡◌, ℕ, false}
use Rattle.base_model.specs.Faults.{Rose}
use Rattle.disk_model.specs.Moments.{LeavesOnly}
use Rattle.disk_model.specs.Words.{TellsContents, TellsImages}
use Rattle.trie_model.specs.Maps.{Map, limits}
use Rattle.store_model.specs.Journal.{Stands}
use Rattle.store_model.specs.Openings.{Opens}
use Rattle.store_model.specs.Refusals.{Refused, NotAStore, BranchDiffers, Damaged}
use Rattle.mdb_journal.specs.DiskMoves.{AreSynced}
use Rattle.mdb_core.specs.Stores.{DbState, held_maps, is_failed}
use Rattle.mdb_core.specs.StoreOpenings.{Opened}
use Rattle.run_model.specs.OutsideThings.{DiskSeen}
use Rattle.view_model.specs.Forest.{no_views}
use Rattle.session_model.specs.MapsByRoot.{Holding, holds_first}
use Rattle.mdb_core.specs.declared.fault.DbFault.{DbFault}
use Rattle.mdb_core.specs.declared.fault.DbFault.TheVariants.{Disk as DiskFault, NotAStore as NotAStoreFault, BranchDiffers as BranchDiffersFault, Damaged as DamagedFault, Failed as FailedFault, Unknown as UnknownFault, NotLive as NotLiveFault, NotHeld as NotHeldFault, TooMany as TooManyFault, TooDeep as TooDeepFault, TooHeavy as TooHeavyFault, TooLarge as TooLargeFault, NotParent as NotParentFault, Full as FullFault, NoMemory as NoMemoryFault}
use Rattle.run_model.specs.End.{End, Done, BadWords, BadLine, NotOpened, VerifyRefused, NotHeld, Limit, Read, Write, Disk, NoMemory}

-- what a crash leaves while the store of any map is opened
abbrev pub KeepsMaps : DiskSeen → DiskSeen → Type 0
KeepsMaps before after = TellsImages before.tells → (m : Map) → Stands limits before.files m → Opens limits m before.moments after.moments

-- the maps that a store of this map holds, and the limits of what it holds
abbrev pub holding_of : DbState → Map → Holding
holding_of db m = record { commits = db.history.commits; weight = db.history.weight; maps = held_maps db m }

-- a store that was just opened: it has no views, and of the maps that it may hold none but its own
pub record IsJustOpened (db : DbState) : Type 0 where
  pub views : db.forest ≡ no_views
  pub holding : (m : Map) → holding_of db m ≡ holds_first m

-- a store with tokens of w bits was opened
pub record IsOpen (w : ℕ) (before after : DiskSeen) (s : DbState) : Type 0 where
  pub opened : TellsContents before.tells → Opened w before.files after.files s
  pub works : is_failed s ≡ false
  pub fresh : IsJustOpened s
  pub width : s.width ≡ w
  pub synced : TellsImages before.tells → AreSynced after.files after.moments
  pub left : TellsImages before.tells → (m : Map) → Stands limits before.files m → LeavesOnly (λ image. Stands limits image m) after.moments.now

-- how a run ends where its store is not opened or read; those behind the fifth come from no such call
abbrev pub end_of_fault : DbFault → End
end_of_fault DiskFault = Disk
end_of_fault (NotAStoreFault file) = NotOpened (NotAStore file)
end_of_fault (BranchDiffersFault kept asked) = NotOpened (BranchDiffers kept asked)
end_of_fault (DamagedFault file at) = NotOpened (Damaged file at)
end_of_fault NoMemoryFault = NoMemory
end_of_fault FailedFault = NoMemory
end_of_fault UnknownFault = NoMemory
end_of_fault (NotLiveFault state) = NoMemory
end_of_fault NotHeldFault = NoMemory
end_of_fault TooManyFault = NoMemory
end_of_fault TooDeepFault = NoMemory
end_of_fault TooHeavyFault = NoMemory
end_of_fault (TooLargeFault n) = NoMemory
end_of_fault NotParentFault = NoMemory
end_of_fault FullFault = NoMemory

-- why no store was opened or read, by the end that it is told as
abbrev pub FailsBy : ℕ → DiskSeen → DiskSeen → End → Type 0
FailsBy w before after (NotOpened why) = TellsContents before.tells → Refused limits w before.files why
FailsBy w before after Disk = Rose before.faults after.faults
FailsBy w before after NoMemory = TellsContents before.tells → (m : Map) → Stands limits before.files m → Stands limits after.files m
FailsBy w before after Done = ⊥
FailsBy w before after (BadWords place) = ⊥
FailsBy w before after (BadLine number) = ⊥
FailsBy w before after (VerifyRefused number cause) = ⊥
FailsBy w before after NotHeld = ⊥
FailsBy w before after (Limit kind) = ⊥
FailsBy w before after Read = ⊥
FailsBy w before after Write = ⊥
