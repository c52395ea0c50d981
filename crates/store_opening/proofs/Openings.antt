-- What an opened store keeps, and why none is opened.
use Rattle.std.proofs.Common.{◌≡◌, ◌⊎◌, inl, inr, ℕ, ◌≤◌, false, [], ◌∷◌, ap, refl, sym, ◌∙◌, subst}
use Rattle.base_model.specs.Faults.{Rose}
use Rattle.disk_model.specs.Files.{Files}
use Rattle.disk_model.specs.Moments.{Moments}
use Rattle.disk_model.specs.Words.{TellsContents}
use Rattle.trie_model.specs.Maps.{Map, limits}
use Rattle.store_model.specs.Journal.{Stands}
use Rattle.store_model.specs.Openings.{Opens}
use Rattle.store_model.proofs.Journals.{files_stand_for_one_map}
use Rattle.mdb_journal.specs.Opening.{Untouched}
use Rattle.mdb_core.specs.Stores.{DbState, Keeps, is_failed}
use Rattle.mdb_core.specs.Places.{GetFails}
use Rattle.mdb_core.specs.declared.store.At.TheVariants.{Store}
use Rattle.mdb_core.specs.declared.fault.DbFault.{DbFault}
use Rattle.mdb_core.specs.declared.fault.DbFault.TheVariants.{Disk, NotAStore, BranchDiffers, Damaged, Failed, Unknown, NotLive, NotHeld, TooMany, TooDeep, TooHeavy, TooLarge, NotParent, Full, NoMemory}
use Rattle.mdb_core.proofs.StoreFiles.{kept_stands}
use Rattle.run_model.specs.OutsideThings.{DiskSeen}
use Rattle.run_model.specs.End.{NoMemory as NoMemoryEnd}
use Rattle.store_opening.specs.Opening.{IsJustOpened, KeepsMaps, IsOpen, FailsBy, end_of_fault}
use Rattle.run_model.proofs.ToldThings.{rose_at_last}
use Rattle.session_model.specs.MapsByRoot.{Holding}
use Rattle.mdb_core.specs.Stores.{held_maps}

-- a store that was just opened holds its map alone
pub first_held : (s : DbState) → IsJustOpened s → (m : Map) → held_maps s m ≡ m ∷ []
first_held s fresh m = ap (λ (h : Holding). h.maps) (fresh.holding m)

-- an opened store keeps the map that the files stood for
pub open_keeps : (w : ℕ) (before mid : DiskSeen) (s : DbState) → IsOpen w before mid s → TellsContents before.tells → (m : Map) → Stands limits before.files m → Keeps s m mid.files
open_keeps w before mid s o told m stands =
    let found = o.opened told in
    subst (λ n. Keeps s n mid.files) (files_stand_for_one_map limits before.files found.map m found.stands stands) found.keeps

-- and the files still stand for it
pub open_stands : (w : ℕ) (before mid : DiskSeen) (s : DbState) → IsOpen w before mid s → TellsContents before.tells → (m : Map) → Stands limits before.files m → Stands limits mid.files m
open_stands w before mid s o told m stands = kept_stands s m mid.files (open_keeps w before mid s o told m stands)

-- files that were not written to
pub untouched_stands : (was is : Files) (old new : Moments) (m : Map) → Untouched was is old new → Stands limits was m → Stands limits is m
untouched_stands was is old new m u stands = subst (λ files. Stands limits files m) (sym u.seen) stands

pub untouched_keeps : (before mid after : DiskSeen) → KeepsMaps before mid → Untouched mid.files after.files mid.moments after.moments → KeepsMaps before after
untouched_keeps before mid after keeps u = λ told m stands. subst (λ now. Opens limits m before.moments now) (sym u.images) (keeps told m stands)

-- why a key of the store is not read
pub store_fails : (s : DbState) (fault : DbFault) → is_failed s ≡ false → GetFails s Store fault → (fault ≡ Disk) ⊎ (end_of_fault fault ≡ NoMemoryEnd)
store_fails s Disk works why = inl refl
store_fails s NoMemory works why = inr refl
store_fails s Failed works why = let no : ⊥ = cc (sym works ∙ why) in absurd no
store_fails s (NotAStore file) works why = let no : ⊥ = cc why.2 in absurd no
store_fails s (BranchDiffers kept asked) works why = let no : ⊥ = cc why.2 in absurd no
store_fails s (Damaged file at) works why = let no : ⊥ = cc why.2 in absurd no
store_fails s NotHeld works why = inr refl
store_fails s Unknown works why = let no : ⊥ = cc why.2 in absurd no
store_fails s (NotLive state) works why = let no : ⊥ = cc why.2 in absurd no
store_fails s TooMany works why = let no : ⊥ = cc why.2 in absurd no
store_fails s TooDeep works why = let no : ⊥ = cc why.2 in absurd no
store_fails s TooHeavy works why = let no : ⊥ = cc why.2 in absurd no
store_fails s (TooLarge n) works why = let no : ⊥ = cc why.2 in absurd no
store_fails s NotParent works why = let no : ⊥ = cc why.2 in absurd no
store_fails s Full works why = let no : ⊥ = cc why.2 in absurd no

-- a look-up that fails
pub look_up_fails : (w : ℕ) (before mid after : DiskSeen) (s : DbState) (fault : DbFault) → IsOpen w before mid s → before.faults ≤ mid.faults → Untouched mid.files after.files mid.moments after.moments
    → (fault ≡ Disk) ⊎ (end_of_fault fault ≡ NoMemoryEnd) → (fault ≡ Disk → Rose mid.faults after.faults) → FailsBy w before after (end_of_fault fault)
look_up_fails w before mid after s fault o later u (inl disk) rose =
    subst (λ f. FailsBy w before after (end_of_fault f)) (sym disk) (rose_at_last before.faults mid.faults after.faults later (rose disk))
look_up_fails w before mid after s fault o later u (inr memory) rose =
    subst (FailsBy w before after) (sym memory) (λ told m stands. untouched_stands mid.files after.files mid.moments after.moments m u (open_stands w before mid s o told m stands))
