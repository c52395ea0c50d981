-- What opening a store finds.
use Rattle.std.specs.Prelude.{◌≡◌, ℕ}
use Rattle.disk_model.specs.Files.{Files}
use Rattle.trie_model.specs.Maps.{Map, limits}
use Rattle.store_model.specs.Journal.{Stands, active}
use Rattle.store_model.specs.Refusals.{Refused, HasWidth, NotAStore as no_store, BranchDiffers as differs, Damaged as damaged}
use Rattle.mdb_core.specs.Stores.{DbState, Keeps}
use Rattle.mdb_core.specs.declared.fault.DbFault.{DbFault}
use Rattle.mdb_core.specs.declared.fault.DbFault.TheVariants.{Disk, NotAStore, BranchDiffers, Damaged, NoMemory}

-- the files stood for a map before, and now they are those of the store, which stands for it
pub record Opened (width : ℕ) (was is : Files) (s : DbState) : Type 0 where
  pub map : Map
  pub stands : Stands limits was map
  pub width_was : HasWidth width (active was)
  pub width_is : s.width ≡ width
  pub keeps : Keeps s map is

-- why an opening fails
abbrev pub OpenFails : ℕ → Files → DbFault → Type 0
OpenFails width files (NotAStore file) = Refused limits width files (no_store file)
OpenFails width files (BranchDiffers kept asked) = Refused limits width files (differs kept asked)
OpenFails width files (Damaged file at) = Refused limits width files (damaged file at)
OpenFails width files Disk = Unit {0}
OpenFails width files NoMemory = Unit {0}
OpenFails width files other = ⊥
