-- What opening a value store finds.
use Rattle.std.specs.Prelude.{ℕ}
use Rattle.disk_model.specs.Files.{Files}
use Rattle.trie_model.specs.Maps.{Map, limits}
use Rattle.store_model.specs.Journal.{Stands, active}
use Rattle.store_model.specs.Refusals.{Refused, HasWidth, NotAStore as no_store, BranchDiffers as differs, Damaged as damaged}
use Rattle.value_store.specs.Values.{ValueState, Keeps}
use Rattle.value_store.specs.declared.fault.ValueFault.{ValueFault}
use Rattle.value_store.specs.declared.fault.ValueFault.TheVariants.{Disk, NotAStore, BranchDiffers, Damaged, TooLarge, Full, Failed, NoMemory}

-- the files stood for a map before, and now they are those of the value, which keeps it
pub record Opened (width : ℕ) (was is : Files) (s : ValueState) : Type 0 where
  pub map : Map
  pub stands : Stands limits was map
  pub width_was : HasWidth width (active was)
  pub keeps : Keeps s map is

-- why an opening fails
abbrev pub OpenFails : ℕ → Files → ValueFault → Type 0
OpenFails width files (NotAStore file) = Refused limits width files (no_store file)
OpenFails width files (BranchDiffers kept asked) = Refused limits width files (differs kept asked)
OpenFails width files (Damaged file at) = Refused limits width files (damaged file at)
OpenFails width files Disk = Unit {0}
OpenFails width files NoMemory = Unit {0}
OpenFails width files (TooLarge n) = ⊥
OpenFails width files Full = ⊥
OpenFails width files Failed = ⊥
