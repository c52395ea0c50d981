-- What the commands on a store share.
use Rattle.std.specs.Prelude.{◌≡◌, ℕ, Bool, true, Result, Ok, Err}
use Rattle.base_model.specs.Faults.{Rose}
use Rattle.disk_model.specs.Words.{TellsContents}
use Rattle.trie_model.specs.Maps.{Map, limits}
use Rattle.store_model.specs.Refusals.{Refusal, Refused, Found}
use Rattle.run_model.specs.OutsideThings.{DiskSeen, Outside}
use Rattle.run_model.specs.End.{End, NotOpened}
use Rattle.run_model.specs.Outcome.{Outcome, silent}

-- the disk tells its files, and as a store with tokens of w bits they are found to be this
abbrev pub IsFound : ℕ → DiskSeen → Result Map Refusal → Type 0
IsFound w disk found = TellsContents disk.tells × Found limits w disk.files found

-- so it does, and its count of faults does not rise
abbrev pub NeedsStore : ℕ → Outside → Outside → Result Map Refusal → Type 0
NeedsStore w before after found = (Rose before.disk.faults after.disk.faults → ⊥) × IsFound w before.disk found

-- where the disk tells its files and they stand for a map
abbrev pub OnMap : ℕ → DiskSeen → (Map → Type 0) → Type 0
OnMap w disk P = (m : Map) → IsFound w disk (Ok m) → P m

-- the outcome on the map of a store, or that its files are not opened
abbrev pub on_found : (Map → Outcome) → Result Map Refusal → Outcome
on_found outcome (Ok m) = outcome m
on_found outcome (Err why) = silent (NotOpened why)

-- files are told as not opened only by a command that uses a store, and for that reason
abbrev pub RefusalHasCause : Bool → ℕ → DiskSeen → End → Type 0
RefusalHasCause uses w disk end = (why : Refusal) → end ≡ NotOpened why → (uses ≡ true) × (TellsContents disk.tells → Refused limits w disk.files why)
