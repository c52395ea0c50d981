-- What a source over a store leaves of the store, and how it tells the store's faults.
use Rattle.std.specs.Prelude.{◌≡◌, ◌⊎◌, Option, None, Result, Ok, Err}
use Rattle.trie_items.specs.declared.source_fault.SourceFault.{SourceFault}
use Rattle.trie_items.specs.declared.source_fault.SourceFault.TheVariants.{Failed as failed, NoMemory as no_memory}
use Rattle.mdb_core.specs.Stores.{DbState, broken}
use Rattle.mdb_core.specs.declared.fault.DbFault.{DbFault}
use Rattle.mdb_core.specs.declared.fault.DbFault.TheVariants.{Disk, Failed, NoMemory}

-- the store is as it was, unless the disk failed
abbrev pub Reads : DbState → DbState → Type 0
Reads old new = (new ≡ old) ⊎ (new ≡ broken old)

-- what a source answers where the store answers this; of a view that is live no more it has no value
abbrev pub source_answer : {A : Type 0} → Result (Option A) DbFault → Result (Option A) SourceFault
source_answer (Ok x) = Ok x
source_answer (Err Disk) = Err failed
source_answer (Err Failed) = Err failed
source_answer (Err NoMemory) = Err no_memory
source_answer (Err other) = Ok None
