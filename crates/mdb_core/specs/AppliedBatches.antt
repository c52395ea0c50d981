-- What applying a batch does.
use Rattle.std.specs.Prelude.{◌≡◌, ◌<◌, ◌≤◌, false, true, List, length}
use Rattle.batch_model.specs.Batch.{Change}
use Rattle.view_model.specs.Calls.{number_limit}
use Rattle.view_model.specs.Forest.{payload}
use Rattle.mdb_journal.specs.Journal.{payload_limit}
use Rattle.value_store.specs.Values.{pairs_limit}
use Rattle.value_store.specs.Writes.{Writes, MayAppend, KeysAfter}
use Rattle.mdb_core.specs.Stores.{DbState, is_failed}
use Rattle.mdb_core.specs.declared.fault.DbFault.{DbFault}
use Rattle.mdb_core.specs.declared.fault.DbFault.TheVariants.{Disk, Failed, TooMany, TooLarge, Full, NoMemory}

-- the store works, and a number is left
pub record MayNumber (s : DbState) : Type 0 where
  pub works : is_failed s ≡ false
  pub left : length s.forest.views < number_limit

-- a batch was applied
pub record Applies (s : DbState) (batch : List Change) : Type 0 where
  pub number : MayNumber s
  pub writes : Writes s.values batch

-- why a batch was not applied: the first of these that holds, save for want of memory
abbrev pub ApplyFails : DbState → List Change → DbFault → Type 0
ApplyFails s batch Failed = is_failed s ≡ true
ApplyFails s batch TooMany = (is_failed s ≡ false) × (number_limit ≤ length s.forest.views)
ApplyFails s batch (TooLarge n) = MayNumber s × (n ≡ payload batch) × (payload_limit < n)
ApplyFails s batch Full = MayNumber s × MayAppend s.values batch × KeysAfter s.values batch (λ n. pairs_limit < n)
ApplyFails s batch Disk = Applies s batch
ApplyFails s batch NoMemory = MayNumber s × MayAppend s.values batch
ApplyFails s batch other = ⊥
