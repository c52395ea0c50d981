-- What making a view and committing one do.
use Rattle.std.specs.Prelude.{◌≡◌, ℕ, ◌<◌, ◌≤◌, false, true, List, Option, Some, None}
use Rattle.batch_model.specs.Batch.{Change}
use Rattle.view_model.specs.Forest.{Live, state, payload}
use Rattle.view_model.specs.Calls.{make_refused, view_refused, is_next, MayCommit}
use Rattle.view_model.specs.Maps.{changes_of}
use Rattle.mdb_journal.specs.Journal.{payload_limit}
use Rattle.value_store.specs.Values.{pairs_limit}
use Rattle.value_store.specs.Writes.{Writes, KeysAfter}
use Rattle.mdb_core.specs.Stores.{DbState, is_failed}
use Rattle.mdb_core.specs.Places.{Refuses}
use Rattle.mdb_core.specs.declared.fault.DbFault.{DbFault}
use Rattle.mdb_core.specs.declared.fault.DbFault.TheVariants.{Disk, Failed, NotParent, TooLarge, Full, NoMemory}

-- the store works, and a view may be made there
pub record MayMake (s : DbState) (parent : Option ℕ) (batch : List Change) : Type 0 where
  pub works : is_failed s ≡ false
  pub allowed : make_refused s.forest parent batch ≡ None

-- a view was made
pub record Makes (s : DbState) (parent : Option ℕ) (batch : List Change) : Type 0 where
  pub may : MayMake s parent batch
  pub fits : payload batch ≤ payload_limit

-- why a view was not made: the first of these that holds, save for want of memory
abbrev pub MakeFails : DbState → Option ℕ → List Change → DbFault → Type 0
MakeFails s parent batch Failed = is_failed s ≡ true
MakeFails s parent batch (TooLarge n) = MayMake s parent batch × (n ≡ payload batch) × (payload_limit < n)
MakeFails s parent batch NoMemory = Makes s parent batch
MakeFails s parent batch other = Refuses s (make_refused s.forest parent batch) other

-- the store works, and only its own number parts the live view from it
pub record MayTake (s : DbState) (n : ℕ) : Type 0 where
  pub works : is_failed s ≡ false
  pub next : MayCommit s.forest n

-- a view was committed
pub record Takes (s : DbState) (n : ℕ) : Type 0 where
  pub may : MayTake s n
  pub writes : Writes s.values (changes_of s.forest n)

-- why a view was not committed: the first of these that holds, save for want of memory
abbrev pub TakeFails : DbState → ℕ → DbFault → Type 0
TakeFails s n Failed = is_failed s ≡ true
TakeFails s n NotParent = (is_failed s ≡ false) × (state s.forest n ≡ Some Live) × (is_next s.forest n ≡ false)
TakeFails s n Full = MayTake s n × KeysAfter s.values (changes_of s.forest n) (λ k. pairs_limit < k)
TakeFails s n Disk = Takes s n
TakeFails s n NoMemory = (is_failed s ≡ false) × (state s.forest n ≡ Some Live)
TakeFails s n other = Refuses s (view_refused s.forest n) other
