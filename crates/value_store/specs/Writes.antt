-- What a write does.
use Rattle.std.specs.Prelude.{◌≡◌, ◌⊎◌, ℕ, ◌<◌, ◌≤◌, true, false, List, length}
use Rattle.std.specs.FinMap as map_of
use Rattle.disk_model.specs.Files.{Files}
use Rattle.disk_model.specs.Moments.{Moments}
use Rattle.trie_model.specs.Maps.{Map, limits}
use Rattle.batch_model.specs.Batch.{Change, batch_form, after_batch}
use Rattle.store_model.specs.Journal.{Stands}
use Rattle.mdb_journal.specs.Journal.{payload_limit}
use Rattle.mdb_journal.specs.DiskMoves.{OthersAsBefore}
use Rattle.value_store.specs.Values.{ValueState, HasKeys, pairs_limit}
use Rattle.value_store.specs.declared.fault.ValueFault.{ValueFault}
use Rattle.value_store.specs.declared.fault.ValueFault.TheVariants.{Disk, NotAStore, BranchDiffers, Damaged, TooLarge, Full, Failed, NoMemory}

-- the store works, and the payload of the batch is within its limit
pub record MayAppend (s : ValueState) (batch : List Change) : Type 0 where
  pub works : s.journal.failed ≡ false
  pub fits : length (batch_form batch) ≤ payload_limit

-- so many keys there would be after the batch; which values the keys have is nothing to it
abbrev pub KeysAfter : ValueState → List Change → (ℕ → Type 0) → Type 0
KeysAfter s batch P = (m : Map) → HasKeys s m → P (map_of.len (after_batch m batch))

-- a write was done
pub record Writes (s : ValueState) (batch : List Change) : Type 0 where
  pub may : MayAppend s batch
  pub room : KeysAfter s batch (λ n. n ≤ pairs_limit)

-- why a write was not done: the first of these that holds, save for want of memory, which may come where the payload is
-- within its limit
abbrev pub WriteFails : ValueState → List Change → ValueFault → Type 0
WriteFails s batch Failed = s.journal.failed ≡ true
WriteFails s batch (TooLarge n) = (s.journal.failed ≡ false) × (n ≡ length (batch_form batch)) × (payload_limit < n)
WriteFails s batch Full = MayAppend s batch × KeysAfter s batch (λ n. pairs_limit < n)
WriteFails s batch Disk = Writes s batch
WriteFails s batch NoMemory = MayAppend s batch
WriteFails s batch (NotAStore file) = ⊥
WriteFails s batch (BranchDiffers kept asked) = ⊥
WriteFails s batch (Damaged file at) = ⊥

-- the files stand for one map or the other, and those that are not the file's are as a crash might have left them before
pub record StandEither (old : Moments) (file : ℕ) (m n : Map) (image : Files) : Type 0 where
  pub stands : Stands limits image m ⊎ Stands limits image n
  pub others : OthersAsBefore old file image
