-- What the words on batches say of each other.
use Rattle.std.specs.Prelude.{◌≡◌, ℕ, List, None, Ok}
use Rattle.std.specs.List.{AllByRecursion}
use Rattle.base_model.specs.Bytes.{AreBytes}
use Rattle.trie_model.specs.Maps.{Limits, Map}
use Rattle.batch_model.specs.Batch.{Change, IsChange, IsBatch, FitsNumbers, AreRising, set_change, put_or_removed, after_batch, batch_form, batch_of}

-- a batch that is spelled is read
abbrev pub SpelledBatchesAreRead : Type 0
SpelledBatchesAreRead = (l : Limits) (cs : List Change) → FitsNumbers l → IsBatch l cs → batch_of l (batch_form cs) ≡ Ok cs

-- a batch that is read is spelled so, each byte of it
abbrev pub ReadBatchesAreSpelled : Type 0
ReadBatchesAreSpelled =
    (l : Limits) (bytes : List ℕ) (cs : List Change) → AreBytes bytes → batch_of l bytes ≡ Ok cs → IsBatch l cs × (bytes ≡ batch_form cs)

-- a change that is set leaves the keys in their order and the changes within the limits
abbrev pub SetChangesKeepBatches : Type 0
SetChangesKeepBatches =
    (l : Limits) (cs : List Change) (c : Change) → IsChange l c → AllByRecursion (IsChange l) cs → AreRising None cs → AllByRecursion (IsChange l) (set_change cs c) × AreRising None (set_change cs c)

-- a change that is set counts after all others, so of two on one key the later counts
abbrev pub SetChangesCountLast : Type 0
SetChangesCountLast = (m : Map) (cs : List Change) (c : Change) → AreRising None cs → after_batch m (set_change cs c) ≡ put_or_removed (after_batch m cs) c.key c.value
