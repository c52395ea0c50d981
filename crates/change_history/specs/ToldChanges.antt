-- What is told of changes, and of the way back.
use Rattle.std.specs.Prelude.{◌≡◌, ℕ, zero, suc, ◌+◌, Bool, true, false, ◌&&◌, nat_lt, nat_le, List, [], ◌∷◌, Result, Ok, Err, Option, Some, None, slice_get}
use Rattle.trie_model.specs.Maps.{Map}
use Rattle.batch_model.specs.Batch.{Change, after_batch}
use Rattle.proof_model.specs.TakenEntries.{taken, is_cut}
use Rattle.history_model.specs.Changes.{change_size, changes}
use Rattle.history_model.specs.Between.{ChangesRefusal}
use Rattle.history_model.specs.Between as words
use Rattle.range_model.specs.Ranges.{Range}
use Rattle.change_history.specs.Histories.{HistoryState, Recalls, held_by}
use Rattle.change_history.specs.NetChanges.{map_at}
use Rattle.change_history.specs.declared.fault.HistoryFault.{HistoryFault}
use Rattle.change_history.specs.declared.fault.HistoryFault.TheVariants as faults
use Rattle.change_history.specs.declared.telling.Taken.{Taken}

-- whether an entry of a size is taken behind others that have used some of z bytes, where n entries are allowed
abbrev pub fits : ℕ → ℕ → ℕ → ℕ → ℕ → Bool
fits zero used size n z = true
fits (suc others) used size n z = nat_lt (suc others) n && nat_le (used + size) z

-- these are taken of all changes, where n of them and z bytes are allowed, and it is told whether changes remain
pub record IsTaken (n z : ℕ) (all : List Change) (t : Taken) : Type 0 where
  pub listed : t.changes.items ≡ taken change_size n z all
  pub known : t.cut ≡ is_cut change_size n z all

-- what is taken of the changes in a range between two maps of a history, by their places
abbrev pub AreListed : HistoryState → Range → ℕ → ℕ → ℕ → ℕ → Taken → Type 0
AreListed h r former later n z t = (w : ℕ) (maps : List Map) → Recalls w h maps → IsTaken n z (changes (map_at (held_by h maps) former) (map_at (held_by h maps) later) r) t

-- a refusal is told as such, and takes no memory
abbrev pub IsRefusal : HistoryFault → ChangesRefusal → Type 0
IsRefusal faults.NoEnd r = r ≡ words.NoEnd
IsRefusal faults.NoStart r = r ≡ words.NoStart
IsRefusal faults.NoMemory r = ⊥

-- want of memory comes in the place of changes alone
abbrev pub Tells : ℕ → ℕ → Result (List Change) ChangesRefusal → Result Taken HistoryFault → Type 0
Tells n z (Ok all) (Ok t) = IsTaken n z all t
Tells n z (Ok all) (Err fault) = fault ≡ faults.NoMemory
Tells n z (Err refusal) (Ok t) = ⊥
Tells n z (Err refusal) (Err fault) = IsRefusal fault refusal

-- a batch leads from the first of some maps to the first of others; where there are none, that is told
abbrev pub LeadsBack : List Map → List Map → Result (List Change) HistoryFault → Type 0
LeadsBack maps [] result = result ≡ Err faults.NoEnd
LeadsBack maps (target ∷ ms) (Err fault) = fault ≡ faults.NoMemory
LeadsBack [] (target ∷ ms) (Ok batch) = ⊥
LeadsBack (now ∷ maps) (target ∷ ms) (Ok batch) = after_batch now batch ≡ target

-- ---- what is told by the roots alone

-- NoEnd tells that the root at which an answer ends is not kept, and any other answer that it is
abbrev pub TellsEnd : {A : Type 0} → Bool → Result A HistoryFault → Type 0
TellsEnd kept (Ok x) = kept ≡ true
TellsEnd kept (Err faults.NoEnd) = kept ≡ false
TellsEnd kept (Err faults.NoStart) = kept ≡ true
TellsEnd kept (Err faults.NoMemory) = kept ≡ true

-- either fault tells that the root from which an answer starts is not kept at or behind the one at which it ends
abbrev pub TellsStart : {A : Type 0} → Bool → Result A HistoryFault → Type 0
TellsStart kept (Ok x) = kept ≡ true
TellsStart kept (Err faults.NoEnd) = kept ≡ false
TellsStart kept (Err faults.NoStart) = kept ≡ false
TellsStart kept (Err faults.NoMemory) = kept ≡ true
