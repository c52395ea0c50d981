-- What is wrong with a change that is to be set, and where it goes.
use Rattle.std.specs.Prelude.{◌≡◌, ℕ, ◌<◌, ◌≤◌, nat_lt, if◌then◌else◌, List, length, Option, Some, None, slice_set}
use Rattle.std.specs.List.{insert}
use Rattle.trie_model.specs.Maps.{key_limit, value_limit}
use Rattle.batch_model.specs.Batch.{Change, set_change}
use Rattle.mdb_base.specs.declared.batch.BatchFault.{BatchFault}
use Rattle.mdb_base.specs.declared.batch.BatchFault.TheVariants.{LongKey, LongValue}

abbrev pub change_of : List ℕ → Option (List ℕ) → Change
change_of key value = record { key = key; value = value }

-- a value that is longer than its limit
abbrev pub value_fault : Option (List ℕ) → Option BatchFault
value_fault None = None
value_fault (Some v) = if nat_lt value_limit (length v) then Some (LongValue (length v)) else None

-- a key that is longer than its limit, or else the value
abbrev pub length_fault : List ℕ → Option (List ℕ) → Option BatchFault
length_fault key value = if nat_lt key_limit (length key) then Some (LongKey (length key)) else value_fault value

-- the change of this key stands at this place
pub record IsPlaceOf (cs : List Change) (key : List ℕ) (at : ℕ) : Type 0 where
  pub inside : at < length cs
  pub set : (c : Change) → c.key ≡ key → set_change cs c ≡ slice_set cs at c

-- no change is one of this key, and a new one belongs at this place
pub record IsGapFor (cs : List Change) (key : List ℕ) (at : ℕ) : Type 0 where
  pub inside : at ≤ length cs
  pub set : (c : Change) → c.key ≡ key → set_change cs c ≡ insert cs at c
