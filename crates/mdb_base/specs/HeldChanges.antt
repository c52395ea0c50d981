-- The changes that a batch holds, and how many bytes they take.
use Rattle.std.specs.Prelude.{◌≡◌, ℕ, ◌<◌, ◌^◌, List, length, None}
use Rattle.std.specs.List.{flat_map, AllByRecursion}
use Rattle.trie_model.specs.Maps.{limits}
use Rattle.batch_model.specs.Batch.{Change, IsChange, AreRising, change_form}

-- changes within the limits, with keys that strictly increase, and the bytes of their spellings
pub record AreHeld (cs : List Change) (n : ℕ) : Type 0 where
  pub changes : AllByRecursion (IsChange limits) cs
  pub rising : AreRising None cs
  pub bytes : n ≡ length (flat_map change_form cs)
  pub few : n < 2 ^ 63
