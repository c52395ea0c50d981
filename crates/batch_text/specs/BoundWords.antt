-- The bounds of a range, as they are read.
use Rattle.std.specs.Prelude.{ℕ, ◌≤◌, List, length, Option, IfSome}
use Rattle.base_model.specs.Bytes.{AreBytes}
use Rattle.trie_model.specs.Maps.{limits}
use Rattle.range_model.specs.Ranges.{bound_limit}

-- bytes, no more of them than a bound may have
pub record IsShort (bytes : List ℕ) : Type 0 where
  pub are_bytes : AreBytes bytes
  pub short : length bytes ≤ bound_limit limits

-- so a bound is, where there is one
abbrev pub IsBound : Option (List ℕ) → Type 0
IsBound bound = IfSome bound IsShort
