-- What changed from one held map to a later one, by their roots.
use Rattle.std.specs.Prelude.{ℕ, List, [], ◌∷◌, Result, Ok, Err}
use Rattle.trie_model.specs.Maps.{Map}
use Rattle.range_model.specs.Ranges.{Range}
use Rattle.batch_model.specs.Batch.{Change}
use Rattle.history_model.specs.Changes.{changes}
use Rattle.history_model.specs.Held.{until_root}

-- why no changes are told
pub data ChangesRefusal : Type 0 where
  -- no map that is held has the root at which they end
  NoEnd : ChangesRefusal
  -- neither that map nor one before it has the root from which they start
  NoStart : ChangesRefusal

-- the changes from the first of some maps to a later one
abbrev pub changes_since : List Map → Map → Range → Result (List Change) ChangesRefusal
changes_since [] later r = Err NoStart
changes_since (former ∷ ms) later r = Ok (changes former later r)

-- the changes from the map with this root to the first of these maps
abbrev pub changes_from : ℕ → List Map → List ℕ → Range → Result (List Change) ChangesRefusal
changes_from w [] from r = Err NoEnd
changes_from w (later ∷ ms) from r = changes_since (until_root w (later ∷ ms) from) later r

-- the changes in a range from the map of one root to that of another. The later root is looked up first, and then the
-- former one from that map back
abbrev pub changes_between : ℕ → List Map → List ℕ → List ℕ → Range → Result (List Change) ChangesRefusal
changes_between w maps from to r = changes_from w (until_root w maps to) from r
