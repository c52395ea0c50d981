-- The command `get`: the value of a key in a store.
use Rattle.std.specs.Prelude.{ℕ, List}
use Rattle.std.specs.FinMap as map_of
use Rattle.trie_model.specs.Maps.{Map}
use Rattle.text_model.specs.Texts.{value_text}
use Rattle.run_model.specs.OutsideThings.{Outside}
use Rattle.run_model.specs.End.{End, Done}
use Rattle.run_model.specs.Outcome.{Outcome}
use Rattle.run_model.specs.ReadCommands.{ReadRuns}

-- the outcome on a store that stands for this map: the value, or that there is none
abbrev pub get_outcome : List ℕ → Map → Outcome
get_outcome key m = record { end = Done; text = value_text (map_of.get m key) }

-- what a run of `get` promises
abbrev pub GetRuns : List ℕ → ℕ → Outside → Outside → End → Type 0
GetRuns key w before after end = ReadRuns (get_outcome key) w before after end
