-- The command `range`: the proof of a range, in the map of a store that a root names.
use Rattle.std.specs.Prelude.{ℕ, List, Option, Some, None}
use Rattle.trie_model.specs.Maps.{Map}
use Rattle.range_model.specs.Ranges.{Range}
use Rattle.text_model.specs.Texts.{range_text}
use Rattle.text_model.specs.Words.{RootWord}
use Rattle.session_model.specs.MapsByRoot.{holds_first, range_proved}
use Rattle.run_model.specs.OutsideThings.{Outside}
use Rattle.run_model.specs.End.{End, Done, NotHeld}
use Rattle.run_model.specs.Outcome.{Outcome, silent}
use Rattle.run_model.specs.ReadCommands.{ReadRuns}

-- the line of a range proof, where there is a map that it is of
abbrev pub range_proof_outcome : Option (List ℕ) → Outcome
range_proof_outcome None = silent NotHeld
range_proof_outcome (Some bytes) = record { end = Done; text = range_text bytes }

-- the outcome on a store that stands for this map, and holds no other, with tokens of w bits
abbrev pub range_outcome : ℕ → RootWord → Range → ℕ → ℕ → Map → Outcome
range_outcome w root asked pairs bytes m = range_proof_outcome (range_proved w (holds_first m).maps root asked pairs bytes)

-- what a run of `range` promises
abbrev pub RangeRuns : RootWord → Range → ℕ → ℕ → ℕ → Outside → Outside → End → Type 0
RangeRuns root asked pairs bytes w before after end = ReadRuns (range_outcome w root asked pairs bytes) w before after end
