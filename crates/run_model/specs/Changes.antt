-- The command `changes`: the proof of what changed between two maps of a store that roots name.
use Rattle.std.specs.Prelude.{ℕ, List, Option, Some, None}
use Rattle.trie_model.specs.Maps.{Map}
use Rattle.range_model.specs.Ranges.{Range}
use Rattle.text_model.specs.Texts.{changes_text}
use Rattle.text_model.specs.Words.{RootWord}
use Rattle.session_model.specs.MapsByRoot.{holds_first, changes_proved}
use Rattle.run_model.specs.OutsideThings.{Outside}
use Rattle.run_model.specs.End.{End, Done, NotHeld}
use Rattle.run_model.specs.Outcome.{Outcome, silent}
use Rattle.run_model.specs.ReadCommands.{ReadRuns}

-- the line of a change proof, where there are maps that it is of
abbrev pub changes_proof_outcome : Option (List ℕ) → Outcome
changes_proof_outcome None = silent NotHeld
changes_proof_outcome (Some bytes) = record { end = Done; text = changes_text bytes }

-- the outcome on a store that stands for this map, and holds no other, with tokens of w bits
abbrev pub changes_outcome : ℕ → RootWord → RootWord → Range → ℕ → ℕ → Map → Outcome
changes_outcome w from to asked pairs bytes m = changes_proof_outcome (changes_proved w (holds_first m).maps from to asked pairs bytes)

-- what a run of `changes` promises
abbrev pub ChangesRuns : RootWord → RootWord → Range → ℕ → ℕ → ℕ → Outside → Outside → End → Type 0
ChangesRuns from to asked pairs bytes w before after end = ReadRuns (changes_outcome w from to asked pairs bytes) w before after end
