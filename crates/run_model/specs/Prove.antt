-- The command `prove`: the proof of a key, in the map of a store that a root names.
use Rattle.std.specs.Prelude.{ℕ, List, Option, Some, None}
use Rattle.trie_model.specs.Maps.{Map}
use Rattle.text_model.specs.Texts.{proof_text}
use Rattle.text_model.specs.Words.{RootWord}
use Rattle.session_model.specs.MapsByRoot.{holds_first, proved}
use Rattle.run_model.specs.OutsideThings.{Outside}
use Rattle.run_model.specs.End.{End, Done, NotHeld}
use Rattle.run_model.specs.Outcome.{Outcome, silent}
use Rattle.run_model.specs.ReadCommands.{ReadRuns}

-- the line of a proof, where there is a map that it is of
abbrev pub proof_outcome : Option (List ℕ) → Outcome
proof_outcome None = silent NotHeld
proof_outcome (Some bytes) = record { end = Done; text = proof_text bytes }

-- the outcome on a store that stands for this map, and holds no other, with tokens of w bits
abbrev pub prove_outcome : ℕ → RootWord → List ℕ → Map → Outcome
prove_outcome w root key m = proof_outcome (proved w (holds_first m).maps root key)

-- what a run of `prove` promises
abbrev pub ProveRuns : RootWord → List ℕ → ℕ → Outside → Outside → End → Type 0
ProveRuns root key w before after end = ReadRuns (prove_outcome w root key) w before after end
