-- The command `root`: what its runs come to, what the first bytes of the input decide, and what its runs promise.
use Rattle.std.specs.Prelude.{◌≡◌, ◌≢◌, ℕ, Bool, true, false, nat_le, List, length, take, Option, Some, None}
use Rattle.base_model.specs.Streams.{AtEnd}
use Rattle.trie_model.specs.Maps.{root}
use Rattle.text_model.specs.Lines.{input_limit, settled_lines, lines_within}
use Rattle.text_model.specs.MapOfLines.{map_of_lines, bad_line}
use Rattle.text_model.specs.Texts.{LimitKind, Input, root_text}
use Rattle.run_model.specs.OutsideThings.{Outside}
use Rattle.run_model.specs.End.{End, Done, BadLine, Limit, Read, Write}
use Rattle.run_model.specs.Outcome.{Outcome, silent, EndsAs, Prints, PrintsPrefix, PrintsNothing, IsUndecided}

-- by the first bad line, if there is one, and whether the input is within its limit
abbrev pub outcome_of : ℕ → List (List ℕ) → Option ℕ → Bool → Outcome
outcome_of w lines (Some n) within = silent (BadLine n)
outcome_of w lines None true = record { end = Done; text = root_text (root w (map_of_lines lines)) }
outcome_of w lines None false = silent (Limit Input)

-- the outcome on a whole input, with tokens of w bits
abbrev pub root_outcome : ℕ → List ℕ → Outcome
root_outcome w bytes = let lines = lines_within input_limit bytes in outcome_of w lines (bad_line lines) (nat_le (length bytes) input_limit)

-- by the first bad line that is settled, if there is one, and whether the first bytes are within the limit of an input
abbrev pub decided_of : Option ℕ → Bool → Option Outcome
decided_of (Some n) within = Some (silent (BadLine n))
decided_of None true = None
decided_of None false = Some (silent (Limit Input))

-- the outcome that the first bytes of an input decide, whatever bytes follow, where they decide one
abbrev pub root_decided : List ℕ → Option Outcome
root_decided front = decided_of (bad_line (settled_lines (take input_limit front))) (nat_le (length front) input_limit)

-- what a run of `root` promises
pub record RootRuns (w : ℕ) (before after : Outside) (end : End) : Type 0 where
  -- the input was read to its end, and the root of the map that its lines make was printed
  pub done : end ≡ Done → EndsAs (root_outcome w) before Done × Prints (root_outcome w) before after × AtEnd after.input.left
  -- with any end a prefix of the outcome's text was printed, and before the end of the work nothing
  pub prefix : PrintsPrefix (root_outcome w) before after
  pub nothing : end ≢ Done → end ≢ Write → PrintsNothing before after
  -- a bad line, a limit or a failed write is told only where the outcome is that
  pub line : (n : ℕ) → end ≡ BadLine n → EndsAs (root_outcome w) before (BadLine n)
  pub limit : (kind : LimitKind) → end ≡ Limit kind → EndsAs (root_outcome w) before (Limit kind) × (kind ≡ Input)
  pub write : end ≡ Write → EndsAs (root_outcome w) before Done
  -- the disk is as it was
  pub disk : after.disk ≡ before.disk
  -- a failed read is told only where the bytes that the input gave decide nothing
  pub undecided : end ≡ Read → IsUndecided root_decided before after
