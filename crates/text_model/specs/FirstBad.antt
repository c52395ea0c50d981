-- The first line of an input of which something is told, and the first bad line by any test that tells which lines are good.
use Rattle.std.specs.Prelude.{ℕ, ◌+◌, Bool, if◌then◌else◌, List, [], ◌∷◌, Option, Some, None}
use Rattle.std.specs.Option.{option_or}

-- what is told of the first line of which something is told, by its number and its bytes, where the first line has the number n
abbrev pub first_told : {X : Type 0} → (ℕ → List ℕ → Option X) → ℕ → List (List ℕ) → Option X
first_told tells n [] = None
first_told tells n (line ∷ lines) = option_or (tells n line) (first_told tells (n + 1) lines)

-- the number of the first line that fails a test, where the first line has the number n
abbrev pub first_bad : (List ℕ → Bool) → ℕ → List (List ℕ) → Option ℕ
first_bad good n [] = None
first_bad good n (line ∷ lines) = if good line then first_bad good (n + 1) lines else Some n
