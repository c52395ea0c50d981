-- What a source gave of an input of which every line passed so far.
use Rattle.std.specs.Prelude.{◌≡◌, ℕ, ◌≤◌, Bool, List, ◌++◌, length, Option, None, IfSome}
use Rattle.text_model.specs.FirstBad.{first_bad}
use Rattle.text_model.specs.Lines.{input_limit, settled_lines}

-- the bytes that the source gave are within the limit, and every line that they settle passes the test
abbrev pub PassSoFar : (List ℕ → Bool) → (left left' : Option (List ℕ)) → Type 0
PassSoFar good left left' = IfSome left (λ bytes. IfSome left' (λ rest. (given : List ℕ) × (bytes ≡ given ++ rest) × (length given ≤ input_limit) × (first_bad good 1 (settled_lines given) ≡ None)))
