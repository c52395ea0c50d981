-- Which of the two texts about the program the words of the command line ask for.
use Rattle.std.specs.Prelude.{ℕ, if◌then◌else◌, List, [], ◌∷◌, codes, Option, Some, None}
use Rattle.std.specs.Str.{bytes_eq}

-- the text that a word asks for, of the text for help and the one for the version
abbrev pub word_asked : (help version : List ℕ) → List ℕ → Option (List ℕ)
word_asked help version word =
    if bytes_eq word (codes "--help") then Some help
    else if bytes_eq word (codes "--version") then Some version
    else None

-- the text that the words ask for: only a single word asks for one
abbrev pub asked : (help version : List ℕ) → List (List ℕ) → Option (List ℕ)
asked help version [] = None
asked help version (word ∷ []) = word_asked help version word
asked help version (word ∷ next ∷ words) = None
