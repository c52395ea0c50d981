-- The folder that the words name.
use Rattle.std.specs.Prelude.{ℕ, if◌then◌else◌, List, [], ◌∷◌, codes, Option, Some, None}
use Rattle.std.specs.Str.{bytes_eq}

-- word 1, but for `-`, which names no folder
abbrev pub folder_of : List (List ℕ) → Option (List ℕ)
folder_of [] = None
folder_of (word ∷ words) = if bytes_eq word (codes "-") then None else Some word
