-- The lines of an input. A line ends at a newline, 0a; one carriage return, 0d, before it is no part of the
-- line. The last line may lack its end, and then a carriage return at its end is part of it.
use Rattle.std.specs.Prelude.{ℕ, ◌≡◌, ◌⊎◌, ◌==◌, Bool, if◌then◌else◌, nat_lt, nat_le, List, [], ◌∷◌, ◌++◌, length, take}
use Rattle.std.specs.List.{slice_split}
use Rattle.std.specs.Str.Lines.{lines, strip_carriage_return}

-- the most bytes of an input that are read
abbrev pub input_limit : ℕ
input_limit = 1073741824

-- the most bytes that a line may have, without its end
abbrev pub line_limit : ℕ
line_limit = 20000000

abbrev pub is_newline : ℕ → Bool
is_newline b = b == 10

-- whether a line is too long
abbrev pub is_overlong : List ℕ → Bool
is_overlong line = nat_lt line_limit (length line)

-- a line whose end doesn't stand among the bytes that are read counts where it is too long already, even if a newline follows
abbrev pub cut_line : List ℕ → List (List ℕ)
cut_line part = if is_overlong (strip_carriage_return part) then strip_carriage_return part ∷ [] else []

-- the lines in the parts between newlines, where more follows the last part
abbrev pub lines_of_cut : List (List ℕ) → List (List ℕ)
lines_of_cut [] = []
lines_of_cut (part ∷ []) = cut_line part
lines_of_cut (part ∷ next ∷ parts) = strip_carriage_return part ∷ lines_of_cut (next ∷ parts)

-- the lines that the first bytes of an input settle, whatever follows: those whose end stands there, and one that is too long already
abbrev pub settled_lines : List ℕ → List (List ℕ)
settled_lines front = lines_of_cut (slice_split is_newline front)

-- the lines of an input of which at most so many bytes are read: all its lines, or those that are settled within that many bytes
abbrev pub lines_within : ℕ → List ℕ → List (List ℕ)
lines_within limit bytes = if nat_le (length bytes) limit then lines bytes else settled_lines (take limit bytes)

-- no bytes, or bytes whose last one is a newline
abbrev pub AreWholeLines : List ℕ → Type 0
AreWholeLines bytes = (bytes ≡ []) ⊎ ((begun : List ℕ) × (bytes ≡ begun ++ 10 ∷ []))
