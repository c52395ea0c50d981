-- The map that lines make.
use Rattle.std.specs.Prelude.{ℕ, List, [], ◌∷◌, Option, Result, Ok, Err}
use Rattle.std.specs.FinMap as map_of
use Rattle.trie_model.specs.Maps.{Map}
use Rattle.text_model.specs.LineKind.{LineKind}
use Rattle.text_model.specs.ReadLine.{Batch, Line, Put, Del, read_line, is_line}
use Rattle.text_model.specs.FirstBad.{first_bad}

-- a map after a line: a later value at a key replaces an earlier one, and deleting a key that isn't there changes nothing, nor does any other line
abbrev pub after_line : Map → Line → Map
after_line m (Put key value) = map_of.insert m key value
after_line m (Del key) = map_of.remove m key
after_line m other = m

-- a line that is not understood leaves a map as it is
abbrev pub after_read : Map → Result Line LineKind → Map
after_read m (Ok line) = after_line m line
after_read m (Err kind) = m

-- a map after lines
abbrev pub after_lines : Map → List (List ℕ) → Map
after_lines m [] = m
after_lines m (line ∷ lines) = after_lines (after_read m (read_line Batch line)) lines

-- the map that the lines of an input make
abbrev pub map_of_lines : List (List ℕ) → Map
map_of_lines lines = after_lines map_of.empty lines

-- the number of the first of these lines that is not understood
abbrev pub bad_line : List (List ℕ) → Option ℕ
bad_line lines = first_bad (is_line Batch) 1 lines
