-- What the lines of an input make of a map, where its source told them.
use Rattle.std.specs.Prelude.{ℕ, ◌<◌, ◌≤◌, ◌≡◌, List, length, Option, Some, None, Ok, IfSome}
use Rattle.mdb_base.specs.declared.faults.LimitKind.TheVariants.{Input}
use Rattle.mdb_tool.specs.declared.map_lines.MapFault.{MapFault}
use Rattle.mdb_tool.specs.declared.map_lines.MapFault.TheVariants.{Line as AtLine, Read as AtRead, Limit as AtLimit, NoMemory as AtMemory}
use Rattle.mdb_tool.specs.declared.status.Status.{Status}
use Rattle.mdb_tool.specs.declared.status.Status.TheVariants.{BadLine, Limit, Read, NoMemory}
use Rattle.trie_model.specs.Maps.{Map, map_digests}
use Rattle.text_model.specs.Lines.{input_limit, lines_within}
use Rattle.text_model.specs.ReadLine.{Batch, Line, read_line, is_line}
use Rattle.text_model.specs.MapOfLines.{after_line, map_of_lines, bad_line}
use Rattle.batch_text.specs.PassedLines.{PassSoFar}

-- a line was read, and laid on the digests of a map
pub record Lays (line : List ℕ) (old new : List (List ℕ × List ℕ)) : Type 0 where
  pub read : Line
  pub is : read_line Batch line ≡ Ok read
  pub laid : (m : Map) → old ≡ map_digests m → new ≡ map_digests (after_line m read)

-- every line is in the grammar, the input is within its limit, and these are the digests of the map that the lines make
pub record MakesMap (bytes : List ℕ) (digests : List (List ℕ × List ℕ)) : Type 0 where
  pub good : bad_line (lines_within input_limit bytes) ≡ None
  pub within : length bytes ≤ input_limit
  pub digests_of : digests ≡ map_digests (map_of_lines (lines_within input_limit bytes))

abbrev pub Makes : Option (List ℕ) → List (List ℕ × List ℕ) → Type 0
Makes left digests = IfSome left (λ bytes. MakesMap bytes digests)

-- the line of this number is the first outside the grammar
abbrev pub FirstBad : Option (List ℕ) → ℕ → Type 0
FirstBad left n = IfSome left (λ bytes. bad_line (lines_within input_limit bytes) ≡ Some n)

-- the input goes past its limit, and every line within it is in the grammar
abbrev pub IsPastLimit : Option (List ℕ) → Type 0
IsPastLimit left = IfSome left (λ bytes. (input_limit < length bytes) × (bad_line (lines_within input_limit bytes) ≡ None))

-- the bytes that the source gave are within the limit, and every line that they settle is in the grammar
abbrev pub GoodSoFar : (left left' : Option (List ℕ)) → Type 0
GoodSoFar left left' = PassSoFar (is_line Batch) left left'

-- the status with which a run ends where its lines make no map
abbrev pub status_of_fault : MapFault → Status
status_of_fault (AtLine number) = BadLine number
status_of_fault AtRead = Read
status_of_fault AtLimit = Limit Input
status_of_fault AtMemory = NoMemory
