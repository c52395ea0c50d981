-- What a line of an input of proofs says of one.
use Rattle.std.proofs.Common.{◌≡◌, List, ℕ, Result, Ok}
use Rattle.std.specs.Prelude.{IfOk}
use Rattle.text_model.specs.LineKind.{LineKind}
use Rattle.text_model.specs.ReadLine.{Verify, Line, Point, VerifyRange, VerifyChanges, read_line}
use Rattle.text_model.specs.Laws.{IsPointLine, PointLinesAreWithin, IsRangeLine, RangeLinesAreWithin}
use Rattle.text_model.proofs.EachLine.{of_verify}

-- what a line says of a proof is within its bounds
abbrev Says : Line → Type 0
Says (Point root key proof) = IsPointLine root key proof
Says (VerifyRange root asked proof) = IsRangeLine root asked proof
Says (VerifyChanges root asked proof) = IsRangeLine root asked proof
Says other = Unit {0}

line_says : (line : List ℕ) → IfOk (read_line Verify line) Says
line_says line = of_verify Says (record { skip = tt; point = λ root key proof h. h; range = λ root asked proof h. h; changes = λ root asked proof h. h }) line

told : (read : Result Line LineKind) (found : Line) → IfOk read Says → read ≡ Ok found → Says found
told read found says e = rw e at says

pub point_lines_are_within : PointLinesAreWithin
point_lines_are_within line root key proof h = told (read_line Verify line) (Point root key proof) (line_says line) h

pub range_lines_are_within : RangeLinesAreWithin
range_lines_are_within = (
  λ line root asked proof h. told (read_line Verify line) (VerifyRange root asked proof) (line_says line) h,
  λ line root asked proof h. told (read_line Verify line) (VerifyChanges root asked proof) (line_says line) h,
)
