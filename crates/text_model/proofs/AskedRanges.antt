-- What a line of a script asks for of a range, and of what changed there.
use Rattle.std.proofs.Common.{◌≡◌, List, ℕ, Result, Ok}
use Rattle.std.specs.Prelude.{IfOk}
use Rattle.text_model.specs.LineKind.{LineKind}
use Rattle.text_model.specs.ReadLine.{Script, Line, RangeOf, ChangesOf, read_line}
use Rattle.text_model.specs.Laws.{IsAskedRange, AskedRangesAreWithin}
use Rattle.text_model.proofs.EachLine.{of_script}

-- what a line asks for is within its bounds
abbrev Says : Line → Type 0
Says (RangeOf root asked pairs bytes) = IsAskedRange asked pairs bytes
Says (ChangesOf from to asked pairs bytes) = IsAskedRange asked pairs bytes
Says other = Unit {0}

line_says : (line : List ℕ) → IfOk (read_line Script line) Says
line_says line = of_script Says (record {
  skip = tt;
  put = λ key value k v. tt;
  del = λ key k. tt;
  commit = tt;
  view = λ place. tt;
  take = λ n. tt;
  close = λ n. tt;
  state = λ n. tt;
  get = λ place key. tt;
  root = λ place. tt;
  prove = λ word key. tt;
  range = λ word asked pairs bytes h. h;
  changes = λ from to asked pairs bytes h. h;
}) line

told : (read : Result Line LineKind) (found : Line) → IfOk read Says → read ≡ Ok found → Says found
told read found says e = rw e at says

pub asked_ranges_are_within : AskedRangesAreWithin
asked_ranges_are_within = (
  λ line root asked pairs bytes h. told (read_line Script line) (RangeOf root asked pairs bytes) (line_says line) h,
  λ line from to asked pairs bytes h. told (read_line Script line) (ChangesOf from to asked pairs bytes) (line_says line) h,
)
