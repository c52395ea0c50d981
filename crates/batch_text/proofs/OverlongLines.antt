-- A line that is too long already stays so, whatever follows.
use Rattle.std.proofs.Common.{◌≡◌, ℕ, Bool, true, not, List, [], ◌∷◌, ◌++◌, length, take, refl, ap, Option, Some, None, arith}
use Rattle.std.specs.Str.Lines.{strip_carriage_return}
use Rattle.std.proofs.lemmas.Bool.{not-false}
use Rattle.std.proofs.lemmas.List.Splits.{slice_split_none}
use Rattle.base_model.specs.Faults.{TellsAlike}
use Rattle.text_model.specs.Lines.{is_newline, is_overlong, settled_lines, lines_within}
use Rattle.text_model.specs.FirstBad.{first_bad}
use Rattle.text_model.specs.Laws.{IsFirstBad}
use Rattle.text_model.proofs.FirstBad.{first_bad_line}
use Rattle.text_model.proofs.SettledLines.{bad_within}
use Rattle.batch_text.specs.Stream.{NoNewline, Stream, Pulls, FirstIsOverlong, BeginsOverlong}

-- the test that only lines of too many bytes fail
abbrev is_short : List ℕ → Bool
is_short line = not (is_overlong line)

-- bytes without a newline that are too long settle a line that is too long
settled_long : (raw : List ℕ) → NoNewline raw → is_overlong (strip_carriage_return raw) ≡ true → first_bad is_short 1 (settled_lines raw) ≡ Some 1
settled_long raw none long = rw (slice_split_none is_newline raw none, long, long) refl

-- where the first bad line by that test has the number 1, the first line is too long
first_long : (lines : List (List ℕ)) → IsFirstBad is_short lines 1 → FirstIsOverlong lines
first_long lines found = by_front found.before found.parts (let p = found.place in omega arith)
  where
    by_front : (before : List (List ℕ)) → lines ≡ before ++ found.line ∷ found.after → length before ≡ 0 → FirstIsOverlong lines
    by_front [] parts none = rw parts (not-false (is_overlong found.line) found.bad)
    by_front (first ∷ before) parts none = absurd (omega arith)

-- a text that begins with such bytes has a first line that is too long, whatever follows
overlong_within : (a : ℕ) (held more : List ℕ) → NoNewline (take a held) → is_overlong (strip_carriage_return (take a held)) ≡ true → FirstIsOverlong (lines_within a (held ++ more))
overlong_within a held more none long =
    let lines = lines_within a (held ++ more) in
    let first : first_bad is_short 1 lines ≡ Some 1 = bad_within is_short (λ line is. ap not is) a held more 1 (settled_long (take a held) none long) in
    first_long lines (((first_bad_line is_short lines).0 1).0 first)

-- the lines ahead begin with one that is too long where the bytes that are held do
pub begins_overlong : (old : Stream) (left left' : Option (List ℕ)) (held : List ℕ) → Pulls old.held left held left' → TellsAlike left left' → NoNewline (take old.allowed held)
    → is_overlong (strip_carriage_return (take old.allowed held)) ≡ true → BeginsOverlong old left
begins_overlong old None left' held pulls tells none long = tt
begins_overlong old (Some l) None held pulls tells none long = let no : ⊥ = cc (tells.1 refl) in absurd no
begins_overlong old (Some l) (Some l') held pulls tells none long = rw (← pulls) (overlong_within old.allowed held l' none long)
