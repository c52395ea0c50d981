-- A reading of the lines of an input that makes a map, from line to line.
use Rattle.std.proofs.Common.{false, ◌≡◌, ℕ, ◌+◌, nat_le, List, [], ◌∷◌, ◌++◌, length, map, Option, Some, None, Result, Ok, refl, sym, ◌∙◌, ap, arith}
use Rattle.std.specs.FinMap.{empty, entries, len-entries, len-empty}
use Rattle.std.proofs.lemmas.Bool.{leb-true, leb-false, le-leb, lt-leb}
use Rattle.base_model.specs.Faults.{TellsAlike}
use Rattle.base_model.specs.Bytes.{bytes_cmp}
use Rattle.trie_model.specs.Maps.{Map, digest_entry, map_digests}
use Rattle.text_model.specs.Lines.{input_limit, lines_within}
use Rattle.text_model.specs.LineKind.{LineKind}
use Rattle.text_model.specs.ReadLine.{Batch, Line, read_line, is_line}
use Rattle.text_model.specs.FirstBad.{first_bad}
use Rattle.text_model.specs.MapOfLines.{after_line, after_read, after_lines, map_of_lines}
use Rattle.text_model.proofs.LinesWithin.{overlong_lines_are_bad}
use Rattle.batch_text.specs.Stream.{Stream, Gives, NoMore, Past, FirstIsOverlong, BeginsOverlong}
use Rattle.mdb_tool.specs.MapLines.{Lays, Makes, FirstBad, IsPastLimit}

-- the first bad line of an input that makes a map, where the first line has the number n
abbrev bad_from : ℕ → List (List ℕ) → Option ℕ
bad_from = first_bad (is_line Batch)

-- after some lines, of which the next has the number n and which made the map m, the input comes to what is ahead
abbrev pub Reads : Option (List ℕ) → ℕ → Map → Stream → Option (List ℕ) → Type 0
Reads None n m ahead left = Unit {0}
Reads (Some bytes) n m ahead None = Unit {0}
Reads (Some bytes) n m ahead (Some left) =
    (bad_from 1 (lines_within input_limit bytes) ≡ bad_from n (lines_within ahead.allowed (ahead.held ++ left)))
    × (after_lines m (lines_within ahead.allowed (ahead.held ++ left)) ≡ map_of_lines (lines_within input_limit bytes))
    × (nat_le (length (ahead.held ++ left)) ahead.allowed ≡ nat_le (length bytes) input_limit)

-- the digests so far are those of a map with which the reading goes on
pub record SoFar (start : Option (List ℕ)) (n : ℕ) (digests : List (List ℕ × List ℕ)) (ahead : Stream) (left : Option (List ℕ)) : Type 0 where
  pub made : Map
  pub digests_of : digests ≡ map_digests made
  pub reads : Reads start n made ahead left

no_entries : {A : Type 0} (es : List A) → length es ≡ 0 → es ≡ []
no_entries [] h = refl
no_entries (e ∷ es) h = absurd (omega arith)

-- the empty map has no digests
map_digests-empty : [] ≡ map_digests empty
map_digests-empty = sym (ap (map digest_entry) (no_entries (entries empty) (sym (len-entries empty) ∙ len-empty bytes_cmp (List ℕ))))

reads_start : (left : Option (List ℕ)) (ahead : Stream) → ahead.held ≡ [] → ahead.allowed ≡ input_limit → Reads left 1 empty ahead left
reads_start None ahead held allowed = tt
reads_start (Some bytes) ahead held allowed = rw (held, allowed) (refl, refl, refl)

-- before the first line
pub at_start : (left : Option (List ℕ)) (digests : List (List ℕ × List ℕ)) (ahead : Stream) → digests ≡ [] → ahead.held ≡ [] → ahead.allowed ≡ input_limit → SoFar left 1 digests ahead left
at_start left digests ahead none held allowed = record { made = empty; digests_of = none ∙ map_digests-empty; reads = reads_start left ahead held allowed }

-- a line in the grammar has no part in what is wrong
good_line : (n : ℕ) (line : List ℕ) (read : Line) (lines : List (List ℕ)) → read_line Batch line ≡ Ok read → bad_from n (line ∷ lines) ≡ bad_from (n + 1) lines
good_line n line read lines is = rw is refl

reads_on : (start left left' : Option (List ℕ)) (n : ℕ) (m : Map) (old new : Stream) (read : Line) → TellsAlike start left → Reads start n m old left → Gives old left new left' → read_line Batch new.line ≡ Ok read → Reads start (n + 1) (after_line m read) new left'
reads_on None left left' n m old new read tells so_far gives is = tt
reads_on (Some bytes) left None n m old new read tells so_far gives is = tt
reads_on (Some bytes) None (Some l) n m old new read tells so_far gives is = let no : ⊥ = cc (tells.1 refl) in absurd no
reads_on (Some bytes) (Some k) (Some l) n m old new read tells so_far gives is =
    let ahead = lines_within new.allowed (new.held ++ l) in (
      so_far.0 ∙ ap (bad_from n) gives.0 ∙ good_line n new.line read ahead is,
      ap (λ (r : Result Line LineKind). after_lines (after_read m r) ahead) (sym is) ∙ ap (after_lines m) (sym gives.0) ∙ so_far.1,
      gives.1 ∙ so_far.2,
    )

-- after a line in the grammar
pub goes_on : (start left left' : Option (List ℕ)) (n : ℕ) (digests digests' : List (List ℕ × List ℕ)) (old new : Stream) → TellsAlike start left → SoFar start n digests old left → Gives old left new left' → Lays new.line digests digests' → SoFar start (n + 1) digests' new left'
goes_on start left left' n digests digests' old new tells so_far gives lays = record {
  made = after_line so_far.made lays.read;
  digests_of = lays.laid so_far.made so_far.digests_of;
  reads = reads_on start left left' n so_far.made old new lays.read tells so_far.reads gives lays.is;
}

-- after the last line
pub at_end : (start left : Option (List ℕ)) (n : ℕ) (digests : List (List ℕ × List ℕ)) (old : Stream) → TellsAlike start left → SoFar start n digests old left → NoMore old left → Makes start digests
at_end None left n digests old tells so_far none = tt
at_end (Some bytes) None n digests old tells so_far none = let no : ⊥ = cc (tells.1 refl) in absurd no
at_end (Some bytes) (Some l) n digests old tells so_far none = record {
  good = so_far.reads.0 ∙ ap (bad_from n) none.0;
  within = leb-true (length bytes) input_limit (sym so_far.reads.2 ∙ le-leb (length (old.held ++ l)) old.allowed none.1);
  digests_of = so_far.digests_of ∙ ap map_digests (ap (after_lines so_far.made) (sym none.0) ∙ so_far.reads.1);
}

-- past the limit
pub past_end : (start left : Option (List ℕ)) (n : ℕ) (digests : List (List ℕ × List ℕ)) (old : Stream) → TellsAlike start left → SoFar start n digests old left → Past old left → IsPastLimit start
past_end None left n digests old tells so_far past = tt
past_end (Some bytes) None n digests old tells so_far past = let no : ⊥ = cc (tells.1 refl) in absurd no
past_end (Some bytes) (Some l) n digests old tells so_far past = (
  leb-false (length bytes) input_limit (sym so_far.reads.2 ∙ lt-leb (length (old.held ++ l)) old.allowed past.1),
  so_far.reads.0 ∙ ap (bad_from n) past.0,
)

-- a line that fails the test is the first bad one
fails_first : (n : ℕ) (line : List ℕ) (lines : List (List ℕ)) → is_line Batch line ≡ false → bad_from n (line ∷ lines) ≡ Some n
fails_first n line lines bad = rw bad refl

-- a line that is too long is outside the grammar
first_overlong : (n : ℕ) (lines : List (List ℕ)) → FirstIsOverlong lines → bad_from n lines ≡ Some n
first_overlong n [] h = absurd h
first_overlong n (line ∷ lines) h = fails_first n line lines (overlong_lines_are_bad Batch line h)

-- at a line that is too long
pub at_overlong : (start left : Option (List ℕ)) (n : ℕ) (digests : List (List ℕ × List ℕ)) (old : Stream) → TellsAlike start left → SoFar start n digests old left → BeginsOverlong old left → FirstBad start n
at_overlong None left n digests old tells so_far overlong = tt
at_overlong (Some bytes) None n digests old tells so_far overlong = let no : ⊥ = cc (tells.1 refl) in absurd no
at_overlong (Some bytes) (Some l) n digests old tells so_far overlong = so_far.reads.0 ∙ first_overlong n (lines_within old.allowed (old.held ++ l)) overlong

-- at a line outside the grammar
pub at_bad : (start left left' : Option (List ℕ)) (n : ℕ) (digests : List (List ℕ × List ℕ)) (old new : Stream) → TellsAlike start left → TellsAlike left left' → SoFar start n digests old left → Gives old left new left' → is_line Batch new.line ≡ false → FirstBad start n
at_bad None left left' n digests old new tells later so_far gives bad = tt
at_bad (Some bytes) None left' n digests old new tells later so_far gives bad = let no : ⊥ = cc (tells.1 refl) in absurd no
at_bad (Some bytes) (Some l) None n digests old new tells later so_far gives bad = let no : ⊥ = cc (later.1 refl) in absurd no
at_bad (Some bytes) (Some l) (Some k) n digests old new tells later so_far gives bad =
    so_far.reads.0 ∙ ap (bad_from n) gives.0 ∙ fails_first n new.line (lines_within new.allowed (new.held ++ k)) bad
