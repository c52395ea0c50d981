-- What the first bytes of an input decide of a script.
use Rattle.std.proofs.Common.{◌≡◌, ℕ, suc, ◌+◌, ◌-◌, ◌<◌, Bool, true, false, not, nat_le, cond, List, [], ◌∷◌, ◌++◌, length, take, refl, sym, ap, ◌∙◌, subst, Option, Some, None, Result, Ok, Err, arith, append_assoc, length-append}
use Rattle.std.specs.List.{All, slice_split}
use Rattle.std.specs.Str.Lines.{lines, lines_of_parts, strip_carriage_return}
use Rattle.std.proofs.lemmas.Bool.{leb-true, leb-false, lt-leb}
use Rattle.std.proofs.lemmas.List.{append-nil, take_all}
use Rattle.std.proofs.lemmas.List.Elements.{All-nil, All-cons, All-append}
use Rattle.std.proofs.lemmas.List.Splits.{slice_split_none, slice_split_at}
use Rattle.trie_model.specs.Maps.{Map}
use Rattle.text_model.specs.Lines.{input_limit, is_newline, is_overlong, lines_of_cut, settled_lines, lines_within}
use Rattle.text_model.specs.FirstBad.{first_bad}
use Rattle.text_model.specs.LineKind.{TooLong}
use Rattle.text_model.specs.ReadLine.{Skip, Script, is_comment, line_of_words}
use Rattle.text_model.specs.Texts.{Input}
use Rattle.text_model.specs.Words.{words_of}
use Rattle.text_model.specs.Laws.{IsFirstBad}
use Rattle.text_model.proofs.FirstBad.{bad_first, first_bad_line}
use Rattle.text_model.proofs.LinesWithin.{parts, MakesLines, makes_ended, makes_cut, line_and, settled_bad}
use Rattle.text_model.proofs.SettledLines.{take_over, past_limit}
use Rattle.session_model.specs.Session.{Session, Step, Stop, BadLine, Limit, start, read_step, step}
use Rattle.session_model.specs.Script.{Played, then_play, play, script, decided_of}
use Rattle.session_model.specs.Laws.{DecidedStops}
use Rattle.session_model.proofs.PlayedLines.{play-stop, ended-left, ended-long}

-- ---- lines that are too long

-- one of them stops a script
overlong_stops : (w n : ℕ) (s : Session) (line : List ℕ) (others : List (List ℕ)) → is_overlong line ≡ true → (play w n s (line ∷ others)).stop ≡ Some (BadLine n)
overlong_stops w n s line others long =
    let is : step w n s line ≡ Err (BadLine n) = ap (λ (b : Bool). read_step w n s (cond b (Err TooLong) (cond (is_comment line) (Ok Skip) (line_of_words Script (words_of line))))) long in
    ap (λ (p : Played). p.stop) (play-stop w n s line others (BadLine n) is)

-- lines of which the first is too long
record BeginsOverlong (ls : List (List ℕ)) : Type 0 where
  line : List ℕ
  others : List (List ℕ)
  is : ls ≡ line ∷ others
  long : is_overlong line ≡ true

abbrev is_short : List ℕ → Bool
is_short line = not (is_overlong line)

not_short : (b : Bool) → not b ≡ false → b ≡ true
not_short true h = refl
not_short false h = sym h

first_is_long : (ls : List (List ℕ)) → IsFirstBad is_short ls 1 → BeginsOverlong ls
first_is_long ls found = go found.before found.parts found.place
  where
    go : (before : List (List ℕ)) → ls ≡ before ++ found.line ∷ found.after → 1 ≡ length before + 1 → BeginsOverlong ls
    go [] is place = record { line = found.line; others = found.after; is = is; long = not_short (is_overlong found.line) found.bad }
    go (first ∷ before) is place = let no : ⊥ = omega arith in absurd no

-- a line that is too long already begins the lines of the whole, whatever follows
long_begins : (f : List (List ℕ) → List (List ℕ)) → MakesLines f → (front rest line : List ℕ) → settled_lines front ≡ line ∷ [] → is_overlong line ≡ true → BeginsOverlong (f (slice_split is_newline (front ++ rest)))
long_begins f makes front rest line is long =
    let bad : first_bad is_short 1 (settled_lines front) ≡ Some 1 = ap (first_bad is_short 1) is ∙ bad_first is_short 1 line [] (ap not long) in
    let ls = f (slice_split is_newline (front ++ rest)) in
    first_is_long ls (((first_bad_line is_short ls).0 1).0 (settled_bad is_short (λ l h. ap not h) f makes 1 front rest bad))

-- ---- lines that are settled

abbrev IsInLine : ℕ → Type 0
IsInLine b = is_newline b ≡ false

-- no newline is among bytes
abbrev HasNoNewline : List ℕ → Type 0
HasNoNewline = All IsInLine

-- where all bytes are one line
stops_in_line : (w : ℕ) (f : List (List ℕ) → List (List ℕ)) → MakesLines f → (n : ℕ) (s : Session) (stop : Stop) (front rest : List ℕ) → HasNoNewline front
    → (play w n s (settled_lines front)).stop ≡ Some stop → (play w n s (f (slice_split is_newline (front ++ rest)))).stop ≡ Some stop
stops_in_line w f makes n s stop front rest one = rw (slice_split_none is_newline front one) (go (is_overlong (strip_carriage_return front)) refl)
  where
    go : (b : Bool) → is_overlong (strip_carriage_return front) ≡ b → (play w n s (cond b (strip_carriage_return front ∷ []) [])).stop ≡ Some stop → (play w n s (f (slice_split is_newline (front ++ rest)))).stop ≡ Some stop
    go false short h = let no : ⊥ = cc h in absurd no
    go true long h =
        let only : settled_lines front ≡ strip_carriage_return front ∷ [] = ap lines_of_cut (slice_split_none is_newline front one) ∙ ap (λ (b : Bool). cond b (strip_carriage_return front ∷ []) []) long in
        let begins = long_begins f makes front rest (strip_carriage_return front) only long in
        ap (λ (ls : List (List ℕ)). (play w n s ls).stop) begins.is
        ∙ overlong_stops w n s begins.line begins.others begins.long
        ∙ sym (overlong_stops w n s (strip_carriage_return front) [] long)
        ∙ h

-- lines that come to a stop after a line, where others do so that go on as they do
stops_behind : (w n : ℕ) (s : Session) (stop : Stop) (line : List ℕ) (xs ys : List (List ℕ)) → ((t : Session) → (play w (suc n) t xs).stop ≡ Some stop → (play w (suc n) t ys).stop ≡ Some stop)
    → (play w n s (line ∷ xs)).stop ≡ Some stop → (play w n s (line ∷ ys)).stop ≡ Some stop
stops_behind w n s stop line xs ys later = go (step w n s line)
  where
    go : (r : Result (Session × Step) Stop) → (then_play s r (λ (t : Session). play w (suc n) t xs)).stop ≡ Some stop → (then_play s r (λ (t : Session). play w (suc n) t ys)).stop ≡ Some stop
    go (Err x) h = h
    go (Ok next) h = later next.0 h

-- bytes up to a newline are a line
line_in_front : (f : List (List ℕ) → List (List ℕ)) → MakesLines f → (begun : List ℕ) (b : ℕ) (more : List ℕ) → HasNoNewline begun → is_newline b ≡ true
    → f (slice_split is_newline (begun ++ b ∷ more)) ≡ strip_carriage_return begun ∷ f (slice_split is_newline more)
line_in_front f makes begun b more one ends = ap f (slice_split_at is_newline begun b more one ends) ∙ line_and f makes begun (slice_split is_newline more) (parts more)

-- a stop at lines that the first bytes settle is one of the whole
settled_stops : (w : ℕ) (f : List (List ℕ) → List (List ℕ)) → MakesLines f → (stop : Stop) (rest front begun : List ℕ) (n : ℕ) (s : Session) → HasNoNewline begun
    → (play w n s (settled_lines (begun ++ front))).stop ≡ Some stop → (play w n s (f (slice_split is_newline ((begun ++ front) ++ rest)))).stop ≡ Some stop
settled_stops w f makes stop rest [] begun n s one = rw (append-nil begun) (stops_in_line w f makes n s stop begun rest one)
settled_stops w f makes stop rest (b ∷ bs) begun n s one = go (is_newline b) refl (settled_stops w f makes stop rest bs)
  where
    Stays : List ℕ → Type 0
    Stays text = (play w n s (settled_lines text)).stop ≡ Some stop → (play w n s (f (slice_split is_newline (text ++ rest)))).stop ≡ Some stop

    go : (v : Bool) → is_newline b ≡ v
        → ((before : List ℕ) (k : ℕ) (t : Session) → HasNoNewline before → (play w k t (settled_lines (before ++ bs))).stop ≡ Some stop → (play w k t (f (slice_split is_newline ((before ++ bs) ++ rest)))).stop ≡ Some stop)
        → (play w n s (settled_lines (begun ++ b ∷ bs))).stop ≡ Some stop → (play w n s (f (slice_split is_newline ((begun ++ b ∷ bs) ++ rest)))).stop ≡ Some stop
    go true ends later h =
        let settled = line_in_front lines_of_cut makes_cut begun b bs one ends in
        let whole = ap (λ (text : List ℕ). f (slice_split is_newline text)) (append_assoc begun (b ∷ bs) rest) ∙ line_in_front f makes begun b (bs ++ rest) one ends in
        let later_lines = λ (t : Session). later [] (suc n) t (All-nil IsInLine) in
        ap (λ (ls : List (List ℕ)). (play w n s ls).stop) whole
        ∙ stops_behind w n s stop (strip_carriage_return begun) (settled_lines bs) (f (slice_split is_newline (bs ++ rest))) later_lines
        (ap (λ (ls : List (List ℕ)). (play w n s ls).stop) (sym settled) ∙ h)
    go false goes later h = subst Stays (append_assoc begun (b ∷ []) bs) (later (begun ++ b ∷ []) n s (All-append IsInLine begun (b ∷ []) one (All-cons IsInLine b [] goes (All-nil IsInLine)))) h

-- ---- what is decided

-- a stop that is settled within the limit is one of the lines within it, whatever follows
pub stops_within : (w n : ℕ) (s : Session) (limit : ℕ) (front rest : List ℕ) (stop : Stop) → (play w n s (settled_lines (take limit front))).stop ≡ Some stop → (play w n s (lines_within limit (front ++ rest))).stop ≡ Some stop
stops_within w n s limit front rest stop h = go (nat_le (length (front ++ rest)) limit) refl
  where
    settled : (f : List (List ℕ) → List (List ℕ)) → MakesLines f → (more : List ℕ) → (play w n s (f (slice_split is_newline (take limit front ++ more)))).stop ≡ Some stop
    settled f makes more = settled_stops w f makes stop more (take limit front) [] n s (All-nil IsInLine) h

    go : (b : Bool) → nat_le (length (front ++ rest)) limit ≡ b → (play w n s (cond b (lines (front ++ rest)) (settled_lines (take limit (front ++ rest))))).stop ≡ Some stop
    go true is =
        let all : take limit front ≡ front = take_all limit front (let le = leb-true (length (front ++ rest)) limit is in omega (arith, length-append front rest)) in
        ap (λ (text : List ℕ). (play w n s (lines (text ++ rest))).stop) (sym all) ∙ settled lines_of_parts makes_ended rest
    go false is =
        ap (λ (text : List ℕ). (play w n s (settled_lines text)).stop) (take_over limit front rest)
        ∙ settled lines_of_cut makes_cut (take (limit - length front) rest)

-- past the limit a script stops there at the latest
past_stops : (w : ℕ) (m : Map) (front rest : List ℕ) → (play w 1 (start m) (settled_lines (take input_limit front))).stop ≡ None → nat_le (length front) input_limit ≡ false → (script w m (front ++ rest)).stop ≡ Some (Limit Input)
past_stops w m front rest none long =
    let lt : input_limit < length front = leb-false (length front) input_limit long in
    let past : nat_le (length (front ++ rest)) input_limit ≡ false = lt-leb (length (front ++ rest)) input_limit (omega (arith, length-append front rest)) in
    let done = ap (λ (ls : List (List ℕ)). (play w 1 (start m) ls).stop) (past_limit input_limit front rest lt) ∙ none in
    let p = play w 1 (start m) (lines_within input_limit (front ++ rest)) in
    ap (λ (q : Played). q.stop) (ended-long w p (nat_le (length (front ++ rest)) input_limit) done past)

-- what the first bytes of an input decide, the whole input does not change
pub decided_stops : DecidedStops
decided_stops w m front rest stop = go (play w 1 (start m) (settled_lines (take input_limit front))).stop (nat_le (length front) input_limit) refl refl
  where
    go : (o : Option Stop) (within : Bool) → (play w 1 (start m) (settled_lines (take input_limit front))).stop ≡ o → nat_le (length front) input_limit ≡ within → decided_of o within ≡ Some stop → (script w m (front ++ rest)).stop ≡ Some stop
    go (Some x) within is le h =
        let p = play w 1 (start m) (lines_within input_limit (front ++ rest)) in
        let left = stops_within w 1 (start m) input_limit front rest stop (is ∙ h) in
        ap (λ (q : Played). q.stop) (ended-left w p (nat_le (length (front ++ rest)) input_limit) stop left) ∙ left
    go None true is le h = let no : ⊥ = cc h in absurd no
    go None false is le h = past_stops w m front rest is le ∙ h
