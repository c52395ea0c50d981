-- What the bytes that lines have used of an input settle, from line to line.
use Rattle.std.proofs.Common.{◌≡◌, ◌⊎◌, ℕ, ◌+◌, ◌≤◌, Bool, true, false, List, [], ◌∷◌, ◌++◌, length, Some, None, Result, Ok, Err, refl, sym, ap, ◌∙◌, inl, inr, arith, append_assoc, length-append}
use Rattle.std.specs.Str.Lines.{strip_carriage_return}
use Rattle.std.proofs.lemmas.Bool.{le-leb}
use Rattle.std.proofs.lemmas.Bool.Decides.{nat_tests}
use Rattle.std.proofs.lemmas.List.{append-nil, take_all}
use Rattle.std.proofs.lemmas.List.Splits.{slice_split_none}
use Rattle.trie_model.specs.Maps.{Map}
use Rattle.text_model.specs.Lines.{input_limit, is_newline, is_overlong, settled_lines, AreWholeLines}
use Rattle.text_model.specs.LineKind.{LineKind}
use Rattle.text_model.specs.ReadLine.{Line, Script, read_line}
use Rattle.text_model.proofs.LinesWithin.{strip_most}
use Rattle.text_model.proofs.SettledLines.{settled_on}
use Rattle.session_model.specs.Session.{Session, Step, start, read_step, step}
use Rattle.session_model.specs.Script.{play, decided}
use Rattle.run_model.specs.Script.{DecideNothing}
use Rattle.batch_text.specs.Stream.{Stream, NoNewline, Pulls, IsLineOf, TakesLine, SettlesNothing}

-- what bytes settle decides nothing
abbrev pub Undecided : ℕ → Map → List ℕ → Type 0
Undecided w m used = (play w 1 (start m) (settled_lines used)).stop ≡ None

-- whole lines, and these are they; or nothing is ahead
pub record IsFront (w : ℕ) (m : Map) (front : List (List ℕ)) (used ahead : List ℕ) : Type 0 where
  pub settled : Undecided w m used
  pub ends : (AreWholeLines used × (settled_lines used ≡ front)) ⊎ (ahead ≡ [])

-- an input is such bytes, which were used, and what is ahead
pub record Used (w : ℕ) (m : Map) (front : List (List ℕ)) (bytes : List ℕ) (ahead : Stream) (left : List ℕ) : Type 0 where
  pub used : List ℕ
  pub is : bytes ≡ used ++ (ahead.held ++ left)
  pub size : length used + ahead.allowed ≡ input_limit
  pub is_front : IsFront w m front used (ahead.held ++ left)

-- ---- bytes that settle nothing
-- a line that is not too long, without its end
settles_none : (raw : List ℕ) → NoNewline raw → is_overlong (strip_carriage_return raw) ≡ false → settled_lines raw ≡ []
settles_none raw none short = rw (slice_split_none is_newline raw none, short) refl

shorter : (l m : List ℕ) → is_overlong m ≡ false → length l ≤ length m → is_overlong l ≡ false
shorter l m h le = grind (arith, nat_tests)

-- a line that does something is not too long
read_short : (line : List ℕ) (found : Line) → read_line Script line ≡ Ok found → is_overlong line ≡ false
read_short line found is = by_test (is_overlong line) refl
  where
    by_test : (test : Bool) → is_overlong line ≡ test → test ≡ false
    by_test false same = refl
    by_test true same = let bad = rw same at is in let no : ⊥ = cc bad in absurd no

step_short : (w n : ℕ) (s : Session) (line : List ℕ) (next : Session × Step) → step w n s line ≡ Ok next → is_overlong line ≡ false
step_short w n s line next is = by_read (read_line Script line) refl is
  where
    by_read : (read : Result Line LineKind) → read_line Script line ≡ read → read_step w n s read ≡ Ok next → is_overlong line ≡ false
    by_read (Ok found) same is = read_short line found same
    by_read (Err kind) same is = let no : ⊥ = cc is in absurd no

last_none : (line : List ℕ) → NoNewline line → is_overlong line ≡ false → settled_lines line ≡ []
last_none line none short = settles_none line none (shorter (strip_carriage_return line) line short (strip_most line))

-- ---- bytes that were used
nothing_first : (x y : List ℕ) → x ++ y ≡ [] → x ≡ []
nothing_first [] y is = refl
nothing_first (b ∷ x) y is = let no : ⊥ = cc is in absurd no

nothing_second : (x y : List ℕ) → x ++ y ≡ [] → y ≡ []
nothing_second [] y is = is
nothing_second (b ∷ x) y is = let no : ⊥ = cc is in absurd no

-- whole lines behind whole lines
whole_both : (x y : List ℕ) → AreWholeLines x → AreWholeLines y → AreWholeLines (x ++ y)
whole_both x y first (inl none) = rw (none, append-nil) first
whole_both x y first (inr ends) = inr (x ++ ends.0, ap (λ (t : List ℕ). x ++ t) ends.1 ∙ sym (append_assoc x ends.0 (10 ∷ [])))

-- bytes more that settle nothing
none_more : (w : ℕ) (m : Map) (front : List (List ℕ)) (used ahead held more : List ℕ) → IsFront w m front used ahead → held ++ more ≡ ahead → settled_lines held ≡ [] → Undecided w m (used ++ held)
none_more w m front used ahead held more f is none = by_ends f.ends
  where
    by_ends : (AreWholeLines used × (settled_lines used ≡ front)) ⊎ (ahead ≡ []) → Undecided w m (used ++ held)
    by_ends (inl whole) = rw (settled_on used held whole.0, none, append-nil) f.settled
    by_ends (inr nothing) = rw (nothing_first held more (is ∙ nothing), append-nil) f.settled

-- with a line more, behind which nothing is decided
longer_front : (w : ℕ) (m : Map) (front : List (List ℕ)) (used piece line before after : List ℕ) → before ≡ piece ++ after → IsLineOf piece line after → is_overlong line ≡ false → (play w 1 (start m) (front ++ line ∷ [])).stop ≡ None → IsFront w m front used before → IsFront w m (front ++ line ∷ []) (used ++ piece) after
longer_front w m front used piece line before after is line_is short goes f = by_ends f.ends line_is
  where
    at_end : piece ++ after ≡ [] → IsFront w m (front ++ line ∷ []) (used ++ piece) after
    at_end none = rw (nothing_first piece after none, append-nil) (record { settled = f.settled; ends = inr (nothing_second piece after none) })

    by_ends : (AreWholeLines used × (settled_lines used ≡ front)) ⊎ (before ≡ []) → IsLineOf piece line after → IsFront w m (front ++ line ∷ []) (used ++ piece) after
    by_ends (inr none) any = at_end (sym is ∙ none)
    by_ends (inl whole) (inl ended) =
        let lines : settled_lines (used ++ piece) ≡ front ++ line ∷ [] = settled_on used piece whole.0 ∙ ap (λ (x : List (List ℕ)). x ++ settled_lines piece) whole.1 ∙ ap (λ (x : List (List ℕ)). front ++ x) ended.1 in
        record {
          settled = ap (λ (x : List (List ℕ)). (play w 1 (start m) x).stop) lines ∙ goes;
          ends = inl (whole_both used piece whole.0 ended.0, lines);
        }
    by_ends (inl whole) (inr last) =
        let none : settled_lines piece ≡ [] = ap settled_lines last.0 ∙ last_none line last.1 short in
        record { settled = none_more w m front used before piece after f (sym is) none; ends = inr last.2 }

-- before the first line
pub none_used : (w : ℕ) (m : Map) (bytes : List ℕ) (ahead : Stream) → ahead.held ≡ [] → ahead.allowed ≡ input_limit → Used w m [] bytes ahead bytes
none_used w m bytes ahead held allowed = record {
  used = [];
  is = rw held refl;
  size = omega (arith, allowed);
  is_front = record { settled = refl; ends = inl (inl refl, refl) };
}

-- after a line that was done
pub line_used : (w : ℕ) (m : Map) (front : List (List ℕ)) (bytes : List ℕ) (old new : Stream) (left left' : List ℕ) (n : ℕ) (s : Session) (next : Session × Step) → Used w m front bytes old left → TakesLine old (Some left) new (Some left') → step w n s new.line ≡ Ok next → (play w 1 (start m) (front ++ new.line ∷ [])).stop ≡ None → Used w m (front ++ new.line ∷ []) bytes new left'
line_used w m front bytes old new left left' n s next u takes is goes =
    let piece = takes.0 in record {
      used = u.used ++ piece;
      is = u.is ∙ ap (λ (t : List ℕ). u.used ++ t) takes.1 ∙ sym (append_assoc u.used piece (new.held ++ left'));
      size = let e = takes.2 in let s = u.size in omega (arith, length-append u.used piece);
      is_front = longer_front w m front u.used piece new.line (old.held ++ left) (new.held ++ left') takes.1 takes.3 (step_short w n s new.line next is) goes u.is_front;
    }

-- ---- a read that fails
undecided : (w : ℕ) (m : Map) (given : List ℕ) → length given ≤ input_limit → Undecided w m given → decided w m given ≡ None
undecided w m given within none =
    let stop = ap (λ (x : List ℕ). (play w 1 (start m) (settled_lines x)).stop) (take_all input_limit given within) ∙ none in
    rw (stop, le-leb (length given) input_limit within) refl

-- where what is held settles nothing
pub read_undecided : (w : ℕ) (m : Map) (front : List (List ℕ)) (bytes : List ℕ) (old : Stream) (left left' held : List ℕ) → Used w m front bytes old left → Pulls old.held (Some left) held (Some left') → SettlesNothing old.allowed held → DecideNothing w m bytes (Some left')
read_undecided w m front bytes old left left' held u pulls nothing = (
  u.used ++ held,
  u.is ∙ ap (λ (t : List ℕ). u.used ++ t) (sym pulls) ∙ sym (append_assoc u.used held left'),
  undecided w m (u.used ++ held) (let s = u.size in let le = nothing.0 in omega (arith, length-append u.used held)) (none_more w m front u.used (old.held ++ left) held left' u.is_front pulls nothing.1),
)
