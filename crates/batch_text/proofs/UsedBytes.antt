-- What the bytes that lines have used of an input settle, from line to line, by any test that refuses lines of too many bytes.
use Rattle.std.proofs.Common.{◌≡◌, ◌⊎◌, ℕ, ◌+◌, ◌≤◌, Bool, true, false, List, [], ◌∷◌, ◌++◌, length, Option, Some, None, refl, sym, ap, ◌∙◌, inl, inr, arith, append_assoc, length-append}
use Rattle.std.specs.Prelude.{IsTrue}
use Rattle.std.specs.Str.Lines.{strip_carriage_return}
use Rattle.std.proofs.lemmas.Bool.Decides.{nat_tests}
use Rattle.std.proofs.lemmas.List.{append-nil}
use Rattle.std.proofs.lemmas.List.Splits.{slice_split_none}
use Rattle.base_model.specs.Faults.{TellsAlike}
use Rattle.text_model.specs.Lines.{input_limit, is_newline, is_overlong, settled_lines, AreWholeLines}
use Rattle.text_model.specs.Laws.{AreGood, RefusesOverlong}
use Rattle.text_model.proofs.FirstBad.{first_bad_line}
use Rattle.text_model.proofs.LinesWithin.{strip_most}
use Rattle.text_model.proofs.SettledLines.{settled_on}
use Rattle.batch_text.specs.Stream.{Stream, NoNewline, Pulls, IsLineOf, TakesLine, SettlesNothing}
use Rattle.batch_text.specs.PassedLines.{PassSoFar}

-- every line that these bytes settle passes; and they are whole lines, unless nothing is ahead
pub record IsGoodFront (good : List ℕ → Bool) (used ahead : List ℕ) : Type 0 where
  pass : AreGood good (settled_lines used)
  ends : AreWholeLines used ⊎ (ahead ≡ [])

-- an input is such bytes, which were used, and what is ahead
pub record Used (good : List ℕ → Bool) (bytes : List ℕ) (ahead : Stream) (left : List ℕ) : Type 0 where
  used : List ℕ
  is : bytes ≡ used ++ (ahead.held ++ left)
  size : length used + ahead.allowed ≡ input_limit
  front : IsGoodFront good used (ahead.held ++ left)

-- the same of an input that tells
abbrev pub HasUsed : (List ℕ → Bool) → Option (List ℕ) → Stream → Option (List ℕ) → Type 0
HasUsed good None ahead left = Unit {0}
HasUsed good (Some bytes) ahead None = Unit {0}
HasUsed good (Some bytes) ahead (Some left) = Used good bytes ahead left

-- ---- bytes that settle nothing
-- a line that is not too long, without its end
settles_none : (raw : List ℕ) → NoNewline raw → is_overlong (strip_carriage_return raw) ≡ false → settled_lines raw ≡ []
settles_none raw none short = rw (slice_split_none is_newline raw none, short) refl

shorter : (l m : List ℕ) → is_overlong m ≡ false → length l ≤ length m → is_overlong l ≡ false
shorter l m h le = grind (arith, nat_tests)

-- ---- bytes that were used
nothing_first : (x y : List ℕ) → x ++ y ≡ [] → x ≡ []
nothing_first [] y is = refl
nothing_first (b ∷ x) y is = let no : ⊥ = cc is in absurd no

nothing_second : (x y : List ℕ) → x ++ y ≡ [] → y ≡ []
nothing_second [] y is = is
nothing_second (b ∷ x) y is = let no : ⊥ = cc is in absurd no

-- whole lines behind whole lines
whole_both : (x y : List ℕ) → AreWholeLines x → AreWholeLines y → AreWholeLines (x ++ y)
whole_both x y first (inl none) = rw (none, append-nil) first
whole_both x y first (inr ends) = inr (x ++ ends.0, ap (λ (t : List ℕ). x ++ t) ends.1 ∙ sym (append_assoc x ends.0 (10 ∷ [])))

module _ (good : List ℕ → Bool) (refuses : RefusesOverlong good) where
  -- a last line that passes
  good_last : (line : List ℕ) → NoNewline line → IsTrue (good line) → settled_lines line ≡ []
  good_last line none passes = settles_none line none (shorter (strip_carriage_return line) line (fits (is_overlong line) refl) (strip_most line))
    where
      fits : (test : Bool) → is_overlong line ≡ test → test ≡ false
      fits false is = refl
      fits true is = let bad = rw (refuses line is) at passes in let no : ⊥ = cc bad in absurd no

  good_both : (xs ys : List (List ℕ)) → AreGood good xs → AreGood good ys → AreGood good (xs ++ ys)
  good_both [] ys first second = second
  good_both (x ∷ xs) ys first second = (first.0, good_both xs ys first.1 second)

  -- with a line more that passes
  longer_front : (used piece line before after : List ℕ) → before ≡ piece ++ after → IsLineOf piece line after → IsTrue (good line) → IsGoodFront good used before → IsGoodFront good (used ++ piece) after
  longer_front used piece line before after is line_is passes front = by_ends front.ends line_is
    where
      at_end : piece ++ after ≡ [] → IsGoodFront good (used ++ piece) after
      at_end none = rw (nothing_first piece after none, append-nil) (record { pass = front.pass; ends = inr (nothing_second piece after none) })

      by_ends : AreWholeLines used ⊎ (before ≡ []) → IsLineOf piece line after → IsGoodFront good (used ++ piece) after
      by_ends (inr none) any = at_end (sym is ∙ none)
      by_ends (inl whole) (inl ended) = record { pass = rw (settled_on used piece whole, ended.1) (good_both (settled_lines used) (line ∷ []) front.pass (passes, tt)); ends = inl (whole_both used piece whole ended.0) }
      by_ends (inl whole) (inr last) =
          let none : settled_lines piece ≡ [] = ap settled_lines last.0 ∙ good_last line last.1 passes in
          record { pass = rw (settled_on used piece whole, none, append-nil) front.pass; ends = inr last.2 }

  used_more : (bytes : List ℕ) (old new : Stream) (l l' : List ℕ) → Used good bytes old l → TakesLine old (Some l) new (Some l') → IsTrue (good new.line) → Used good bytes new l'
  used_more bytes old new l l' u takes passes =
      let piece = takes.0 in record {
        used = u.used ++ piece;
        is = u.is ∙ ap (λ (t : List ℕ). u.used ++ t) takes.1 ∙ sym (append_assoc u.used piece (new.held ++ l'));
        size = let e = takes.2 in let s = u.size in omega (arith, length-append u.used piece);
        front = longer_front u.used piece new.line (old.held ++ l) (new.held ++ l') takes.1 takes.3 passes u.front;
      }

  -- before the first line
  pub none_used : (left : Option (List ℕ)) (ahead : Stream) → ahead.held ≡ [] → ahead.allowed ≡ input_limit → HasUsed good left ahead left
  none_used None ahead held allowed = tt
  none_used (Some bytes) ahead held allowed = record {
    used = [];
    is = rw held refl;
    size = omega (arith, allowed);
    front = record { pass = tt; ends = inl (inl refl) };
  }

  -- after a line that passes
  pub line_used : (start left left' : Option (List ℕ)) (old new : Stream) → TellsAlike start left → HasUsed good start old left → TakesLine old left new left' → IsTrue (good new.line) → HasUsed good start new left'
  line_used None left left' old new tells u takes passes = tt
  line_used (Some bytes) left None old new tells u takes passes = tt
  line_used (Some bytes) None (Some l') old new tells u takes passes = let no : ⊥ = cc (tells.1 refl) in absurd no
  line_used (Some bytes) (Some l) (Some l') old new tells u takes passes = used_more bytes old new l l' u takes passes

  -- ---- a read that fails
  -- what is held behind them adds no line
  none_more : (used ahead held more : List ℕ) → IsGoodFront good used ahead → held ++ more ≡ ahead → settled_lines held ≡ [] → AreGood good (settled_lines (used ++ held))
  none_more used ahead held more front is none = by_ends front.ends
    where
      by_ends : AreWholeLines used ⊎ (ahead ≡ []) → AreGood good (settled_lines (used ++ held))
      by_ends (inl whole) = rw (settled_on used held whole, none, append-nil) front.pass
      by_ends (inr nothing) = rw (nothing_first held more (is ∙ nothing), append-nil) front.pass

  -- where what is held settles nothing
  pub good_so_far : (start left left' : Option (List ℕ)) (old : Stream) (held : List ℕ) → TellsAlike start left → HasUsed good start old left → Pulls old.held left held left' → SettlesNothing old.allowed held → PassSoFar good start left'
  good_so_far None left left' old held tells u pulls nothing = tt
  good_so_far (Some bytes) left None old held tells u pulls nothing = tt
  good_so_far (Some bytes) None (Some l') old held tells u pulls nothing = let no : ⊥ = cc (tells.1 refl) in absurd no
  good_so_far (Some bytes) (Some l) (Some l') old held tells u pulls nothing = (
    u.used ++ held,
    u.is ∙ ap (λ (t : List ℕ). u.used ++ t) (sym pulls) ∙ sym (append_assoc u.used held l'),
    (let s = u.size in let le = nothing.0 in omega (arith, length-append u.used held)),
    (first_bad_line good (settled_lines (u.used ++ held))).1.1 (none_more u.used (old.held ++ l) held l' u.front pulls nothing.1),
  )
