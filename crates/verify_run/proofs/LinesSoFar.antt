-- Lines of an input of proofs that passed, from line to line.
use Rattle.std.proofs.Common.{◌≡◌, ℕ, suc, ◌+◌, Bool, true, false, nat_le, cond, List, [], ◌∷◌, ◌++◌, length, Option, Some, None, Result, Ok, Err, refl, sym, ap, ◌∙◌, arith, append_assoc, length-append}
use Rattle.std.specs.Prelude.{IfSome, IsTrue, is_ok}
use Rattle.std.specs.Io.KnownBytes.{Appends}
use Rattle.std.specs.Option.{option_or}
use Rattle.std.proofs.lemmas.Bool.{le-leb, lt-leb}
use Rattle.std.proofs.lemmas.Grind.{flat_map-append}
use Rattle.std.proofs.lemmas.List.{append-nil}
use Rattle.base_model.specs.Faults.{TellsAlike}
use Rattle.base_model.specs.Streams.{AppendsPrefix}
use Rattle.trie_model.specs.Maps.{Map}
use Rattle.store_model.specs.Refusals.{Refusal}
use Rattle.text_model.specs.FirstBad.{first_told}
use Rattle.text_model.specs.Laws.{AreGood, RefusesOverlong}
use Rattle.text_model.specs.Lines.{input_limit, lines_within}
use Rattle.text_model.specs.Texts.{Input}
use Rattle.batch_text.specs.Stream.{Stream, Gives, NoMore, Past, FirstIsOverlong, BeginsOverlong}
use Rattle.run_model.specs.End.{End, Done, BadLine, Limit}
use Rattle.run_model.specs.Verify.{Fault, NotUnderstood, fault_end, verdict, asks_store, come_to_store, asks_on, line_end, end_unless, passed, text_or_none, verdicts_text, verify_outcome}
use Rattle.run_model.proofs.PrintedText.{nothing, and_then, same_text, same_prefix, then_prefix, prefix_of_more, whole}

-- a line passes
abbrev pub passes : ℕ → Result Map Refusal → List ℕ → Bool
passes w found line = is_ok (verdict w found line)

-- a line of too many bytes does not
pub passes-RefusesOverlong : (w : ℕ) (found : Result Map Refusal) → RefusesOverlong (passes w found)
passes-RefusesOverlong w found line h = rw h refl

-- ---- lines that pass, and then others

passed-all : (w : ℕ) (found : Result Map Refusal) (xs ys : List (List ℕ)) → AreGood (passes w found) xs → passed w found (xs ++ ys) ≡ xs ++ passed w found ys
passed-all w found [] ys h = refl
passed-all w found (x ∷ xs) ys h = go (passes w found x) h.0 (passed-all w found xs ys h.1)
  where
    go : (b : Bool) → IsTrue b → passed w found (xs ++ ys) ≡ xs ++ passed w found ys → cond b (x ∷ passed w found (xs ++ ys)) [] ≡ x ∷ (xs ++ passed w found ys)
    go true h later = ap (λ ls. x ∷ ls) later
    go false h later = let no : ⊥ = cc h in absurd no

told-all : (w : ℕ) (found : Result Map Refusal) (n : ℕ) (xs ys : List (List ℕ)) → AreGood (passes w found) xs → first_told (line_end w found) n (xs ++ ys) ≡ first_told (line_end w found) (n + length xs) ys
told-all w found n [] ys h = ap (λ k. first_told (line_end w found) k ys) (omega arith)
told-all w found n (x ∷ xs) ys h = go (verdict w found x) h.0 (told-all w found (n + 1) xs ys h.1 ∙ ap (λ k. first_told (line_end w found) k ys) (omega arith))
  where
    go : (v : Result (List ℕ) Fault) → IsTrue (is_ok v) → first_told (line_end w found) (n + 1) (xs ++ ys) ≡ first_told (line_end w found) (n + suc (length xs)) ys
        → option_or (end_unless n v) (first_told (line_end w found) (n + 1) (xs ++ ys)) ≡ first_told (line_end w found) (n + suc (length xs)) ys
    go (Ok text) h later = later
    go (Err fault) h later = let no : ⊥ = cc h in absurd no

-- lines that come to the store, behind lines that pass
comes-all : (w : ℕ) (found : Result Map Refusal) (xs ys : List (List ℕ)) → AreGood (passes w found) xs → come_to_store w found ys ≡ true → come_to_store w found (xs ++ ys) ≡ true
comes-all w found [] ys h comes = comes
comes-all w found (x ∷ xs) ys h comes = go (asks_store x) (passes w found x) h.0 (comes-all w found xs ys h.1 comes)
  where
    go : (a b : Bool) → IsTrue b → come_to_store w found (xs ++ ys) ≡ true → cond a true (cond b (come_to_store w found (xs ++ ys)) false) ≡ true
    go true b h later = refl
    go false true h later = later
    go false false h later = let no : ⊥ = cc h in absurd no

-- ---- an input after some lines

-- these lines passed, of which the next has the number n, and their text was printed
pub record DoneLines (w : ℕ) (found : Result Map Refusal) (bytes : List ℕ) (n : ℕ) (ahead : Stream) (left : List ℕ) (taken taken' : Option (List ℕ)) : Type 0 where
  pub before : List (List ℕ)
  pub number : n ≡ 1 + length before
  pub lines : lines_within input_limit bytes ≡ before ++ lines_within ahead.allowed (ahead.held ++ left)
  pub within : nat_le (length (ahead.held ++ left)) ahead.allowed ≡ nat_le (length bytes) input_limit
  pub pass : AreGood (passes w found) before
  pub text : Appends taken taken' (verdicts_text w found before)

-- the same of an input that tells
abbrev pub SoFar : ℕ → Result Map Refusal → Option (List ℕ) → ℕ → Stream → Option (List ℕ) → (taken taken' : Option (List ℕ)) → Type 0
SoFar w found None n ahead left taken taken' = Unit {0}
SoFar w found (Some bytes) n ahead None taken taken' = Unit {0}
SoFar w found (Some bytes) n ahead (Some left) taken taken' = DoneLines w found bytes n ahead left taken taken'

-- whether an input goes past its limit, by what is left of it
abbrev pub Within : Option (List ℕ) → Stream → Option (List ℕ) → Type 0
Within None ahead left = Unit {0}
Within (Some bytes) ahead None = Unit {0}
Within (Some bytes) ahead (Some left) = nat_le (length (ahead.held ++ left)) ahead.allowed ≡ nat_le (length bytes) input_limit

pub within_start : (start : Option (List ℕ)) (ahead : Stream) → ahead.held ≡ [] → ahead.allowed ≡ input_limit → Within start ahead start
within_start None ahead held allowed = tt
within_start (Some bytes) ahead held allowed = rw (held, allowed) refl

pub within_on : (start left left' : Option (List ℕ)) (old new : Stream) → TellsAlike start left → Within start old left → Gives old left new left' → Within start new left'
within_on None left left' old new tells within gives = tt
within_on (Some bytes) left None old new tells within gives = tt
within_on (Some bytes) None (Some l) old new tells within gives = let no : ⊥ = cc (tells.1 refl) in absurd no
within_on (Some bytes) (Some k) (Some l) old new tells within gives = gives.1 ∙ within

-- before the first line
pub at_start : (w : ℕ) (found : Result Map Refusal) (start : Option (List ℕ)) (ahead : Stream) (taken : Option (List ℕ)) → ahead.held ≡ [] → ahead.allowed ≡ input_limit → SoFar w found start 1 ahead start taken taken
at_start w found None ahead taken held allowed = tt
at_start w found (Some bytes) ahead taken held allowed = record {
  before = [];
  number = refl;
  lines = rw (held, allowed) refl;
  within = rw (held, allowed) refl;
  pass = tt;
  text = nothing taken;
}

good_both : (w : ℕ) (found : Result Map Refusal) (xs : List (List ℕ)) (line text : List ℕ) → AreGood (passes w found) xs → verdict w found line ≡ Ok text → AreGood (passes w found) (xs ++ line ∷ [])
good_both w found [] line text h is = (rw is refl, tt)
good_both w found (x ∷ xs) line text h is = (h.0, good_both w found xs line text h.1 is)

text_more : (w : ℕ) (found : Result Map Refusal) (xs : List (List ℕ)) (line text : List ℕ) → verdict w found line ≡ Ok text → verdicts_text w found (xs ++ line ∷ []) ≡ verdicts_text w found xs ++ text
text_more w found xs line text is = flat_map-append (λ l. text_or_none (verdict w found l)) xs (line ∷ []) ∙ ap (λ t. verdicts_text w found xs ++ t) (rw is (append-nil text))

-- after a line that passes
pub goes_on : (w : ℕ) (found : Result Map Refusal) (start left left' : Option (List ℕ)) (n : ℕ) (old new : Stream) (first mid last : Option (List ℕ)) (text : List ℕ)
    → TellsAlike start left → SoFar w found start n old left first mid → Gives old left new left' → verdict w found new.line ≡ Ok text → Appends mid last text → SoFar w found start (n + 1) new left' first last
goes_on w found None left left' n old new first mid last text tells so_far gives is printed = tt
goes_on w found (Some bytes) left None n old new first mid last text tells so_far gives is printed = tt
goes_on w found (Some bytes) None (Some l) n old new first mid last text tells so_far gives is printed = let no : ⊥ = cc (tells.1 refl) in absurd no
goes_on w found (Some bytes) (Some k) (Some l) n old new first mid last text tells so_far gives is printed =
    let ahead = lines_within new.allowed (new.held ++ l) in record {
      before = so_far.before ++ new.line ∷ [];
      number = omega (arith, so_far.number, length-append so_far.before (new.line ∷ []));
      lines = so_far.lines ∙ ap (λ ls. so_far.before ++ ls) gives.0 ∙ sym (append_assoc so_far.before (new.line ∷ []) ahead);
      within = gives.1 ∙ so_far.within;
      pass = good_both w found so_far.before new.line text so_far.pass is;
      text = same_text first last (sym (text_more w found so_far.before new.line text is)) (and_then (verdicts_text w found so_far.before) text first mid last so_far.text printed);
    }

-- ---- how an input ends

-- the input ends so, and what its lines print was printed
pub record Ends (w : ℕ) (found : Result Map Refusal) (bytes : List ℕ) (taken taken' : Option (List ℕ)) (end : End) : Type 0 where
  pub ends : (verify_outcome w found bytes).end ≡ end
  pub text : Appends taken taken' (verify_outcome w found bytes).text

-- the same of an input that tells
abbrev pub EndsSo : ℕ → Result Map Refusal → Option (List ℕ) → (taken taken' : Option (List ℕ)) → End → Type 0
EndsSo w found start taken taken' end = IfSome start (λ bytes. Ends w found bytes taken taken' end)

-- a front of what its lines print was printed
abbrev pub PrintsFront : ℕ → Result Map Refusal → Option (List ℕ) → (taken taken' : Option (List ℕ)) → Type 0
PrintsFront w found start taken taken' = IfSome start (λ bytes. AppendsPrefix taken taken' (verify_outcome w found bytes).text)

module _ (w : ℕ) (found : Result Map Refusal) (bytes : List ℕ) (n : ℕ) (old : Stream) (left : List ℕ) (taken taken' : Option (List ℕ)) (so_far : DoneLines w found bytes n old left taken taken') where
  ahead : List (List ℕ)
  ahead = lines_within old.allowed (old.held ++ left)

  -- how the lines ahead end is how all end
  told_ahead : first_told (line_end w found) 1 (lines_within input_limit bytes) ≡ first_told (line_end w found) n ahead
  unfolding ahead
  told_ahead = ap (first_told (line_end w found) 1) so_far.lines ∙ told-all w found 1 so_far.before (lines_within old.allowed (old.held ++ left)) so_far.pass ∙ ap (λ k. first_told (line_end w found) k (lines_within old.allowed (old.held ++ left))) (sym so_far.number)

  passed_ahead : passed w found (lines_within input_limit bytes) ≡ so_far.before ++ passed w found ahead
  unfolding ahead
  passed_ahead = ap (passed w found) so_far.lines ∙ passed-all w found so_far.before (lines_within old.allowed (old.held ++ left)) so_far.pass

  text_ahead : verdicts_text w found (passed w found (lines_within input_limit bytes)) ≡ verdicts_text w found so_far.before ++ verdicts_text w found (passed w found ahead)
  text_ahead = ap (verdicts_text w found) passed_ahead ∙ flat_map-append (λ l. text_or_none (verdict w found l)) so_far.before (passed w found ahead)

  -- where no line ahead passes, what was printed is all
  all_printed : passed w found ahead ≡ [] → Appends taken taken' (verify_outcome w found bytes).text
  all_printed none = same_text taken taken' (sym (text_ahead ∙ ap (λ ls. verdicts_text w found so_far.before ++ verdicts_text w found ls) none ∙ append-nil (verdicts_text w found so_far.before))) so_far.text

  pub front_printed : AppendsPrefix taken taken' (verify_outcome w found bytes).text
  front_printed = same_prefix taken taken' (sym text_ahead) (prefix_of_more (verdicts_text w found so_far.before) (verdicts_text w found (passed w found ahead)) taken taken' (whole (verdicts_text w found so_far.before) taken taken' so_far.text))

  -- where there is no line ahead
  pub ends_at_end : NoMore old (Some left) → Ends w found bytes taken taken' Done
  unfolding ahead
  ends_at_end none =
      let told : first_told (line_end w found) 1 (lines_within input_limit bytes) ≡ None = told_ahead ∙ ap (first_told (line_end w found) n) none.0 in
      let within : nat_le (length bytes) input_limit ≡ true = sym so_far.within ∙ le-leb (length (old.held ++ left)) old.allowed none.1 in
      record { ends = rw (told, within) refl; text = all_printed (ap (passed w found) none.0) }

  pub ends_past : Past old (Some left) → Ends w found bytes taken taken' (Limit Input)
  unfolding ahead
  ends_past past =
      let told : first_told (line_end w found) 1 (lines_within input_limit bytes) ≡ None = told_ahead ∙ ap (first_told (line_end w found) n) past.0 in
      let within : nat_le (length bytes) input_limit ≡ false = sym so_far.within ∙ lt-leb (length (old.held ++ left)) old.allowed past.1 in
      record { ends = rw (told, within) refl; text = all_printed (ap (passed w found) past.0) }

  -- at a line that does not pass
  ends_at_line : (line : List ℕ) (later : List (List ℕ)) (fault : Fault) → ahead ≡ line ∷ later → verdict w found line ≡ Err fault → Ends w found bytes taken taken' (fault_end n fault)
  ends_at_line line later fault is bad =
      let told : first_told (line_end w found) 1 (lines_within input_limit bytes) ≡ Some (fault_end n fault) = told_ahead ∙ ap (first_told (line_end w found) n) is ∙ rw bad refl in
      let none : passed w found ahead ≡ [] = ap (passed w found) is ∙ rw bad refl in
      record { ends = rw told refl; text = all_printed none }

  pub ends_overlong : BeginsOverlong old (Some left) → Ends w found bytes taken taken' (BadLine n)
  unfolding ahead
  ends_overlong begins = go (lines_within old.allowed (old.held ++ left)) refl begins
    where
      go : (ls : List (List ℕ)) → lines_within old.allowed (old.held ++ left) ≡ ls → FirstIsOverlong ls → Ends w found bytes taken taken' (BadLine n)
      go [] is h = absurd h
      go (line ∷ later) is h = ends_at_line line later NotUnderstood is (rw h refl)

  pub ends_given : (new : Stream) (left' : List ℕ) (fault : Fault) → Gives old (Some left) new (Some left') → verdict w found new.line ≡ Err fault → Ends w found bytes taken taken' (fault_end n fault)
  unfolding ahead
  ends_given new left' fault gives bad = ends_at_line new.line (lines_within new.allowed (new.held ++ left')) fault gives.0 bad

  -- and where a line passes whose text is printed in part
  pub breaks_given : (new : Stream) (left' : List ℕ) (text : List ℕ) (last : Option (List ℕ)) → Gives old (Some left) new (Some left') → verdict w found new.line ≡ Ok text → AppendsPrefix taken' last text → AppendsPrefix taken last (verify_outcome w found bytes).text
  unfolding ahead
  breaks_given new left' text last gives is printed =
      let ahead_is : lines_within old.allowed (old.held ++ left) ≡ new.line ∷ lines_within new.allowed (new.held ++ left') = gives.0 in
      let rest = passed w found (lines_within new.allowed (new.held ++ left')) in
      let first : passed w found (lines_within old.allowed (old.held ++ left)) ≡ new.line ∷ rest = ap (passed w found) ahead_is ∙ rw is refl in
      let line_text : verdicts_text w found (new.line ∷ rest) ≡ text ++ verdicts_text w found rest = rw is refl in
      same_prefix taken last (sym (text_ahead ∙ ap (λ t. verdicts_text w found so_far.before ++ t) (ap (verdicts_text w found) first ∙ line_text)))
      (then_prefix (verdicts_text w found so_far.before) (text ++ verdicts_text w found rest) taken taken' last so_far.text (prefix_of_more text (verdicts_text w found rest) taken' last printed))

  -- where the line ahead asks for the store, so does the input
  pub asks_given : (new : Stream) (left' : List ℕ) → Gives old (Some left) new (Some left') → asks_store new.line ≡ true → asks_on w found bytes ≡ true
  asks_given new left' gives asks =
      let later = lines_within new.allowed (new.held ++ left') in
      let head : come_to_store w found (new.line ∷ later) ≡ true = rw asks refl in
      let is : lines_within input_limit bytes ≡ so_far.before ++ new.line ∷ later = so_far.lines ∙ ap (λ ls. so_far.before ++ ls) gives.0 in
      ap (come_to_store w found) is ∙ comes-all w found so_far.before (new.line ∷ later) so_far.pass head
