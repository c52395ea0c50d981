-- The lines of a text, taken off its front.
use Rattle.std.proofs.Common.{Bool, true, false, ◌≡◌, ℕ, suc, ◌+◌, ◌-◌, ◌<◌, ◌≤◌, nat_le, cond, ◌==◌, List, [], ◌∷◌, ◌++◌, length, take, drop, slice_index, refl, sym, ◌∙◌, ap, subst, arith, length-append, append_assoc, inl, inr, Option, Some, None, min, take-append-drop}
use Rattle.std.specs.List.{slice_split}
use Rattle.std.specs.Str.Lines.{lines_of_parts, strip_carriage_return}
use Rattle.std.proofs.lemmas.List.Splits.{slice_split_at, slice_split_none}
use Rattle.std.proofs.lemmas.Bool.Decides.{nat_tests}
use Rattle.std.proofs.lemmas.List.{length-take, length-take-le, take-take, drop_more, append-nil, nil_from_length, take-append-le}
use Rattle.std.proofs.Math.Seq.{take-append-add}
use Rattle.text_model.specs.Lines.{line_limit, is_newline, is_overlong, lines_of_cut, settled_lines, lines_within}
use Rattle.text_model.proofs.LinesWithin.{parts, MakesLines, makes_ended, makes_cut, line_and}
use Rattle.batch_text.specs.Stream.{NoNewline, Stream, Gives, TakesLine, NoMore, Past, Pulls, EndsAt, IsLast, SettlesNothing}
use Rattle.base_model.specs.Faults.{TellsAlike}
use Rattle.base_model.specs.Streams.{AtEnd}

-- the first part ends at the first newline, and is the first line
first_line : (f : List (List ℕ) → List (List ℕ)) → MakesLines f → (raw rest : List ℕ) → NoNewline raw → f (slice_split is_newline (raw ++ 10 ∷ rest)) ≡ strip_carriage_return raw ∷ f (slice_split is_newline rest)
first_line f makes raw rest none = ap f (slice_split_at is_newline raw 10 rest none refl) ∙ line_and f makes raw (slice_split is_newline rest) (parts rest)

-- so it is in a text that ends
all_line : (raw rest : List ℕ) → NoNewline raw → lines_of_parts (slice_split is_newline (raw ++ 10 ∷ rest)) ≡ strip_carriage_return raw ∷ lines_of_parts (slice_split is_newline rest)
all_line = first_line lines_of_parts makes_ended

-- and in a text that is cut
cut_on : (raw rest : List ℕ) → NoNewline raw → lines_of_cut (slice_split is_newline (raw ++ 10 ∷ rest)) ≡ strip_carriage_return raw ∷ lines_of_cut (slice_split is_newline rest)
cut_on = first_line lines_of_cut makes_cut

-- a line, its newline and the rest
size : (raw rest : List ℕ) → length (raw ++ 10 ∷ rest) ≡ length raw + 1 + length rest
size raw rest = omega (arith, length-append raw (10 ∷ rest))

-- the test goes on behind a line
pub test_on : (a : ℕ) (raw rest : List ℕ) → length raw < a → nat_le (length rest) (a - (length raw + 1)) ≡ nat_le (length (raw ++ 10 ∷ rest)) a
test_on a raw rest le = grind (arith, nat_tests, size raw rest)

-- what may be used of a text is its first line and what may be used of the rest
taken : (a : ℕ) (raw rest : List ℕ) → length raw < a → take a (raw ++ 10 ∷ rest) ≡ raw ++ 10 ∷ take (a - (length raw + 1)) rest
taken a raw rest le =
    let k = a - (length raw + 1) in
    let is : a ≡ length raw + suc k = omega arith in
    ap (λ (n : ℕ). take n (raw ++ 10 ∷ rest)) is ∙ take-append-add raw (10 ∷ rest) (suc k)

-- a whole line at the front, within the limit, is the first of the lines
pub line_off : (a : ℕ) (raw rest : List ℕ) → length raw < a → NoNewline raw → lines_within a (raw ++ 10 ∷ rest) ≡ strip_carriage_return raw ∷ lines_within (a - (length raw + 1)) rest
line_off a raw rest le none =
    let t = test_on a raw rest le in
    rw (← t, taken a raw rest le, all_line raw rest none, cut_on raw (take (a - (length raw + 1)) rest) none) (by_test (strip_carriage_return raw) (lines_of_parts (slice_split is_newline rest)) (lines_of_cut (slice_split is_newline (take (a - (length raw + 1)) rest))) (nat_le (length rest) (a - (length raw + 1))))
  where
    by_test : (l : List ℕ) (x y : List (List ℕ)) (b : Bool) → cond b (l ∷ x) (l ∷ y) ≡ l ∷ cond b x y
    by_test l x y true = refl
    by_test l x y false = refl

-- what is held, cut at its newline
cut_at : (held : List ℕ) (i : ℕ) → i < length held → slice_index held i ≡ 10 → held ≡ take i held ++ 10 ∷ drop (i + 1) held
cut_at held i within newline = sym (take-append-drop i held) ∙ ap (λ (x : List ℕ). take i held ++ x) (drop_more held i 0 within ∙ ap (λ (n : ℕ). n ∷ drop (i + 1) held) newline)

-- the same of what a reader holds and its source has left
pub gives_at : (old new : Stream) (left left' : Option (List ℕ)) (held : List ℕ) (i : ℕ) → Pulls old.held left held left' → EndsAt old.allowed held i
    → new.held ≡ drop (i + 1) held → new.allowed ≡ old.allowed - (i + 1) → new.line ≡ strip_carriage_return (take i held) → Gives old left new left'
gives_at old new None left' held i pulls ends rest fewer text = tt
gives_at old new (Some l) None held i pulls ends rest fewer text = tt
gives_at old new (Some l) (Some l') held i pulls ends rest fewer text =
    let raw = take i held in
    let more = drop (i + 1) held ++ l' in
    let within : i < length held = ends.1 in
    let lt : i < old.allowed = ends.0 in
    let size : length raw ≡ i = length-take-le i held (omega arith) in
    let split : held ≡ raw ++ 10 ∷ drop (i + 1) held = cut_at held i within ends.3 in
    let whole : old.held ++ l ≡ raw ++ 10 ∷ more = sym pulls ∙ ap (λ (x : List ℕ). x ++ l') split ∙ append_assoc raw (10 ∷ drop (i + 1) held) l' in
    let off : lines_within old.allowed (raw ++ 10 ∷ more) ≡ strip_carriage_return raw ∷ lines_within (old.allowed - (length raw + 1)) more = line_off old.allowed raw more (omega arith) ends.2 in
    let test : nat_le (length more) (old.allowed - (length raw + 1)) ≡ nat_le (length (raw ++ 10 ∷ more)) old.allowed = test_on old.allowed raw more (omega arith) in
    let off_i : lines_within old.allowed (raw ++ 10 ∷ more) ≡ strip_carriage_return raw ∷ lines_within (old.allowed - (i + 1)) more = subst (λ (n : ℕ). lines_within old.allowed (raw ++ 10 ∷ more) ≡ strip_carriage_return raw ∷ lines_within (old.allowed - (n + 1)) more) size off in
    let test_i : nat_le (length more) (old.allowed - (i + 1)) ≡ nat_le (length (raw ++ 10 ∷ more)) old.allowed = subst (λ (n : ℕ). nat_le (length more) (old.allowed - (n + 1)) ≡ nat_le (length (raw ++ 10 ∷ more)) old.allowed) size test in (
      rw (whole, rest, fewer, text) off_i,
      rw (whole, rest, fewer) test_i,
    )

-- and the bytes that the line takes
pub takes_at : (old new : Stream) (left left' : Option (List ℕ)) (held : List ℕ) (i : ℕ) → Pulls old.held left held left' → EndsAt old.allowed held i
    → new.held ≡ drop (i + 1) held → new.allowed ≡ old.allowed - (i + 1) → new.line ≡ strip_carriage_return (take i held) → TakesLine old left new left'
takes_at old new None left' held i pulls ends rest fewer text = tt
takes_at old new (Some l) None held i pulls ends rest fewer text = tt
takes_at old new (Some l) (Some l') held i pulls ends rest fewer text =
    let raw = take i held in
    let within : i < length held = ends.1 in
    let lt : i < old.allowed = ends.0 in
    let size : length raw ≡ i = length-take-le i held (omega arith) in
    let split : held ≡ (raw ++ 10 ∷ []) ++ new.held = rw rest (cut_at held i within ends.3 ∙ sym (append_assoc raw (10 ∷ []) (drop (i + 1) held))) in (
      raw ++ 10 ∷ [],
      sym pulls ∙ ap (λ (x : List ℕ). x ++ l') split ∙ append_assoc (raw ++ 10 ∷ []) new.held l',
      omega (arith, length-append raw (10 ∷ [])),
      inl (inr (raw, refl), cut_on raw [] ends.2 ∙ ap (λ (line : List ℕ). line ∷ []) (sym text)),
    )

-- a text with no newline is one line, or none
pub last_line : (a : ℕ) (raw : List ℕ) → NoNewline raw → length raw ≤ a → 0 < length raw → lines_within a raw ≡ raw ∷ []
last_line a raw none le some =
    let t : nat_le (length raw) a ≡ true = grind (arith, nat_tests) in
    let s : (length raw == 0) ≡ false = grind (arith, nat_tests) in
    rw (t, slice_split_none is_newline raw none, s) refl

-- a text of no bytes has no line
pub no_line : (a : ℕ) → lines_within a [] ≡ []
no_line a =
    let t : nat_le 0 a ≡ true = grind (arith, nat_tests) in
    rw t refl

-- a text whose usable bytes have no newline and are no line that is too long, and which goes on, has no line within
past_line : (a : ℕ) (text : List ℕ) → NoNewline (take a text) → is_overlong (strip_carriage_return (take a text)) ≡ false → a < length text → lines_within a text ≡ []
past_line a text none short lt =
    let t : nat_le (length text) a ≡ false = grind (arith, nat_tests) in
    rw (t, slice_split_none is_newline (take a text) none, short) refl

-- what is left of the text is one line
pub gives_last : (old new : Stream) (left left' : Option (List ℕ)) (held : List ℕ) → Pulls old.held left held left' → IsLast old.allowed held left' → 0 < length held
    → new.held ≡ [] → new.line ≡ held → Gives old left new left'
gives_last old new None left' held pulls last some rest text = tt
gives_last old new (Some l) None held pulls last some rest text = tt
gives_last old new (Some l) (Some l') held pulls last some rest text =
    let end : l' ≡ [] = last.1 in
    let le : length held ≤ old.allowed = last.2 in
    let whole : old.held ++ l ≡ held = sym pulls ∙ ap (λ (x : List ℕ). held ++ x) end ∙ append-nil held in
    let nothing : new.held ++ l' ≡ [] = rw (rest, end) refl in
    let t : nat_le (length held) old.allowed ≡ true = grind (arith, nat_tests) in
    let u : nat_le 0 new.allowed ≡ true = grind (arith, nat_tests) in (
      rw (whole, nothing, text) (last_line old.allowed held last.0 le some ∙ ap (λ (x : List (List ℕ)). held ∷ x) (sym (no_line new.allowed))),
      rw (whole, nothing) (u ∙ sym t),
    )

-- and the bytes that it takes
pub takes_last : (old new : Stream) (left left' : Option (List ℕ)) (held : List ℕ) (n : ℕ) → Pulls old.held left held left' → IsLast old.allowed held left' → n ≡ length held
    → new.held ≡ [] → new.allowed ≡ old.allowed - n → new.line ≡ held → TakesLine old left new left'
takes_last old new None left' held n pulls last size rest fewer text = tt
takes_last old new (Some l) None held n pulls last size rest fewer text = tt
takes_last old new (Some l) (Some l') held n pulls last size rest fewer text =
    let le : length held ≤ old.allowed = last.2 in (
      held,
      sym pulls ∙ ap (λ (x : List ℕ). held ++ (x ++ l')) (sym rest),
      omega arith,
      inr (sym text, subst NoNewline (sym text) last.0, ap (λ (x : List ℕ). x ++ l') rest ∙ last.1),
    )

-- where nothing is held at the end, no line is left
pub no_more : (old : Stream) (left left' : Option (List ℕ)) (held : List ℕ) → Pulls old.held left held left' → TellsAlike left left' → AtEnd left' → length held ≡ 0 → NoMore old left
no_more old None left' held pulls tells end none = tt
no_more old (Some l) None held pulls tells end none = let no : ⊥ = cc (tells.1 refl) in absurd no
no_more old (Some l) (Some l') held pulls tells end none =
    let whole : old.held ++ l ≡ [] = sym pulls ∙ ap (λ (x : List ℕ). held ++ x) end ∙ append-nil held ∙ nil_from_length held none in
    (rw whole (no_line old.allowed), rw whole (omega arith))

-- where more is held than may be used and no line ends there, no line is left
pub past : (old : Stream) (left left' : Option (List ℕ)) (held : List ℕ) → Pulls old.held left held left' → TellsAlike left left' → NoNewline (take old.allowed held)
    → is_overlong (strip_carriage_return (take old.allowed held)) ≡ false → old.allowed < length held → Past old left
past old None left' held pulls tells none short lt = tt
past old (Some l) None held pulls tells none short lt = let no : ⊥ = cc (tells.1 refl) in absurd no
past old (Some l) (Some l') held pulls tells none short lt =
    let front : take old.allowed (held ++ l') ≡ take old.allowed held = take-append-le old.allowed held l' (omega arith) in
    let long : old.allowed < length (held ++ l') = omega (arith, length-append held l') in
    rw (← pulls) (past_line old.allowed (held ++ l') (subst NoNewline (sym front) none) (rw front short) long, long)

-- the text of the line at the front of what is held
pub text_at : (held bytes : List ℕ) (n i : ℕ) → bytes ≡ held → n ≤ length (take i bytes) → take n (take i bytes) ≡ strip_carriage_return (take i bytes) → take n held ≡ strip_carriage_return (take i held)
text_at held bytes n i is within text =
    let le : n ≤ i = at_most (length bytes) i n (subst (λ (m : ℕ). n ≤ m) (length-take i bytes) within) in
    subst (λ (x : List ℕ). take n x ≡ strip_carriage_return (take i x)) is (sym (take-take n i bytes le) ∙ text)
  where
    at_most : (m i n : ℕ) → n ≤ min i m → n ≤ i
    at_most m i n le = omega arith

-- ---- bytes that settle nothing
-- a line that is not too long, without its end
pub settles_none : (raw : List ℕ) → NoNewline raw → is_overlong (strip_carriage_return raw) ≡ false → settled_lines raw ≡ []
settles_none raw none short = rw (slice_split_none is_newline raw none, short) refl

-- what is held, where it has no newline and its text is not too long
pub held_settles_none : (allowed n : ℕ) (held : List ℕ) → length held ≤ allowed → NoNewline held → take n held ≡ strip_carriage_return held → n ≤ line_limit → n ≤ length held → SettlesNothing allowed held
held_settles_none allowed n held le none text short within = (le, settles_none held none (by_size (strip_carriage_return held) (ap length (sym text) ∙ length-take-le n held within)))
  where
    by_size : (l : List ℕ) → length l ≡ n → is_overlong l ≡ false
    by_size l is = grind (arith, nat_tests)
