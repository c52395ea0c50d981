-- The lines that the first bytes of an input settle.
use Rattle.std.proofs.Common.{◌≡◌, ℕ, ◌+◌, ◌-◌, ◌<◌, ◌≤◌, Bool, true, false, nat_le, cond, List, [], ◌∷◌, ◌++◌, length, take, map, refl, sym, ap, ◌∙◌, inl, inr, Option, Some, arith, append_assoc, length-append}
use Rattle.std.specs.List.{slice_split, onto_first}
use Rattle.std.specs.Str.Lines.{lines, lines_of_parts, strip_carriage_return}
use Rattle.std.proofs.Math.Seq.{take-append-add}
use Rattle.std.proofs.lemmas.Bool.{leb-true, leb-false, lt-leb}
use Rattle.std.proofs.lemmas.List.{take-append-le, take_all, append-nil}
use Rattle.text_model.specs.Lines.{is_newline, lines_of_cut, settled_lines, lines_within, AreWholeLines}
use Rattle.text_model.specs.FirstBad.{first_told, first_bad}
use Rattle.text_model.specs.Laws.{RefusesOverlong, TellsOverlong}
use Rattle.text_model.proofs.LinesWithin.{IsPart, parts, MakesLines, makes_ended, makes_cut, line_and, settled_told, bad_number, first_bad-told, bad_overlong}

-- ---- the front of a text that goes on
-- the first bytes of two texts, one behind the other
pub take_over : (a : ℕ) (xs ys : List ℕ) → take a (xs ++ ys) ≡ take a xs ++ take (a - length xs) ys
take_over a xs ys = by_order (nat_le a (length xs)) refl
  where
    by_order : (test : Bool) → nat_le a (length xs) ≡ test → take a (xs ++ ys) ≡ take a xs ++ take (a - length xs) ys
    by_order true is =
        let le : a ≤ length xs = leb-true a (length xs) is in
        let none : a - length xs ≡ 0 = omega arith in
        rw none (take-append-le a xs ys le ∙ sym (append-nil (take a xs)))
    by_order false is =
        let lt : length xs < a = leb-false a (length xs) is in
        let sum : a ≡ length xs + (a - length xs) = omega arith in
        let all : take a xs ≡ xs = take_all a xs (omega arith) in
        rw all (ap (λ (n : ℕ). take n (xs ++ ys)) sum ∙ take-append-add xs ys (a - length xs))

-- what is told of the lines that are settled within the limit is told of those within it, whatever follows
pub told_within : {X : Type 0} (tells : ℕ → List ℕ → Option X) (long : ℕ → X) → TellsOverlong tells long → (limit : ℕ) (front rest : List ℕ) (n : ℕ) (x : X) → first_told tells n (settled_lines (take limit front)) ≡ Some x → first_told tells n (lines_within limit (front ++ rest)) ≡ Some x
told_within tells long over limit front rest n x h = go (nat_le (length (front ++ rest)) limit) refl
  where
    whole : length (front ++ rest) ≤ limit → first_told tells n (lines (front ++ rest)) ≡ Some x
    whole le =
        let all : take limit front ≡ front = take_all limit front (omega (arith, length-append front rest)) in
        settled_told tells long over lines_of_parts makes_ended n x front rest (rw all at h)

    go : (b : Bool) → nat_le (length (front ++ rest)) limit ≡ b → first_told tells n (cond b (lines (front ++ rest)) (settled_lines (take limit (front ++ rest)))) ≡ Some x
    go true is = whole (leb-true (length (front ++ rest)) limit is)
    go false is =
        ap (λ (text : List ℕ). first_told tells n (settled_lines text)) (take_over limit front rest)
        ∙ settled_told tells long over lines_of_cut makes_cut n x (take limit front) (take (limit - length front) rest) h

-- a bad line that is settled within the limit is the first bad one of the lines within it, whatever follows
pub bad_within : (good : List ℕ → Bool) → RefusesOverlong good → (limit : ℕ) (front rest : List ℕ) (n : ℕ) → first_bad good 1 (settled_lines (take limit front)) ≡ Some n → first_bad good 1 (lines_within limit (front ++ rest)) ≡ Some n
bad_within good refuses limit front rest n h =
    first_bad-told good 1 (lines_within limit (front ++ rest))
    ∙ told_within (bad_number good) (λ n. n) (bad_overlong good refuses) limit front rest 1 n (sym (first_bad-told good 1 (settled_lines (take limit front))) ∙ h)

-- past the limit nothing that follows makes a difference
pub past_limit : (limit : ℕ) (front rest : List ℕ) → limit < length front → lines_within limit (front ++ rest) ≡ settled_lines (take limit front)
past_limit limit front rest lt =
    let t : nat_le (length (front ++ rest)) limit ≡ false = lt-leb (length (front ++ rest)) limit (omega (arith, length-append front rest)) in
    rw (t, take-append-le limit front rest (omega arith)) refl

-- ---- whole lines
-- the parts of two texts with a newline between them
split_between : (begun rest : List ℕ) → slice_split is_newline (begun ++ 10 ∷ rest) ≡ slice_split is_newline begun ++ slice_split is_newline rest
split_between [] rest = refl
split_between (b ∷ begun) rest = ap (λ (ps : List (List ℕ)). cond (is_newline b) ([] ∷ ps) (onto_first b ps)) (split_between begun rest) ∙ go (is_newline b) (slice_split is_newline begun) (slice_split is_newline rest) (parts begun)
  where
    go : (v : Bool) (ps qs : List (List ℕ)) → IsPart ps → cond v ([] ∷ (ps ++ qs)) (onto_first b (ps ++ qs)) ≡ cond v ([] ∷ ps) (onto_first b ps) ++ qs
    go v [] qs h = let no : ⊥ = cc h.is in absurd no
    go true (p ∷ ps) qs h = refl
    go false (p ∷ ps) qs h = refl

some_parts : (ps qs : List (List ℕ)) → IsPart qs → IsPart (ps ++ qs)
some_parts [] qs h = h
some_parts (p ∷ ps) qs h = record { first = p; others = ps ++ qs; is = refl }

-- parts before others are lines
lines_before : (f : List (List ℕ) → List (List ℕ)) → MakesLines f → (ps qs : List (List ℕ)) → IsPart qs → f (ps ++ qs) ≡ map strip_carriage_return ps ++ f qs
lines_before f makes [] qs h = refl
lines_before f makes (p ∷ ps) qs h = line_and f makes p (ps ++ qs) (some_parts ps qs h) ∙ ap (λ (ls : List (List ℕ)). strip_carriage_return p ∷ ls) (lines_before f makes ps qs h)

-- a text up to a newline, and the rest
lines_between : (f : List (List ℕ) → List (List ℕ)) → MakesLines f → (begun rest : List ℕ) → f (slice_split is_newline (begun ++ 10 ∷ rest)) ≡ map strip_carriage_return (slice_split is_newline begun) ++ f (slice_split is_newline rest)
lines_between f makes begun rest = ap f (split_between begun rest) ∙ lines_before f makes (slice_split is_newline begun) (slice_split is_newline rest) (parts rest)

-- whole lines are settled
pub whole_lines : (front : List ℕ) → AreWholeLines front → lines front ≡ settled_lines front
whole_lines front (inl none) = rw none refl
whole_lines front (inr ends) = rw ends.1 (lines_between lines_of_parts makes_ended ends.0 [] ∙ sym (lines_between lines_of_cut makes_cut ends.0 []))

-- what whole lines and the bytes behind them settle
pub settled_on : (front more : List ℕ) → AreWholeLines front → settled_lines (front ++ more) ≡ settled_lines front ++ settled_lines more
settled_on front more (inl none) = rw none refl
settled_on front more (inr ends) =
    let begun = ends.0 in
    let before = map strip_carriage_return (slice_split is_newline begun) in
    let all : settled_lines ((begun ++ 10 ∷ []) ++ more) ≡ before ++ settled_lines more = ap settled_lines (append_assoc begun (10 ∷ []) more) ∙ lines_between lines_of_cut makes_cut begun more in
    let first : settled_lines (begun ++ 10 ∷ []) ≡ before = lines_between lines_of_cut makes_cut begun [] ∙ append-nil before in
    rw ends.1 (all ∙ ap (λ (ls : List (List ℕ)). ls ++ settled_lines more) (sym first))
