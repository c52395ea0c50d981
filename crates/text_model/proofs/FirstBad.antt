-- The first bad line, by its place.
use Rattle.std.proofs.Common.{◌≡◌, ℕ, ◌+◌, Bool, true, false, cond, List, [], ◌∷◌, ◌++◌, length, refl, ap, ◌∙◌, Some, None, arith}
use Rattle.std.proofs.lemmas.Option.{same_Some}
use Rattle.text_model.specs.FirstBad.{first_bad}
use Rattle.text_model.specs.Laws.{AreGood, IsFirstBad, FirstBadLine}

-- the same, where the first line has the number m
record IsFirstFrom (good : List ℕ → Bool) (m : ℕ) (lines : List (List ℕ)) (n : ℕ) : Type 0 where
  before : List (List ℕ)
  line : List ℕ
  after : List (List ℕ)
  parts : lines ≡ before ++ line ∷ after
  place : n ≡ m + length before
  passed : AreGood good before
  bad : good line ≡ false

-- ---- one line
-- a good line has no part in what is bad
pub good_first : (good : List ℕ → Bool) (n : ℕ) (line : List ℕ) (lines : List (List ℕ)) → good line ≡ true → first_bad good n (line ∷ lines) ≡ first_bad good (n + 1) lines
good_first good n line lines h = ap (λ (b : Bool). cond b (first_bad good (n + 1) lines) (Some n)) h

-- a bad line is the first bad one
pub bad_first : (good : List ℕ → Bool) (n : ℕ) (line : List ℕ) (lines : List (List ℕ)) → good line ≡ false → first_bad good n (line ∷ lines) ≡ Some n
bad_first good n line lines h = ap (λ (b : Bool). cond b (first_bad good (n + 1) lines) (Some n)) h

-- ---- the place that is told
found : (good : List ℕ → Bool) (m : ℕ) (lines : List (List ℕ)) (n : ℕ) → first_bad good m lines ≡ Some n → IsFirstFrom good m lines n
found good m [] n h = let no : ⊥ = cc h in absurd no
found good m (line ∷ lines) n h = go (good line) refl (found good (m + 1) lines n) h
  where
    go : (b : Bool) → good line ≡ b → (first_bad good (m + 1) lines ≡ Some n → IsFirstFrom good (m + 1) lines n) → cond b (first_bad good (m + 1) lines) (Some m) ≡ Some n → IsFirstFrom good m (line ∷ lines) n
    go false is later h = record { before = []; line = line; after = lines; parts = refl; place = let e : m ≡ n = same_Some m n h in omega arith; passed = tt; bad = is }
    go true is later h =
        let f = later h in
        record {
          before = line ∷ f.before;
          line = f.line;
          after = f.after;
          parts = ap (λ (l : List (List ℕ)). line ∷ l) f.parts;
          place = let e = f.place in omega arith;
          passed = (is, f.passed);
          bad = f.bad;
        }

counted : (good : List ℕ → Bool) (m : ℕ) (before : List (List ℕ)) (line : List ℕ) (after : List (List ℕ)) → AreGood good before → good line ≡ false → first_bad good m (before ++ line ∷ after) ≡ Some (m + length before)
counted good m [] line after passed bad = bad_first good m line after bad ∙ ap (λ (n : ℕ). Some n) (let e : m ≡ m + 0 = omega arith in e)
counted good m (first ∷ before) line after passed bad =
    good_first good m first (before ++ line ∷ after) passed.0
    ∙ counted good (m + 1) before line after passed.1 bad
    ∙ ap (λ (n : ℕ). Some n) (let e : m + 1 + length before ≡ m + length (first ∷ before) = omega arith in e)

all_good : (good : List ℕ → Bool) (m : ℕ) (lines : List (List ℕ)) → first_bad good m lines ≡ None → AreGood good lines
all_good good m [] h = tt
all_good good m (line ∷ lines) h = go (good line) refl (all_good good (m + 1) lines) h
  where
    go : (b : Bool) → good line ≡ b → (first_bad good (m + 1) lines ≡ None → AreGood good lines) → cond b (first_bad good (m + 1) lines) (Some m) ≡ None → AreGood good (line ∷ lines)
    go false is later h = let no : ⊥ = cc h in absurd no
    go true is later h = (is, later h)

none_bad : (good : List ℕ → Bool) (m : ℕ) (lines : List (List ℕ)) → AreGood good lines → first_bad good m lines ≡ None
none_bad good m [] h = refl
none_bad good m (line ∷ lines) h = good_first good m line lines h.0 ∙ none_bad good (m + 1) lines h.1

from_one : (good : List ℕ → Bool) (lines : List (List ℕ)) (n : ℕ) → IsFirstFrom good 1 lines n → IsFirstBad good lines n
from_one good lines n f = record { before = f.before; line = f.line; after = f.after; parts = f.parts; place = let e = f.place in omega arith; passed = f.passed; bad = f.bad }

at_place : (good : List ℕ → Bool) (lines : List (List ℕ)) (n : ℕ) → IsFirstBad good lines n → first_bad good 1 lines ≡ Some n
at_place good lines n f =
    ap (first_bad good 1) f.parts ∙ counted good 1 f.before f.line f.after f.passed f.bad
    ∙ ap (λ (k : ℕ). Some k) (let p = f.place in let e : 1 + length f.before ≡ n = omega arith in e)

-- the number that is told is that of the first bad line
pub first_bad_line : FirstBadLine
first_bad_line good lines = (λ n. (λ h. from_one good lines n (found good 1 lines n h), at_place good lines n), (all_good good 1 lines, none_bad good 1 lines))
