-- The lines of an input of which only the front is read.
use Rattle.std.proofs.Common.{◌≡◌, ℕ, ◌+◌, ◌-◌, ◌≤◌, ◌==◌, Bool, true, false, nat_le, cond, List, [], ◌∷◌, ◌++◌, length, take, drop, slice_index, refl, sym, ap, ◌∙◌, Option, Some, None, arith, length-append, take-append-drop}
use Rattle.std.specs.List.{slice_split, onto_first}
use Rattle.std.specs.Option.{option_or}
use Rattle.std.specs.Str.Lines.{lines, lines_of_parts, strip_carriage_return}
use Rattle.std.proofs.lemmas.Bool.Decides.{nat_tests}
use Rattle.std.proofs.lemmas.List.{take-append-le, length-take-le, append-nil}
use Rattle.text_model.specs.Lines.{is_newline, is_overlong, cut_line, lines_of_cut, settled_lines, lines_within}
use Rattle.text_model.specs.FirstBad.{first_told, first_bad}
use Rattle.text_model.specs.Laws.{CutLines, RefusesOverlong, TellsOverlong, BadLineStays, OverlongLinesAreBad}

cut_front : (limit : ℕ) (front x : List ℕ) → length front ≡ limit + 1 → lines_within limit (front ++ x) ≡ settled_lines (take limit front)
cut_front limit front x long =
    let t : nat_le (length (front ++ x)) limit ≡ false = grind (arith, nat_tests, length-append front x) in
    rw (t, take-append-le limit front x (omega arith)) refl

all_lines : (limit : ℕ) (bytes : List ℕ) → length bytes ≤ limit → lines_within limit bytes ≡ lines bytes
all_lines limit bytes le =
    let t : nat_le (length bytes) limit ≡ true = grind (arith, nat_tests) in
    rw t refl

-- which lines are read, by the limit
pub cut_lines : CutLines
cut_lines = (λ limit front x y long. cut_front limit front x long ∙ sym (cut_front limit front y long), all_lines)

-- ---- the parts of two texts together
-- parts, of which the last goes on in the first of others
joined : List (List ℕ) → List (List ℕ) → List (List ℕ)
joined [] qs = qs
joined (p ∷ []) [] = p ∷ []
joined (p ∷ []) (q ∷ qs) = (p ++ q) ∷ qs
joined (p ∷ r ∷ ps) qs = p ∷ joined (r ∷ ps) qs

-- a list with a first element
pub record IsPart (ps : List (List ℕ)) : Type 0 where
  pub first : List ℕ
  pub others : List (List ℕ)
  pub is : ps ≡ first ∷ others

pub parts : (text : List ℕ) → IsPart (slice_split is_newline text)
parts [] = record { first = []; others = []; is = refl }
parts (b ∷ bs) = go (is_newline b) (slice_split is_newline bs) (parts bs)
  where
    go : (v : Bool) (ps : List (List ℕ)) → IsPart ps → IsPart (cond v ([] ∷ ps) (onto_first b ps))
    go true ps h = record { first = []; others = ps; is = refl }
    go false ps h = record { first = b ∷ h.first; others = h.others; is = ap (onto_first b) h.is }

joined_parts : (ps qs : List (List ℕ)) → IsPart qs → IsPart (joined ps qs)
unfolding joined
joined_parts [] qs h = h
joined_parts (p ∷ []) [] h = record { first = p; others = []; is = refl }
joined_parts (p ∷ []) (q ∷ qs) h = record { first = p ++ q; others = qs; is = refl }
joined_parts (p ∷ r ∷ ps) qs h = record { first = p; others = joined (r ∷ ps) qs; is = refl }

split_joined : (front rest : List ℕ) → slice_split is_newline (front ++ rest) ≡ joined (slice_split is_newline front) (slice_split is_newline rest)
unfolding joined
split_joined [] rest = let p = parts rest in rw p.is refl
split_joined (b ∷ front) rest = ap (λ (ps : List (List ℕ)). cond (is_newline b) ([] ∷ ps) (onto_first b ps)) (split_joined front rest) ∙ go (is_newline b) (slice_split is_newline front) (slice_split is_newline rest) (parts front) (parts rest)
  where
    go : (v : Bool) (ps qs : List (List ℕ)) → IsPart ps → IsPart qs → cond v ([] ∷ joined ps qs) (onto_first b (joined ps qs)) ≡ joined (cond v ([] ∷ ps) (onto_first b ps)) qs
    go v [] qs h k = let no : ⊥ = cc h.is in absurd no
    go v (p ∷ ps) [] h k = let no : ⊥ = cc k.is in absurd no
    go true (p ∷ []) (q ∷ qs) h k = refl
    go false (p ∷ []) (q ∷ qs) h k = refl
    go true (p ∷ r ∷ ps) (q ∷ qs) h k = refl
    go false (p ∷ r ∷ ps) (q ∷ qs) h k = refl

-- ---- bad lines
strip_least : (l : List ℕ) → length l ≤ length (strip_carriage_return l) + 1
strip_least l = go (slice_index l (length l - 1) == 13)
  where
    go : (b : Bool) → length l ≤ length (cond b (take (length l - 1) l) l) + 1
    go true = let e = length-take-le (length l - 1) l (omega arith) in omega arith
    go false = omega arith

pub strip_most : (l : List ℕ) → length (strip_carriage_return l) ≤ length l
strip_most l = go (slice_index l (length l - 1) == 13)
  where
    go : (b : Bool) → length (cond b (take (length l - 1) l) l) ≤ length l
    go true = let e = length-take-le (length l - 1) l (omega arith) in omega arith
    go false = omega arith

-- what is too long stays too long, whatever follows
stripped_grows : (p q : List ℕ) → length (strip_carriage_return p) ≤ length (strip_carriage_return (p ++ q))
stripped_grows p [] = let e : length (strip_carriage_return p) ≡ length (strip_carriage_return (p ++ [])) = ap (λ (l : List ℕ). length (strip_carriage_return l)) (sym (append-nil p)) in omega arith
stripped_grows p (b ∷ q) = omega (arith, strip_most p, strip_least (p ++ b ∷ q), length-append p (b ∷ q))

longer : (l m : List ℕ) → is_overlong l ≡ true → length l ≤ length m → is_overlong m ≡ true
longer l m h le = grind (arith, nat_tests)

grown : (p q : List ℕ) → is_overlong (strip_carriage_return p) ≡ true → is_overlong (strip_carriage_return (p ++ q)) ≡ true
grown p q h = longer (strip_carriage_return p) (strip_carriage_return (p ++ q)) h (stripped_grows p q)

-- whether a line is understood is a test that refuses lines of too many bytes
pub overlong_lines_are_bad : OverlongLinesAreBad
overlong_lines_are_bad kind line h = rw h refl

-- ---- how parts make lines
-- each part but the last is a line, and a last part that is too long is a line that is too long
pub record MakesLines (f : List (List ℕ) → List (List ℕ)) : Type 0 where
  pub next : (p r : List ℕ) (ps : List (List ℕ)) → f (p ∷ r ∷ ps) ≡ strip_carriage_return p ∷ f (r ∷ ps)
  pub long : (p : List ℕ) → is_overlong (strip_carriage_return p) ≡ true → (line : List ℕ) × (f (p ∷ []) ≡ line ∷ []) × (is_overlong line ≡ true)

-- so do the lines of a text that ends
pub makes_ended : MakesLines lines_of_parts
makes_ended = record { next = λ p r ps. refl; long = λ p h. (p, ended p (longer (strip_carriage_return p) p h (strip_most p)), longer (strip_carriage_return p) p h (strip_most p)) }
  where
    ended : (p : List ℕ) → is_overlong p ≡ true → lines_of_parts (p ∷ []) ≡ p ∷ []
    ended p h = let some : (length p == 0) ≡ false = grind (arith, nat_tests) in rw some refl

-- and those of a text that is cut
pub makes_cut : MakesLines lines_of_cut
makes_cut = record { next = λ p r ps. refl; long = λ p h. (strip_carriage_return p, rw h refl, h) }

-- a line before more parts
pub line_and : (f : List (List ℕ) → List (List ℕ)) → MakesLines f → (p : List ℕ) (ps : List (List ℕ)) → IsPart ps → f (p ∷ ps) ≡ strip_carriage_return p ∷ f ps
line_and f makes p [] h = let no : ⊥ = cc h.is in absurd no
line_and f makes p (r ∷ ps) h = makes.next p r ps

module _ {X : Type 0} (tells : ℕ → List ℕ → Option X) (long : ℕ → X) (over : TellsOverlong tells long) where
  -- of a line that is too long it is told that it is
  first_long : (n : ℕ) (line : List ℕ) (others : List (List ℕ)) → is_overlong line ≡ true → first_told tells n (line ∷ others) ≡ Some (long n)
  first_long n line others h = ap (λ o. option_or o (first_told tells (n + 1) others)) (over n line h)

  -- so it is of a part that is too long, whatever follows it
  long_part : (f : List (List ℕ) → List (List ℕ)) → MakesLines f → (n : ℕ) (p q : List ℕ) (qs : List (List ℕ)) → is_overlong (strip_carriage_return p) ≡ true → first_told tells n (f ((p ++ q) ∷ qs)) ≡ Some (long n)
  long_part f makes n p q [] h =
      let last = makes.long (p ++ q) (grown p q h) in
      ap (first_told tells n) last.1 ∙ first_long n last.0 [] last.2
  long_part f makes n p q (next ∷ qs) h =
      ap (first_told tells n) (makes.next (p ++ q) next qs)
      ∙ first_long n (strip_carriage_return (p ++ q)) (f (next ∷ qs)) (grown p q h)

  cut_told : (f : List (List ℕ) → List (List ℕ)) → MakesLines f → (n : ℕ) (x : X) (p q : List ℕ) (qs : List (List ℕ)) → first_told tells n (cut_line p) ≡ Some x → first_told tells n (f ((p ++ q) ∷ qs)) ≡ Some x
  cut_told f makes n x p q qs = go (is_overlong (strip_carriage_return p)) refl
    where
      go : (b : Bool) → is_overlong (strip_carriage_return p) ≡ b → first_told tells n (cond b (strip_carriage_return p ∷ []) []) ≡ Some x → first_told tells n (f ((p ++ q) ∷ qs)) ≡ Some x
      go true is h = long_part f makes n p q qs is ∙ sym (first_long n (strip_carriage_return p) [] is) ∙ h
      go false is h = let no : ⊥ = cc h in absurd no

  -- after a line, what is told of the later ones
  later_told : (o : Option X) (x : X) (later later' : Option X) → (later ≡ Some x → later' ≡ Some x) → option_or o later ≡ Some x → option_or o later' ≡ Some x
  later_told None x later later' stays h = stays h
  later_told (Some y) x later later' stays h = h

  -- what is told of the parts of a front is told of the whole
  told_on : (f : List (List ℕ) → List (List ℕ)) → MakesLines f → (n : ℕ) (x : X) (ps qs : List (List ℕ)) → IsPart qs → first_told tells n (lines_of_cut ps) ≡ Some x → first_told tells n (f (joined ps qs)) ≡ Some x
  unfolding joined
  told_on f makes n x [] qs some h = let no : ⊥ = cc h in absurd no
  told_on f makes n x (p ∷ []) [] some h = let no : ⊥ = cc some.is in absurd no
  told_on f makes n x (p ∷ []) (q ∷ qs) some h = cut_told f makes n x p q qs h
  told_on f makes n x (p ∷ r ∷ ps) qs some h =
      ap (first_told tells n) (line_and f makes p (joined (r ∷ ps) qs) (joined_parts (r ∷ ps) qs some))
      ∙ later_told (tells n (strip_carriage_return p)) x (first_told tells (n + 1) (lines_of_cut (r ∷ ps))) (first_told tells (n + 1) (f (joined (r ∷ ps) qs))) (told_on f makes (n + 1) x (r ∷ ps) qs some) h

  -- what is told of the lines that the first bytes of a text settle is told of the text
  pub settled_told : (f : List (List ℕ) → List (List ℕ)) → MakesLines f → (n : ℕ) (x : X) (front rest : List ℕ) → first_told tells n (settled_lines front) ≡ Some x → first_told tells n (f (slice_split is_newline (front ++ rest))) ≡ Some x
  settled_told f makes n x front rest h =
      ap (λ (ps : List (List ℕ)). first_told tells n (f ps)) (split_joined front rest)
      ∙ told_on f makes n x (slice_split is_newline front) (slice_split is_newline rest) (parts rest) h

-- ---- bad lines, by a test
-- a bad line, by its number
abbrev pub bad_number : (List ℕ → Bool) → ℕ → List ℕ → Option ℕ
bad_number good n line = cond (good line) None (Some n)

-- the first bad line is the first one of which its number is told
pub first_bad-told : (good : List ℕ → Bool) (n : ℕ) (ls : List (List ℕ)) → first_bad good n ls ≡ first_told (bad_number good) n ls
first_bad-told good n [] = refl
first_bad-told good n (line ∷ ls) = go (good line) (first_bad-told good (n + 1) ls)
  where
    go : (b : Bool) → first_bad good (n + 1) ls ≡ first_told (bad_number good) (n + 1) ls → cond b (first_bad good (n + 1) ls) (Some n) ≡ option_or (cond b None (Some n)) (first_told (bad_number good) (n + 1) ls)
    go true later = later
    go false later = refl

pub bad_overlong : (good : List ℕ → Bool) → RefusesOverlong good → TellsOverlong (bad_number good) (λ n. n)
bad_overlong good refuses n line h = ap (λ b. cond b None (Some n)) (refuses line h)

-- a bad line that the first bytes of a text settle is the first bad line of the text
pub settled_bad : (good : List ℕ → Bool) → RefusesOverlong good → (f : List (List ℕ) → List (List ℕ)) → MakesLines f → (n : ℕ) (front rest : List ℕ) → first_bad good 1 (settled_lines front) ≡ Some n → first_bad good 1 (f (slice_split is_newline (front ++ rest))) ≡ Some n
settled_bad good refuses f makes n front rest h =
    first_bad-told good 1 (f (slice_split is_newline (front ++ rest)))
    ∙ settled_told (bad_number good) (λ n. n) (bad_overlong good refuses) f makes 1 n front rest (sym (first_bad-told good 1 (settled_lines front)) ∙ h)

-- a bad line within the limit is the first bad line of the whole
pub bad_line_stays : BadLineStays
bad_line_stays good refuses limit bytes n = go (nat_le (length bytes) limit)
  where
    go : (b : Bool) → first_bad good 1 (cond b (lines bytes) (settled_lines (take limit bytes))) ≡ Some n → first_bad good 1 (lines bytes) ≡ Some n
    go true h = h
    go false h =
        ap (λ (text : List ℕ). first_bad good 1 (lines text)) (sym (take-append-drop limit bytes))
        ∙ settled_bad good refuses lines_of_parts makes_ended n (take limit bytes) (drop limit bytes) h
