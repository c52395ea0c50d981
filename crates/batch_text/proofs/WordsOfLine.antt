-- The words of a line, taken off its front.
use Rattle.std.proofs.Common.{◌≡◌, ℕ, zero, suc, ◌+◌, ◌-◌, ◌<◌, ◌==◌, true, false, not, cond, List, [], ◌∷◌, ◌++◌, length, take, drop, get_or, refl, sym, ◌∙◌, ap, subst, arith, length-drop, take-append-drop}
use Rattle.std.specs.List.{slice_split, filter, AllByRecursion}
use Rattle.std.proofs.lemmas.List.Elements.{recursion_from_All}
use Rattle.std.proofs.lemmas.List.Splits.{slice_split_at, slice_split_none, slice_split-cons_yes}
use Rattle.std.proofs.lemmas.List.{take_rest, drop_more, get_or-drop, length-take-le}
use Rattle.std.proofs.lemmas.Bool.Decides.{nat_tests}
use Rattle.text_model.specs.Words.{is_blank, is_word, words_of}
use Rattle.batch_text.specs.WordsOfLine.{AreBlanks, HasNoBlank}

-- a blank in front adds no word
words_of-blank : (b : ℕ) (line : List ℕ) → is_blank b ≡ true → words_of (b ∷ line) ≡ words_of line
words_of-blank b line h = ap (filter is_word) (slice_split-cons_yes is_blank b line h)

skip : (blanks rest : List ℕ) → AllByRecursion (λ b. is_blank b ≡ true) blanks → words_of (blanks ++ rest) ≡ words_of rest
skip [] rest h = refl
skip (b ∷ blanks) rest h = words_of-blank b (blanks ++ rest) h.0 ∙ skip blanks rest h.1

-- nor do several
pub words_of-blanks : (blanks rest : List ℕ) → AreBlanks blanks → words_of (blanks ++ rest) ≡ words_of rest
words_of-blanks blanks rest h = skip blanks rest (recursion_from_All (λ b. is_blank b ≡ true) blanks h)

-- a line of blanks has no word
pub words_of-blank_line : (line : List ℕ) → AreBlanks line → words_of line ≡ []
words_of-blank_line line h = none line (recursion_from_All (λ b. is_blank b ≡ true) line h)
  where
    none : (line : List ℕ) → AllByRecursion (λ b. is_blank b ≡ true) line → words_of line ≡ []
    none [] h = refl
    none (b ∷ line) h = words_of-blank b line h.0 ∙ none line h.1

is_word-some : (word : List ℕ) → 0 < length word → is_word word ≡ true
is_word-some word h = let s : (length word == 0) ≡ false = grind (arith, nat_tests) in ap not s

-- a part that is a word is kept
filter-word : (word : List ℕ) (parts : List (List ℕ)) → 0 < length word → filter is_word (word ∷ parts) ≡ word ∷ filter is_word parts
filter-word word parts h = ap (λ b. cond b (word ∷ filter is_word parts) (filter is_word parts)) (is_word-some word h)

-- a word that ends at a blank is the first
pub words_of-word : (word : List ℕ) (b : ℕ) (rest : List ℕ) → HasNoBlank word → 0 < length word → is_blank b ≡ true → words_of (word ++ b ∷ rest) ≡ word ∷ words_of (b ∷ rest)
words_of-word word b rest none some blank =
    ap (filter is_word) (slice_split_at is_blank word b rest none blank)
    ∙ filter-word word (slice_split is_blank rest) some
    ∙ ap (λ (words : List (List ℕ)). word ∷ words) (sym (words_of-blank b rest blank))

-- a line without blanks is one word
pub words_of-last : (word : List ℕ) → HasNoBlank word → 0 < length word → words_of word ≡ word ∷ []
words_of-last word none some = ap (filter is_word) (slice_split_none is_blank word none) ∙ filter-word word [] some

-- the line from a place on, where blanks alone stand before it
pub words_of-drop : (line : List ℕ) (start : ℕ) → AreBlanks (take start line) → words_of line ≡ words_of (drop start line)
words_of-drop line start h = ap words_of (sym (take-append-drop start line)) ∙ words_of-blanks (take start line) (drop start line) h

-- a part between two places is not empty, where a blank stands at its end alone
pub some_word : (rest : List ℕ) (end : ℕ) → is_blank (get_or rest 0 0) ≡ false → is_blank (get_or rest end 0) ≡ true → 0 < end
some_word rest zero h k = absurd (let no : false ≡ true = sym h ∙ k in cc)
some_word rest (suc end) h k = omega arith

-- what a line is cut into at its first blank
pub words_of-cut : (rest : List ℕ) (end : ℕ) → end < length rest → HasNoBlank (take end rest) → is_blank (get_or rest 0 0) ≡ false → is_blank (get_or rest end 0) ≡ true → words_of rest ≡ take end rest ∷ words_of (drop end rest)
words_of-cut rest end within none first blank =
    let some : 0 < end = some_word rest end first blank in
    let split : drop end rest ≡ get_or rest end 0 ∷ drop (end + 1) rest = drop_more rest end 0 within in
    let size : 0 < length (take end rest) = subst (λ (n : ℕ). 0 < n) (sym (length-take-le end rest (omega arith))) some in
    ap words_of (sym (take-append-drop end rest))
    ∙ ap (λ (l : List ℕ). words_of (take end rest ++ l)) split
    ∙ words_of-word (take end rest) (get_or rest end 0) (drop (end + 1) rest) none size blank
    ∙ ap (λ (l : List ℕ). take end rest ∷ words_of l) (sym split)

-- the same of the rest of a line from its first word on
pub words_of-first : (line rest : List ℕ) (start end : ℕ) → rest ≡ take (length line - start) (drop start line) → AreBlanks (take start line) → is_blank (get_or line start 0) ≡ false → end < length rest → HasNoBlank (take end rest) → is_blank (get_or rest end 0) ≡ true
    → words_of line ≡ take end rest ∷ words_of (take (length rest - end) (drop end rest))
words_of-first line rest start end is before first within none blank =
    let same : rest ≡ drop start line = is ∙ take_rest line start in
    let front : get_or rest 0 0 ≡ get_or line start 0 = ap (λ (l : List ℕ). get_or l 0 0) same ∙ get_or-drop start line 0 0 ∙ ap (λ (n : ℕ). get_or line n 0) (omega arith) in
    words_of-drop line start before
    ∙ ap words_of (sym same)
    ∙ words_of-cut rest end within none (ap is_blank front ∙ first) blank
    ∙ ap (λ (l : List ℕ). take end rest ∷ words_of l) (sym (take_rest rest end))

-- and of a rest without blanks
pub words_of-only : (line rest : List ℕ) (start : ℕ) → rest ≡ take (length line - start) (drop start line) → AreBlanks (take start line) → start < length line → HasNoBlank rest → words_of line ≡ rest ∷ []
words_of-only line rest start is before within none =
    let same : rest ≡ drop start line = is ∙ take_rest line start in
    words_of-drop line start before
    ∙ ap words_of (sym same)
    ∙ words_of-last rest none (omega (arith, ap length same, length-drop start line))
