-- What a word of digits is parsed as, against the number that it stands for.
use Rattle.std.proofs.Common.{◌≡◌, ◌≢◌, ℕ, ◌^◌, ◌==◌, ◌&&◌, Bool, true, false, not, nat_lt, List, [], ◌∷◌, length, refl, sym, ap, ◌∙◌, Some, None, Result, Ok, Err, arith}
use Rattle.std.specs.Char.{is_ascii_digit}
use Rattle.std.specs.List.{list_all}
use Rattle.std.specs.Result.{result_ok}
use Rattle.std.specs.Str.{IsUtf8, all_ascii_digits}
use Rattle.std.specs.Str.Parse.{digits_value, ParsesUnsigned}
use Rattle.std.proofs.lemmas.Bool.{eqb-true, ltb-true}
use Rattle.std.proofs.lemmas.Bool.Decides.{nat_tests}
use Rattle.std.proofs.lemmas.Fmt.{IsAscii-from_digits}
use Rattle.std.proofs.lemmas.Str.{IsUtf8-from_ascii}
use Rattle.std.proofs.lemmas.Str.Parse.{parse_digits}
use Rattle.text_model.specs.Words.{is_numeral, number_word}
use Rattle.text_model.proofs.NumberWords.{digits_model, numeral_digits, numeral_some, number_of_numeral}

-- ---- numerals
and_true : (b : Bool) → b ≡ (b && true)
and_true true = refl
and_true false = refl

all_digits : (word : List ℕ) → list_all is_ascii_digit word ≡ all_ascii_digits word
all_digits [] = refl
all_digits (b ∷ bs) = ap (λ (v : Bool). is_ascii_digit b && v) (all_digits bs)

no_zero : (b : ℕ) → b ≢ 48 → not (b == 48) ≡ true
no_zero b other = go (b == 48) refl
  where
    go : (v : Bool) → (b == 48) ≡ v → not v ≡ true
    go false is = refl
    go true is = absurd (other (eqb-true b 48 is))

-- a word that begins with a 0 is a numeral where that is all
pub zero_tested : (rest : List ℕ) → (length rest == 0) ≡ is_numeral (48 ∷ rest)
zero_tested [] = refl
zero_tested (b ∷ bs) = grind (arith, nat_tests)

-- and another one where it has digits alone
pub digits_tested : (first : ℕ) (rest : List ℕ) → first ≢ 48 → list_all is_ascii_digit (first ∷ rest) ≡ is_numeral (first ∷ rest)
digits_tested b [] other = sym (and_true (is_ascii_digit b))
digits_tested b (c ∷ bs) other = all_digits (b ∷ c ∷ bs) ∙ sym (ap (λ (v : Bool). v && all_ascii_digits (b ∷ c ∷ bs)) (no_zero b other))

-- ---- numbers
-- a numeral is text
pub numeral_text : (word : List ℕ) → is_numeral word ≡ true → IsUtf8 word
numeral_text word is = IsUtf8-from_ascii word (IsAscii-from_digits word (digits_model.to word (numeral_digits word is)))

-- what it is parsed as is its number
pub numeral_parsed : {E : Type 0} (word : List ℕ) (r : Result ℕ E) → is_numeral word ≡ true → ParsesUnsigned 64 10 word r → result_ok r ≡ number_word word
numeral_parsed {E} word (Ok n) is parsed =
    let read = parse_digits digits_model {E = E} 64 word (Ok n) parsed (numeral_digits word is) in
    ap (λ (k : ℕ). Some k) read.1 ∙ sym (number_of_numeral word is read.0.1)
numeral_parsed {E} word (Err e) is parsed = go (nat_lt (digits_value 10 word) (2 ^ 64)) refl
  where
    go : (v : Bool) → nat_lt (digits_value 10 word) (2 ^ 64) ≡ v → None ≡ number_word word
    go false large = rw (is, large) refl
    go true small = absurd (parse_digits digits_model {E = E} 64 word (Err e) parsed (numeral_digits word is) (numeral_some word is, ltb-true (digits_value 10 word) (2 ^ 64) small))
