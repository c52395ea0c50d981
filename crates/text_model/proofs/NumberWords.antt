-- Words that stand for numbers: those that are printed of them.
use Rattle.std.proofs.Common.{◌≡◌, ℕ, zero, suc, ◌<◌, ◌^◌, ◌==◌, ◌&&◌, Bool, true, false, not, nat_lt, cond, List, [], ◌∷◌, length, get_or, eq-eqb, refl, sym, ap, ◌∙◌, Some, None, arith}
use Rattle.std.specs.Prelude.{decimal}
use Rattle.std.specs.Char.{is_ascii_digit}
use Rattle.std.specs.Str.{all_ascii_digits}
use Rattle.std.specs.Str.Parse.{digits_value}
use Rattle.std.proofs.lemmas.Bool.{and_parts, and_from, eqb-true, ltb-true, lt-ltb}
use Rattle.std.proofs.lemmas.Option.{same_Some}
use Rattle.std.proofs.lemmas.Fmt.{decimal-digits_value, digits_decimal, digits_value-decimal, decimal_nonempty, first_decimal, decimal_digit}
use Rattle.std.proofs.lemmas.Str.Parse.{IsNumeralModel, numerals_by_value, tells_all_ascii_digits}
use Rattle.text_model.specs.Words.{is_numeral, number_word}
use Rattle.text_model.specs.Laws.{NumbersAreDecimal}

-- texts of decimal digits, and what they stand for
pub digits_model : IsNumeralModel (λ ds. all_ascii_digits ds ≡ true) (digits_value 10)
digits_model = numerals_by_value (λ ds. all_ascii_digits ds ≡ true) tells_all_ascii_digits

-- ---- numerals
-- digits without a zero in front of others
pub numeral_from : (word : List ℕ) → all_ascii_digits word ≡ true → 0 < length word → (get_or word 0 0 ≡ 48 → length word ≡ 1) → is_numeral word ≡ true
numeral_from [] digits some lead = absurd (omega arith)
numeral_from (b ∷ []) digits some lead = (and_parts (is_ascii_digit b) true digits).0
numeral_from (b ∷ c ∷ bs) digits some lead = and_from (not (b == 48)) (all_ascii_digits (b ∷ c ∷ bs)) (go (b == 48) refl) digits
  where
    go : (v : Bool) → (b == 48) ≡ v → not v ≡ true
    go false is = refl
    go true is = let one : length (b ∷ c ∷ bs) ≡ 1 = lead (eqb-true b 48 is) in absurd (omega arith)

-- the digits of a numeral
pub numeral_digits : (word : List ℕ) → is_numeral word ≡ true → all_ascii_digits word ≡ true
numeral_digits [] is = let no : ⊥ = cc is in absurd no
numeral_digits (b ∷ []) is = and_from (is_ascii_digit b) true is refl
numeral_digits (b ∷ c ∷ bs) is = (and_parts (not (b == 48)) (all_ascii_digits (b ∷ c ∷ bs)) is).1

pub numeral_some : (word : List ℕ) → is_numeral word ≡ true → 0 < length word
numeral_some [] is = let no : ⊥ = cc is in absurd no
numeral_some (b ∷ bs) is = omega arith

-- a zero in front is all of it
pub numeral_lead : (word : List ℕ) → is_numeral word ≡ true → get_or word 0 0 ≡ 48 → length word ≡ 1
numeral_lead [] is zero_first = let no : ⊥ = cc is in absurd no
numeral_lead (b ∷ []) is zero_first = refl
numeral_lead (b ∷ c ∷ bs) is zero_first =
    let first : not (b == 48) ≡ true = (and_parts (not (b == 48)) (all_ascii_digits (b ∷ c ∷ bs)) is).0 in
    let no : ⊥ = cc (first, eq-eqb b 48 zero_first) in
    absurd no

-- ---- the number of a word
-- a numeral of at most 64 bits
pub number_of_numeral : (word : List ℕ) → is_numeral word ≡ true → digits_value 10 word < 2 ^ 64 → number_word word ≡ Some (digits_value 10 word)
number_of_numeral word is small = let within : nat_lt (digits_value 10 word) (2 ^ 64) ≡ true = lt-ltb (digits_value 10 word) (2 ^ 64) small in rw (is, within) refl

-- what a word is that is a number
pub record IsNumber (word : List ℕ) (n : ℕ) : Type 0 where
  pub numeral : is_numeral word ≡ true
  pub small : n < 2 ^ 64
  pub value : digits_value 10 word ≡ n

pub number_is : (word : List ℕ) (n : ℕ) → number_word word ≡ Some n → IsNumber word n
number_is word n = go (is_numeral word && nat_lt (digits_value 10 word) (2 ^ 64)) refl
  where
    go : (v : Bool) → (is_numeral word && nat_lt (digits_value 10 word) (2 ^ 64)) ≡ v → cond v (Some (digits_value 10 word)) None ≡ Some n → IsNumber word n
    go false is h = let no : ⊥ = cc h in absurd no
    go true is h =
        let both = and_parts (is_numeral word) (nat_lt (digits_value 10 word) (2 ^ 64)) is in
        let same : digits_value 10 word ≡ n = same_Some (digits_value 10 word) n h in
        let small : digits_value 10 word < 2 ^ 64 = ltb-true (digits_value 10 word) (2 ^ 64) both.1 in
        record { numeral = both.0; small = omega arith; value = same }

-- ---- printed numbers
printed_lead : (n : ℕ) → n < 2 ^ 64 → get_or (decimal n) 0 0 ≡ 48 → length (decimal n) ≡ 1
printed_lead zero small is = ap length (decimal_digit 0 (omega arith))
printed_lead (suc n) small is = let first : 48 < get_or (decimal (suc n)) 0 0 = first_decimal (suc n) (omega arith) small in absurd (omega arith)

printed_read : (n : ℕ) → n < 2 ^ 64 → number_word (decimal n) ≡ Some n
printed_read n small =
    let digits : all_ascii_digits (decimal n) ≡ true = digits_decimal digits_model n small in
    let value : digits_value 10 (decimal n) ≡ n = digits_value-decimal digits_model n small in
    let is : is_numeral (decimal n) ≡ true = numeral_from (decimal n) digits (decimal_nonempty n small) (printed_lead n small) in
    number_of_numeral (decimal n) is (omega arith) ∙ ap (λ (k : ℕ). Some k) value

read_printed : (word : List ℕ) (n : ℕ) → number_word word ≡ Some n → (n < 2 ^ 64) × (word ≡ decimal n)
read_printed word n h =
    let is = number_is word n h in
    let value : digits_value 10 word ≡ n = is.value in
    let small : n < 2 ^ 64 = is.small in
    let spelled : decimal (digits_value 10 word) ≡ word = decimal-digits_value digits_model word (numeral_digits word is.numeral) (numeral_some word is.numeral) (numeral_lead word is.numeral) (omega arith) in
    (small, sym spelled ∙ ap decimal value)

pub numbers_are_decimal : NumbersAreDecimal
numbers_are_decimal = record { reads = printed_read; only = read_printed }
