-- Lines that tell a root behind a number.
use Rattle.std.proofs.Common.{◌≡◌, ℕ, ◌*◌, ◌<◌, ◌^◌, List, [], ◌∷◌, ◌++◌, length, ap, arith, length-append}
use Rattle.std.specs.Prelude.{codes, decimal}
use Rattle.std.proofs.lemmas.List.{append_cancel_left, append_cancel_right}
use Rattle.std.proofs.lemmas.Fmt.{decimal_injective}
use Rattle.hex.specs.Hex.{encode_lower, lower_digits}
use Rattle.hex.proofs.HexLemmas.{length-encode_with}
use Rattle.base_model.proofs.UvarintLemmas.{fronts}
use Rattle.text_model.specs.Texts.{numbered_text}
use Rattle.text_model.specs.Laws.{NumberedLines}
use Rattle.text_model.proofs.PrintedBytes.{same_digits}

-- what stands in front of the digits
abbrev front : List ℕ → ℕ → List ℕ
front sort n = sort ++ decimal n ++ codes " "

-- lines of equally many digits are cut at one place
cut : (sort : List ℕ) (m n : ℕ) (x y : List ℕ) → length x ≡ length y → numbered_text sort m x ≡ numbered_text sort n y → (front sort m ≡ front sort n) × (encode_lower x ≡ encode_lower y)
cut sort m n x y h e =
    let one : front sort m ++ encode_lower x ≡ front sort n ++ encode_lower y = append_cancel_right (front sort m ++ encode_lower x) (front sort n ++ encode_lower y) (10 ∷ []) e in
    let lx : length (encode_lower x) ≡ 2 * length x = length-encode_with lower_digits x in
    let ly : length (encode_lower y) ≡ 2 * length y = length-encode_with lower_digits y in
    let size : length (front sort m) ≡ length (front sort n) = omega (arith, ap length one, length-append (front sort m) (encode_lower x), length-append (front sort n) (encode_lower y)) in
    fronts (front sort m) (front sort n) (encode_lower x) (encode_lower y) size one

number : (sort : List ℕ) (m n : ℕ) → m < 2 ^ 64 → n < 2 ^ 64 → front sort m ≡ front sort n → m ≡ n
number sort m n p q e = decimal_injective m n p q (append_cancel_left sort (decimal m) (decimal n) (append_cancel_right (sort ++ decimal m) (sort ++ decimal n) (codes " ") e))

pub numbered_lines : NumberedLines
numbered_lines sort m n x y p q hx hy h e = let parts = cut sort m n x y h e in (number sort m n p q parts.0, same_digits x y hx hy parts.1)
