-- A table of the values of digits, against what a digit is.
use Rattle.std.proofs.Common.{◌≡◌, ℕ, zero, suc, ◌<◌, ◌≤◌, ◌==◌, ◌&&◌, Bool, true, List, get_or, Option, Some, None, unwrap_or, refl, ap, arith, inl, inr}
use Rattle.std.proofs.lemmas.Bool.{and_parts, cases_lt, eqb-true}
use Rattle.std.proofs.lemmas.Bool.Decides.{nat_tests}
use Rattle.hex.specs.Hex.{hex_digit_value}
use Rattle.batch_text.specs.declared.digits.TheConstants.{VALUES}

-- the table has the value of this byte as a digit, or 255 where it is none
abbrev is_told : List ℕ → ℕ → Bool
is_told table byte = get_or table byte 0 == unwrap_or (hex_digit_value byte) 255

-- the same of all bytes below n
abbrev are_told : List ℕ → ℕ → Bool
are_told table zero = true
are_told table (suc n) = is_told table n && are_told table n

are_told-at : (table : List ℕ) (n byte : ℕ) → are_told table n ≡ true → byte < n → is_told table byte ≡ true
are_told-at table zero byte h below = absurd (omega arith)
are_told-at table (suc n) byte h below =
    let parts = and_parts (is_told table n) (are_told table n) h in
    elim (cases_lt byte n) [
      | inl lower ↦ are_told-at table n byte parts.1 lower
      | inr last ↦ let same : byte ≡ n = omega arith in rw same parts.0
    ]

pub value_told : (byte : ℕ) → byte < 256 → get_or VALUES byte 0 ≡ unwrap_or (hex_digit_value byte) 255
value_told byte below = eqb-true (get_or VALUES byte 0) (unwrap_or (hex_digit_value byte) 255) (are_told-at VALUES 256 byte refl below)

-- a value below 16 is that of a digit
pub told_some : (value : ℕ) (digit : Option ℕ) → value ≡ unwrap_or digit 255 → value < 16 → Some value ≡ digit
told_some value (Some v) same small = ap Some same
told_some value None same small = absurd (omega arith)

hex_digit_value-below : (byte value : ℕ) → hex_digit_value byte ≡ Some value → value < 16
hex_digit_value-below byte value is = grind (arith, nat_tests)

-- and another one is told of what is no digit
pub told_none : (byte value : ℕ) (digit : Option ℕ) → hex_digit_value byte ≡ digit → value ≡ unwrap_or digit 255 → 16 ≤ value → None ≡ digit
told_none byte value (Some v) is same large = let small = hex_digit_value-below byte v is in absurd (omega arith)
told_none byte value None is same large = refl
