-- What digits in hexadecimal are read as.
use Rattle.std.specs.Prelude.{◌≡◌, ℕ, Bool, true, false, List, Option, Some, None, IsErr, Ok}
use Rattle.hex.specs.Hex.{decode_of, pair_value}

-- the byte of two digits, wherever they stand, or none where one of them is no digit
abbrev pub IsByteOf : ℕ → ℕ → Option ℕ → Type 0
IsByteOf high low (Some byte) = (i : ℕ) → pair_value high low i ≡ Ok byte
IsByteOf high low None = (i : ℕ) → IsErr (pair_value high low i)

-- the digits stand for the bytes, or one of them is no digit
abbrev pub Decodes : List ℕ → List ℕ → Bool → Type 0
Decodes digits bytes true = decode_of digits ≡ Ok bytes
Decodes digits bytes false = IsErr (decode_of digits)
