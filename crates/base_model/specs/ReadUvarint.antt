-- What is read where the spelling of a number is to begin. Numbers have at most 64 bits, so at most ten bytes.
use Rattle.std.specs.Prelude.{◌≡◌, ◌<◌, ◌^◌, ◌++◌, ℕ, ◌+◌, ◌*◌, ◌%◌, suc, nat_le, nat_lt, ◌&&◌, if◌then◌else◌, List, [], ◌∷◌, length, get_or, take, drop, Result, Ok, Err}
use Rattle.base_model.specs.Bytes.{AreBytes}
use Rattle.base_model.specs.Uvarint.{uvarint}

-- why no number is read
pub data UvarintFault : Type 0 where
  Long : UvarintFault
  Short : UvarintFault
  NotShortest : UvarintFault

-- how many bytes with the high bit stand in front
abbrev pub high_run : List ℕ → ℕ
high_run [] = 0
high_run (b ∷ bs) = if nat_lt b 128 then 0 else suc (high_run bs)

-- the number of groups of seven bits, the lowest group first
abbrev pub groups_value : List ℕ → ℕ
groups_value [] = 0
groups_value (b ∷ bs) = b % 128 + 128 * groups_value bs

-- the number in front of the bytes, and how many bytes it has
-- Long: nine bytes with the high bit, and then one above 1; Short: the bytes end before one without the high bit;
-- NotShortest: the last byte is 0, and not the first
unfoldable pub uvarint_read : List ℕ → Result (ℕ × ℕ) UvarintFault
uvarint_read bytes =
    if nat_le 9 (high_run bytes) && nat_lt 1 (get_or bytes 9 0) then Err Long
    else if nat_le (length bytes) (high_run bytes) then Err Short
    else if nat_lt 0 (high_run bytes) && nat_le (get_or bytes (high_run bytes) 0) 0 then Err NotShortest
    else Ok (groups_value (take (suc (high_run bytes)) bytes), suc (high_run bytes))

-- a number and the place after it, from where it was read
abbrev pub placed : ℕ → Result (ℕ × ℕ) UvarintFault → Result (ℕ × ℕ) UvarintFault
placed at (Ok x) = Ok (x.0, at + x.1)
placed at (Err e) = Err e

-- the number at a place, and the place after it
abbrev pub uvarint_at : List ℕ → ℕ → Result (ℕ × ℕ) UvarintFault
uvarint_at bytes at = placed at (uvarint_read (drop at bytes))

-- what is spelled is read, whatever follows
abbrev pub SpelledNumbersAreRead : Type 0
SpelledNumbersAreRead = (n : ℕ) (rest : List ℕ) → n < 2 ^ 64 → uvarint_read (uvarint n ++ rest) ≡ Ok (n, length (uvarint n))

-- what is read is spelled so, and has at most 64 bits
abbrev pub ReadNumbersAreSpelled : Type 0
ReadNumbersAreSpelled =
    (bytes : List ℕ) (n k : ℕ) → AreBytes bytes → uvarint_read bytes ≡ Ok (n, k)
    → (n < 2 ^ 64) × (bytes ≡ uvarint n ++ drop k bytes) × (k ≡ length (uvarint n))
