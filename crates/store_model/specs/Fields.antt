-- More fields: one byte, bytes that are given, and numbers of a fixed width.
use Rattle.std.specs.Prelude.{ℕ, ◌+◌, ◌&&◌, nat_lt, ◌==◌, if◌then◌else◌, List, [], ◌∷◌, length, get_or, Result, Ok, Err}
use Rattle.std.specs.Int.{Width, byte_len, from_be_bytes}
use Rattle.base_model.specs.Fields.{Field, ◌>>=◌, bytes_at}

-- one byte
unfoldable pub byte_at : {E : Type 0} → (ℕ → E) → List ℕ → ℕ → Field E ℕ
byte_at short bytes at = if nat_lt at (length bytes) then Ok (get_or bytes at 0, at + 1) else Err (short at)

-- just these bytes, and the place after them; the fault is at the first that is missing or another
unfoldable pub these_at : {E : Type 0} → (ℕ → E) → List ℕ → List ℕ → ℕ → Result ℕ E
these_at wrong [] bytes at = Ok at
these_at wrong (x ∷ xs) bytes at =
    if nat_lt at (length bytes) && get_or bytes at 0 == x then these_at wrong xs bytes (at + 1) else Err (wrong at)

-- a number in all the bytes of its width, the highest first
unfoldable pub big_endian_at : {E : Type 0} → (ℕ → E) → Width → List ℕ → ℕ → Field E ℕ
big_endian_at short w bytes at = do
  found ← bytes_at short (byte_len w) bytes at
  Ok (from_be_bytes w found.0, found.1)
