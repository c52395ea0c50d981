-- Reading field by field, from the left. A field is read at a place: its value and the place after it, or a fault.
-- What a fault is depends on what is read, so each field is given its faults, as functions of the place of its first byte.
use Rattle.std.specs.Prelude.{ℕ, ◌+◌, ◌-◌, ◌/◌, Bool, true, false, cond, nat_le, nat_lt, ◌==◌, if◌then◌else◌, List, [], ◌∷◌, length, get_or, take, drop, Result, Ok, Err}
use Rattle.base_model.specs.Bits.{bits_of_bytes, are_zeros}
use Rattle.base_model.specs.ReadUvarint.{UvarintFault, uvarint_at}

-- a value and the place after it, or a fault
abbrev pub Field : Type 0 → Type 0 → Type 0
Field E A = Result (A × ℕ) E

-- one step after another: the first fault ends it
infixl 10 ◌>>=◌
abbrev pub ◌>>=◌ : {E A B : Type 0} → Result A E → (A → Result B E) → Result B E
(Ok x) >>= f = f x
(Err e) >>= f = Err e

abbrev pub number_or_fault : {E : Type 0} → (ℕ → UvarintFault → E) → ℕ → Result (ℕ × ℕ) UvarintFault → Field E ℕ
number_or_fault bad at (Ok x) = Ok x
number_or_fault bad at (Err why) = Err (bad at why)

-- a uvarint
unfoldable pub number_at : {E : Type 0} → (ℕ → UvarintFault → E) → List ℕ → ℕ → Field E ℕ
number_at bad bytes at = number_or_fault bad at (uvarint_at bytes at)

-- n bytes
unfoldable pub bytes_at : {E : Type 0} → (ℕ → E) → ℕ → List ℕ → ℕ → Field E (List ℕ)
bytes_at short n bytes at = if nat_lt (length bytes - at) n then Err (short at) else Ok (take n (drop at bytes), at + n)

-- how a flag is spelled
abbrev pub flag_form : Bool → List ℕ
flag_form b = cond b 1 0 ∷ []

-- a flag
unfoldable pub flag_at : {E : Type 0} → (ℕ → E) → (ℕ → E) → List ℕ → ℕ → Field E Bool
flag_at short bad bytes at =
    if nat_le (length bytes) at then Err (short at)
    else if get_or bytes at 0 == 0 then Ok (false, at + 1)
    else if get_or bytes at 0 == 1 then Ok (true, at + 1)
    else Err (bad at)

-- n bits in as many bytes as they need, with zeros behind them
unfoldable pub bits_at : {E : Type 0} → (ℕ → E) → (ℕ → E) → ℕ → List ℕ → ℕ → Field E (List Bool)
bits_at short padding n bytes at = do
  packed ← bytes_at short ((n + 7) / 8) bytes at
  if are_zeros (drop n (bits_of_bytes packed.0)) then Ok (take n (bits_of_bytes packed.0), packed.1) else Err (padding at)
