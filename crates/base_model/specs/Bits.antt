-- Numbers and bytes as bits, the highest in front.
use Rattle.std.specs.Prelude.{ℕ, zero, suc, ◌+◌, ◌%◌, ◌^◌, Bool, true, false, cond, nat_le, List, [], ◌∷◌, ◌++◌, length}

-- a number below 2 ^ w as w bits, highest first
abbrev pub bits_of : ℕ → ℕ → List Bool
bits_of zero n = []
bits_of (suc w) n = nat_le (2 ^ w) n ∷ bits_of w (n % 2 ^ w)

-- the number that bits stand for
abbrev pub number_of : List Bool → ℕ
number_of [] = 0
number_of (b ∷ bs) = cond b (2 ^ length bs) 0 + number_of bs

-- the bits of bytes
abbrev pub bits_of_bytes : List ℕ → List Bool
bits_of_bytes [] = []
bits_of_bytes (b ∷ bs) = bits_of 8 b ++ bits_of_bytes bs

abbrev pub byte_from : Bool → Bool → Bool → Bool → Bool → Bool → Bool → Bool → ℕ
byte_from a b c d e f g h = number_of (a ∷ b ∷ c ∷ d ∷ e ∷ f ∷ g ∷ h ∷ [])

-- bits in as many bytes as they need, the last one filled up with zeros
abbrev pub packed : List Bool → List ℕ
packed [] = []
packed (a ∷ []) = byte_from a false false false false false false false ∷ []
packed (a ∷ b ∷ []) = byte_from a b false false false false false false ∷ []
packed (a ∷ b ∷ c ∷ []) = byte_from a b c false false false false false ∷ []
packed (a ∷ b ∷ c ∷ d ∷ []) = byte_from a b c d false false false false ∷ []
packed (a ∷ b ∷ c ∷ d ∷ e ∷ []) = byte_from a b c d e false false false ∷ []
packed (a ∷ b ∷ c ∷ d ∷ e ∷ f ∷ []) = byte_from a b c d e f false false ∷ []
packed (a ∷ b ∷ c ∷ d ∷ e ∷ f ∷ g ∷ []) = byte_from a b c d e f g false ∷ []
packed (a ∷ b ∷ c ∷ d ∷ e ∷ f ∷ g ∷ h ∷ rest) = byte_from a b c d e f g h ∷ packed rest

-- no bit is set
abbrev pub are_zeros : List Bool → Bool
are_zeros [] = true
are_zeros (true ∷ bs) = false
are_zeros (false ∷ bs) = are_zeros bs
