-- The unsigned varint of Go's package encoding/binary, in its shortest spelling:
-- groups of seven bits, the lowest group first, the high bit set on all bytes but the last.
use Rattle.std.specs.Prelude.{◌≡◌, ℕ, zero, suc, ◌+◌, ◌/◌, ◌%◌, true, false, nat_lt, List, [], ◌∷◌, ◌++◌}

-- the spelling in at most f bytes
abbrev pub uvarint_within : ℕ → ℕ → List ℕ
uvarint_within zero n = []
uvarint_within (suc f) n = elim (nat_lt n 128) [ true ↦ n ∷ [] | false ↦ (128 + n % 128) ∷ uvarint_within f (n / 128) ]

-- the shortest spelling of a number, which has no more than n + 1 bytes
unfoldable pub uvarint : ℕ → List ℕ
uvarint n = uvarint_within (suc n) n

-- what follows a spelling tells nothing of it: equal strings that begin with spellings have one number
abbrev pub UvarintsArePrefixFree : Type 0
UvarintsArePrefixFree = (m n : ℕ) (x y : List ℕ) → uvarint m ++ x ≡ uvarint n ++ y → (m ≡ n) × (x ≡ y)

-- worked spellings
abbrev pub WorkedUvarints : Type 0
WorkedUvarints =
    (uvarint 0 ≡ 0x00 ∷ [])
    × (uvarint 127 ≡ 0x7f ∷ [])
    × (uvarint 128 ≡ 0x80 ∷ 0x01 ∷ [])
    × (uvarint 200 ≡ 0xc8 ∷ 0x01 ∷ [])
    × (uvarint 1024 ≡ 0x80 ∷ 0x08 ∷ [])
    × (uvarint 2048 ≡ 0x80 ∷ 0x10 ∷ [])
    × (uvarint 1048576 ≡ 0x80 ∷ 0x80 ∷ 0x40 ∷ [])
