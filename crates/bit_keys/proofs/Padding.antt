use Rattle.std.proofs.Common.{◌≡◌, ℕ, ◌+◌, ◌*◌, ◌<◌, Bool, false, List, [], ◌∷◌, ◌++◌, length, refl, ap, ◌∙◌, arith, replicate}
use Rattle.std.specs.List.{AllByRecursion}
use Rattle.base_model.proofs.Bits.{number-small, bits_of-number_of}
use Rattle.trie_model.specs.Bits.{bits_of, bits_of_bytes, packed, byte_from}

-- how many zeros fill up the last byte
abbrev pub pad : List Bool → ℕ
pad [] = 0
pad (a ∷ []) = 7
pad (a ∷ b ∷ []) = 6
pad (a ∷ b ∷ c ∷ []) = 5
pad (a ∷ b ∷ c ∷ d ∷ []) = 4
pad (a ∷ b ∷ c ∷ d ∷ e ∷ []) = 3
pad (a ∷ b ∷ c ∷ d ∷ e ∷ f ∷ []) = 2
pad (a ∷ b ∷ c ∷ d ∷ e ∷ f ∷ g ∷ []) = 1
pad (a ∷ b ∷ c ∷ d ∷ e ∷ f ∷ g ∷ h ∷ k) = pad k

-- with these zeros the bytes are full
pub pad-fills : (k : List Bool) → (length k + pad k ≡ 8 * length (packed k)) × (pad k < 8)
pad-fills [] = (refl, omega arith)
pad-fills (a ∷ []) = (refl, omega arith)
pad-fills (a ∷ b ∷ []) = (refl, omega arith)
pad-fills (a ∷ b ∷ c ∷ []) = (refl, omega arith)
pad-fills (a ∷ b ∷ c ∷ d ∷ []) = (refl, omega arith)
pad-fills (a ∷ b ∷ c ∷ d ∷ e ∷ []) = (refl, omega arith)
pad-fills (a ∷ b ∷ c ∷ d ∷ e ∷ f ∷ []) = (refl, omega arith)
pad-fills (a ∷ b ∷ c ∷ d ∷ e ∷ f ∷ g ∷ []) = (refl, omega arith)
pad-fills (a ∷ b ∷ c ∷ d ∷ e ∷ f ∷ g ∷ h ∷ k) = let r = pad-fills k in (omega (arith, r.0), r.1)

-- so many zeros
abbrev pub zeros : ℕ → List Bool
zeros n = replicate n false

-- the bits of a byte made of eight bits
eight : (a b c d e f g h : Bool) → bits_of 8 (byte_from a b c d e f g h) ≡ a ∷ b ∷ c ∷ d ∷ e ∷ f ∷ g ∷ h ∷ []
eight a b c d e f g h = bits_of-number_of (a ∷ b ∷ c ∷ d ∷ e ∷ f ∷ g ∷ h ∷ [])

-- the bits of packed bits are these and zeros
pub unpacked : (k : List Bool) → bits_of_bytes (packed k) ≡ k ++ zeros (pad k)
unpacked [] = refl
unpacked (a ∷ []) = rw (eight a false false false false false false false)
unpacked (a ∷ b ∷ []) = rw (eight a b false false false false false false)
unpacked (a ∷ b ∷ c ∷ []) = rw (eight a b c false false false false false)
unpacked (a ∷ b ∷ c ∷ d ∷ []) = rw (eight a b c d false false false false)
unpacked (a ∷ b ∷ c ∷ d ∷ e ∷ []) = rw (eight a b c d e false false false)
unpacked (a ∷ b ∷ c ∷ d ∷ e ∷ f ∷ []) = rw (eight a b c d e f false false)
unpacked (a ∷ b ∷ c ∷ d ∷ e ∷ f ∷ g ∷ []) = rw (eight a b c d e f g false)
unpacked (a ∷ b ∷ c ∷ d ∷ e ∷ f ∷ g ∷ h ∷ k) =
    ap (λ bits. bits ++ bits_of_bytes (packed k)) (eight a b c d e f g h) ∙ ap (λ r. a ∷ b ∷ c ∷ d ∷ e ∷ f ∷ g ∷ h ∷ r) (unpacked k)

-- packed bits are bytes
pub packed-bytes : (k : List Bool) → AllByRecursion (λ b. b < 256) (packed k)
packed-bytes [] = tt
packed-bytes (a ∷ []) = (number-small (a ∷ false ∷ false ∷ false ∷ false ∷ false ∷ false ∷ false ∷ []), tt)
packed-bytes (a ∷ b ∷ []) = (number-small (a ∷ b ∷ false ∷ false ∷ false ∷ false ∷ false ∷ false ∷ []), tt)
packed-bytes (a ∷ b ∷ c ∷ []) = (number-small (a ∷ b ∷ c ∷ false ∷ false ∷ false ∷ false ∷ false ∷ []), tt)
packed-bytes (a ∷ b ∷ c ∷ d ∷ []) = (number-small (a ∷ b ∷ c ∷ d ∷ false ∷ false ∷ false ∷ false ∷ []), tt)
packed-bytes (a ∷ b ∷ c ∷ d ∷ e ∷ []) = (number-small (a ∷ b ∷ c ∷ d ∷ e ∷ false ∷ false ∷ false ∷ []), tt)
packed-bytes (a ∷ b ∷ c ∷ d ∷ e ∷ f ∷ []) = (number-small (a ∷ b ∷ c ∷ d ∷ e ∷ f ∷ false ∷ false ∷ []), tt)
packed-bytes (a ∷ b ∷ c ∷ d ∷ e ∷ f ∷ g ∷ []) = (number-small (a ∷ b ∷ c ∷ d ∷ e ∷ f ∷ g ∷ false ∷ []), tt)
packed-bytes (a ∷ b ∷ c ∷ d ∷ e ∷ f ∷ g ∷ h ∷ k) = (number-small (a ∷ b ∷ c ∷ d ∷ e ∷ f ∷ g ∷ h ∷ []), packed-bytes k)
