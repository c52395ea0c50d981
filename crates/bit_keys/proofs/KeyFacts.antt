use Rattle.std.proofs.Common.{◌≡◌, ℕ, zero, suc, ◌*◌, ◌^◌, ◌<◌, ◌≤◌, Bool, false, List, [], ◌∷◌, length, length-take, get_or, take, drop, refl, sym, ap, ◌∙◌, arith, subst}
use Rattle.base_model.proofs.Bits.{number-small}
use Rattle.base_model.proofs.PackedBits.{take-packed, length-bits_of_bytes}
use Rattle.trie_model.proofs.Keys.{length-key}
use Rattle.trie_model.specs.Bits.{bits_of_bytes, packed, number_of}
use Rattle.bit_keys.specs.Branch.{width_of, factor_of}
use Rattle.bit_keys.specs.declared.branch.Branch.{Branch}
use Rattle.bit_keys.specs.declared.branch.Branch.TheVariants.{B2, B4, B16, B256}

-- inside a list the default is never read
pub same_default : (bs : List ℕ) (i x y : ℕ) → i < length bs → get_or bs i x ≡ get_or bs i y
same_default [] i x y h = absurd (omega arith)
same_default (b ∷ bs) zero x y h = refl
same_default (b ∷ bs) (suc i) x y h = same_default bs i x y (omega arith)

-- a token has a bit to a byte's eight
pub width_small : (b : Branch) → width_of b ≤ 8
width_small B2 = omega arith
width_small B4 = omega arith
width_small B16 = omega arith
width_small B256 = omega arith

-- and one at least
pub width_pos : (b : Branch) → 0 < width_of b
width_pos B2 = omega arith
width_pos B4 = omega arith
width_pos B16 = omega arith
width_pos B256 = omega arith

-- past its one byte such a list reads as zero
one_small : (b i : ℕ) → b < 256 → get_or (b ∷ []) i 0 < 256
one_small b zero h = h
one_small b (suc i) h = omega arith

-- nothing is left behind the end
pub drop_past : {A : Type 0} (n : ℕ) (a : List A) → length a ≤ n → drop n a ≡ []
drop_past zero [] h = refl
drop_past zero (x ∷ a) h = absurd (omega arith)
drop_past (suc n) [] h = refl
drop_past (suc n) (x ∷ a) h = drop_past n a (omega arith)

-- packed bits are bytes
pub packed-small : (k : List Bool) (i : ℕ) → get_or (packed k) i 0 < 256
packed-small [] i = omega arith
packed-small (a ∷ []) i = one_small (number_of (a ∷ false ∷ false ∷ false ∷ false ∷ false ∷ false ∷ false ∷ [])) i (number-small (a ∷ false ∷ false ∷ false ∷ false ∷ false ∷ false ∷ false ∷ []))
packed-small (a ∷ b ∷ []) i = one_small (number_of (a ∷ b ∷ false ∷ false ∷ false ∷ false ∷ false ∷ false ∷ [])) i (number-small (a ∷ b ∷ false ∷ false ∷ false ∷ false ∷ false ∷ false ∷ []))
packed-small (a ∷ b ∷ c ∷ []) i = one_small (number_of (a ∷ b ∷ c ∷ false ∷ false ∷ false ∷ false ∷ false ∷ [])) i (number-small (a ∷ b ∷ c ∷ false ∷ false ∷ false ∷ false ∷ false ∷ []))
packed-small (a ∷ b ∷ c ∷ d ∷ []) i = one_small (number_of (a ∷ b ∷ c ∷ d ∷ false ∷ false ∷ false ∷ false ∷ [])) i (number-small (a ∷ b ∷ c ∷ d ∷ false ∷ false ∷ false ∷ false ∷ []))
packed-small (a ∷ b ∷ c ∷ d ∷ e ∷ []) i = one_small (number_of (a ∷ b ∷ c ∷ d ∷ e ∷ false ∷ false ∷ false ∷ [])) i (number-small (a ∷ b ∷ c ∷ d ∷ e ∷ false ∷ false ∷ false ∷ []))
packed-small (a ∷ b ∷ c ∷ d ∷ e ∷ f ∷ []) i = one_small (number_of (a ∷ b ∷ c ∷ d ∷ e ∷ f ∷ false ∷ false ∷ [])) i (number-small (a ∷ b ∷ c ∷ d ∷ e ∷ f ∷ false ∷ false ∷ []))
packed-small (a ∷ b ∷ c ∷ d ∷ e ∷ f ∷ g ∷ []) i = one_small (number_of (a ∷ b ∷ c ∷ d ∷ e ∷ f ∷ g ∷ false ∷ [])) i (number-small (a ∷ b ∷ c ∷ d ∷ e ∷ f ∷ g ∷ false ∷ []))
packed-small (a ∷ b ∷ c ∷ d ∷ e ∷ f ∷ g ∷ h ∷ k) zero = number-small (a ∷ b ∷ c ∷ d ∷ e ∷ f ∷ g ∷ h ∷ [])
packed-small (a ∷ b ∷ c ∷ d ∷ e ∷ f ∷ g ∷ h ∷ k) (suc i) = packed-small k i

-- what the fields of a key say of it
abbrev pub IsKey : ℕ → List ℕ → List Bool → Type 0
IsKey m bs k = (take m (bits_of_bytes bs) ≡ k) × (m ≤ 8 * length bs) × (bs ≡ packed (take m (bits_of_bytes bs)))

-- a key is made of bytes
pub key_bytes : (m : ℕ) (bs : List ℕ) (k : List Bool) → IsKey m bs k → (i : ℕ) → get_or bs i 0 < 256
key_bytes m bs k e i = subst (λ bs. get_or bs i 0 < 256) (sym e.2) (packed-small (take m (bits_of_bytes bs)) i)

-- the fields of a key, told from the key
pub key_bits : (m : ℕ) (bs : List ℕ) (k : List Bool) → IsKey m bs k → m ≡ length k
key_bits m bs k e = sym (length-key m bs e.1) ∙ ap length e.0

-- and so are its bytes
pub key_packed : (m : ℕ) (bs : List ℕ) (k : List Bool) → IsKey m bs k → bs ≡ packed k
key_packed m bs k e = e.2 ∙ ap packed e.0

-- packed bits make their key
pub packed_key : (n : ℕ) (vs : List ℕ) (k : List Bool) → vs ≡ packed k → n ≡ length k → take n (bits_of_bytes vs) ≡ k
packed_key n vs k e f = ap (λ n. take n (bits_of_bytes vs)) f ∙ ap (λ vs. take (length k) (bits_of_bytes vs)) e ∙ take-packed k

-- and keep what every key keeps
pub packed_fits : (n : ℕ) (vs : List ℕ) (k : List Bool) → vs ≡ packed k → n ≡ length k → (n ≤ 8 * length vs) × (vs ≡ packed (take n (bits_of_bytes vs)))
packed_fits n vs k e f =
    let v = packed_key n vs k e f in
    (omega (arith, ap length v, f, length-take n (bits_of_bytes vs), length-bits_of_bytes vs), e ∙ ap packed (sym v))

-- a token below the factor has the width
pub token_below : (b : Branch) (t : ℕ) → t < factor_of b → t < 2 ^ width_of b
token_below B2 t h = h
token_below B4 t h = h
token_below B16 t h = h
token_below B256 t h = h
