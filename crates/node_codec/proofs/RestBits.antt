-- The bits of a rest, with zeros behind them or not.
use Rattle.std.proofs.Common.{◌≡◌, ℕ, ◌+◌, ◌/◌, Bool, true, false, List, [], ◌∷◌, length, take, drop, Ok, Err, refl, sym, ap, ◌∙◌}
use Rattle.std.proofs.Common.{◌%◌, min, arith}
use Rattle.std.specs.Int.{div_ceil}
use Rattle.std.specs.List.{AllByRecursion}
use Rattle.bit_keys.specs.Keys.{IsFilledUp}
use Rattle.base_model.specs.Bits.{bits_of_bytes, are_zeros}
use Rattle.base_model.specs.Fields.{bytes_at, bits_at}

-- the two ways to say that bits are zeros
zeros : (bs : List Bool) → AllByRecursion (λ b. b ≡ false) bs → are_zeros bs ≡ true
zeros [] h = refl
zeros (true ∷ bs) h = absurd (let e = h.0 in cc)
zeros (false ∷ bs) h = zeros bs h.1

-- and back
zeros_only : (bs : List Bool) → are_zeros bs ≡ true → AllByRecursion (λ b. b ≡ false) bs
zeros_only [] h = tt
zeros_only (true ∷ bs) h = absurd cc
zeros_only (false ∷ bs) h = (refl, zeros_only bs h)

-- where some bit is not zero
not_zeros : (bs : List Bool) → (AllByRecursion (λ b. b ≡ false) bs → ⊥) → are_zeros bs ≡ false
not_zeros bs h = go (are_zeros bs) refl
  where
    go : (b : Bool) → are_zeros bs ≡ b → are_zeros bs ≡ false
    go true e = absurd (h (zeros_only bs e))
    go false e = e

-- a key that was made of its bytes
pub bits_found : {E : Type 0} (short padding : ℕ → E) (n at next : ℕ) (bytes p : List ℕ) (k : List Bool) → bytes_at short ((n + 7) / 8) bytes at ≡ Ok (p, next) → IsFilledUp n p → k ≡ take n (bits_of_bytes p) → bits_at short padding n bytes at ≡ Ok (k, next)
unfolding bits_at
bits_found short padding n at next bytes p k e f g = rw (e, zeros (drop n (bits_of_bytes p)) f.1) (ap (λ k. Ok (k, next)) (sym g))

-- bytes that are as many as the bits need, and make no key
pub bits_dirty : {E : Type 0} (short padding : ℕ → E) (n at next : ℕ) (bytes p : List ℕ) → bytes_at short ((n + 7) / 8) bytes at ≡ Ok (p, next) → length p ≡ (n + 7) / 8 → (IsFilledUp n p → ⊥) → bits_at short padding n bytes at ≡ Err (padding at)
unfolding bits_at
bits_dirty short padding n at next bytes p e l f = rw (e, not_zeros (drop n (bits_of_bytes p)) (λ z. f (l, z))) refl

-- as many bytes as the bits need
pub bytes_needed : (n m : ℕ) → m ≡ div_ceil n 8 → m ≡ (n + 7) / 8
bytes_needed n m e = let f : n / 8 + min 1 (n % 8) ≡ (n + 7) / 8 = omega arith in e ∙ f
