-- Numbers and their bits: each from the other.
use Rattle.std.proofs.Common.{◌≡◌, ℕ, zero, suc, ◌+◌, ◌-◌, ◌*◌, ◌%◌, ◌^◌, ◌<◌, ◌≤◌, Bool, true, false, cond, List, [], ◌∷◌, length, refl, sym, ap, ◌∙◌, arith, subst, leb, inl, inr, zero-add}
use Rattle.std.proofs.lemmas.Bool.Decides.{nat_tests}
use Rattle.std.proofs.lemmas.Bool.{cases_lt}
use Rattle.std.proofs.lemmas.Nat.{pow_pos}
use Rattle.std.proofs.Math.Nat.{add-mod_left, mod-eq_of_lt, mod-eq-sub-mod, pow-succ'}
use Rattle.base_model.specs.Bits.{bits_of, number_of, byte_from}

-- a number is spelled in as many bits as asked for
pub length-bits_of : (w n : ℕ) → length (bits_of w n) ≡ w
length-bits_of zero n = refl
length-bits_of (suc w) n = ap suc (length-bits_of w (n % 2 ^ w))

-- a number below twice p is below p, or p and a rest
pub data Half (n p : ℕ) : Type 0 where
  low : n < p → n % p ≡ n → leb p n ≡ false → Half n p
  high : p ≤ n → n % p + p ≡ n → leb p n ≡ true → Half n p

-- one of the two holds
pub half : (n p : ℕ) → n < 2 * p → Half n p
half n p h = elim (cases_lt n p) [
  | inl a ↦ low a (mod-eq_of_lt a) (grind (arith, nat_tests))
  | inr b ↦ let c : n - p < p = omega arith in let e : n % p ≡ n - p = mod-eq-sub-mod b ∙ mod-eq_of_lt c in high b (omega arith) (grind (arith, nat_tests))
]

-- the number is its high bit and the rest
pub high_bit_and_rest : (n p : ℕ) → n < 2 * p → cond (leb p n) p 0 + n % p ≡ n
high_bit_and_rest n p h = elim (half n p h) [
  | low a e t ↦ ap (λ b. cond b p 0 + n % p) t ∙ omega (arith, e)
  | high a e t ↦ ap (λ b. cond b p 0 + n % p) t ∙ omega (arith, e)
]

-- a rest by p is below p
pub rest_small : (n p : ℕ) → 0 < p → n % p < p
rest_small n p h = omega arith

-- the bits of a number stand for the number
pub number_of-bits_of : (w n : ℕ) → n < 2 ^ w → number_of (bits_of w n) ≡ n
number_of-bits_of zero n h = omega arith
number_of-bits_of (suc w) n h =
    ap (λ l. cond (leb (2 ^ w) n) (2 ^ l) 0 + number_of (bits_of w (n % 2 ^ w))) (length-bits_of w (n % 2 ^ w))
    ∙ ap (λ x. cond (leb (2 ^ w) n) (2 ^ w) 0 + x) (number_of-bits_of w (n % 2 ^ w) (rest_small n (2 ^ w) (pow_pos w)))
    ∙ high_bit_and_rest n (2 ^ w) (subst (λ p. n < p) (pow-succ' 2 w) h)

-- numbers of w bits with the same bits are one
pub bits_of-injective : (w m n : ℕ) → m < 2 ^ w → n < 2 ^ w → bits_of w m ≡ bits_of w n → m ≡ n
bits_of-injective w m n p q e = sym (number_of-bits_of w m p) ∙ ap number_of e ∙ number_of-bits_of w n q

-- what n bits stand for is below 2 ^ n
pub number-small : (bs : List Bool) → number_of bs < 2 ^ length bs
number-small [] = omega arith
number-small (true ∷ bs) = let r = number-small bs in omega (arith, pow-succ' 2 (length bs))
number-small (false ∷ bs) = let r = number-small bs in omega (arith, pow-succ' 2 (length bs))

-- the bits of the number that bits stand for
pub bits_of-number_of : (bs : List Bool) → bits_of (length bs) (number_of bs) ≡ bs
bits_of-number_of [] = refl
bits_of-number_of (true ∷ bs) =
    let s = number-small bs in
    let a : leb (2 ^ length bs) (2 ^ length bs + number_of bs) ≡ true = grind (arith, nat_tests) in
    let b : (2 ^ length bs + number_of bs) % 2 ^ length bs ≡ number_of bs = add-mod_left (2 ^ length bs) (number_of bs) ∙ mod-eq_of_lt s in
    rw (a, b) (ap (λ r. true ∷ r) (bits_of-number_of bs))
bits_of-number_of (false ∷ bs) =
    let s = number-small bs in
    let a : leb (2 ^ length bs) (number_of bs) ≡ false = grind (arith, nat_tests) in
    let b : number_of bs % 2 ^ length bs ≡ number_of bs = mod-eq_of_lt s in
    rw (zero-add, a, b) (ap (λ r. false ∷ r) (bits_of-number_of bs))

-- the bits of a byte made of eight bits
pub bits_of-byte_from : (a b c d e f g h : Bool) → bits_of 8 (byte_from a b c d e f g h) ≡ a ∷ b ∷ c ∷ d ∷ e ∷ f ∷ g ∷ h ∷ []
bits_of-byte_from a b c d e f g h = bits_of-number_of (a ∷ b ∷ c ∷ d ∷ e ∷ f ∷ g ∷ h ∷ [])
