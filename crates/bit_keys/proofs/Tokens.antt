use Rattle.std.proofs.Common.{◌≡◌, ℕ, suc, ◌+◌, ◌-◌, ◌*◌, ◌/◌, ◌%◌, ◌^◌, ◌<◌, ◌≤◌, Bool, true, false, List, [], ◌∷◌, ◌++◌, length, length-take, length-drop, length-append, get_or, take, drop, sym, ap, ◌∙◌, arith, inl, inr, mul_assoc}
use Rattle.std.proofs.lemmas.Nat.{pow-add, div-mul-add, mod-mul-add}
use Rattle.std.proofs.Math.Nat.{add-mul, mul-add, min-eq_left}
use Rattle.std.proofs.lemmas.List.{take-append-drop, take-append-le, drop-append-le, drop-take, take-take}
use Rattle.std.proofs.lemmas.Bool.{cases_lt}
use Rattle.base_model.proofs.Bits.{length-bits_of, number_of-bits_of, number-small}
use Rattle.trie_model.specs.Bits.{bits_of, number_of, bits_of_bytes, token_at}
use Rattle.bit_keys.specs.Branch.{width_of}
use Rattle.bit_keys.specs.declared.branch.Branch.{Branch}
use Rattle.bit_keys.specs.declared.branch.Branch.TheVariants.{B2, B4, B16, B256}

-- the number of two runs of bits, one after the other
pub number-append : (a b : List Bool) → number_of (a ++ b) ≡ number_of a * 2 ^ length b + number_of b
number-append [] b = omega arith
number-append (true ∷ a) b =
    let l : 2 ^ length (a ++ b) ≡ 2 ^ length a * 2 ^ length b = ap (λ n. 2 ^ n) (length-append a b) ∙ pow-add 2 (length a) (length b) in
    regroup (2 ^ length (a ++ b)) (2 ^ length a) (2 ^ length b) (number_of (a ++ b)) (number_of a) (number_of b) l (number-append a b)
  where
    regroup : (p q r n a b : ℕ) → p ≡ q * r → n ≡ a * r + b → p + n ≡ (q + a) * r + b
    regroup p q r n a b e f = omega (arith, e, f, add-mul q a r)
number-append (false ∷ a) b = omega (arith, number-append a b)

-- a run of bits in the middle, by division
pub middle : (a b c : List Bool) → number_of b ≡ number_of (a ++ (b ++ c)) / 2 ^ length c % 2 ^ length b
middle a b c = sym (ap (λ n. n / 2 ^ length c % 2 ^ length b) e ∙ ap (λ n. n % 2 ^ length b) (div-mul-add (number_of a * 2 ^ length b + number_of b) (2 ^ length c) (number_of c) (number-small c)) ∙ mod-mul-add (number_of a) (2 ^ length b) (number_of b) (number-small b))
  where
    regroup : (a b c p q r n m : ℕ) → n ≡ a * p + m → p ≡ q * r → m ≡ b * r + c → n ≡ (a * q + b) * r + c
    regroup a b c p q r n m e f g = let h : a * (q * r) ≡ (a * q) * r = sym (mul_assoc a q r) in omega (arith, e ∙ ap (λ p. a * p + m) f, g, h, add-mul (a * q) b r)

    e : number_of (a ++ (b ++ c)) ≡ (number_of a * 2 ^ length b + number_of b) * 2 ^ length c + number_of c
    e = regroup (number_of a) (number_of b) (number_of c) (2 ^ length (b ++ c)) (2 ^ length b) (2 ^ length c) (number_of (a ++ (b ++ c))) (number_of (b ++ c))
        (number-append a (b ++ c)) (ap (λ n. 2 ^ n) (length-append b c) ∙ pow-add 2 (length b) (length c)) (number-append b c)

-- a token of one byte
byte_token : (w r b : ℕ) → r + w ≤ 8 → b < 256 → number_of (take w (drop r (bits_of 8 b))) ≡ b / 2 ^ (8 - w - r) % 2 ^ w
byte_token w r b h k =
    let t : List Bool = drop r (bits_of 8 b) in
    let l : length t ≡ 8 - r = length-drop r (bits_of 8 b) ∙ ap (λ n. n - r) (length-bits_of 8 b) in
    let m : length (take w t) ≡ w = length-take w t ∙ min-eq_left (omega (arith, l, h)) in
    let n : length (drop w t) ≡ 8 - w - r = omega (arith, length-drop w t, l, h) in
    let s : take r (bits_of 8 b) ++ (take w t ++ drop w t) ≡ bits_of 8 b = ap (λ x. take r (bits_of 8 b) ++ x) (take-append-drop w t) ∙ take-append-drop r (bits_of 8 b) in
    middle (take r (bits_of 8 b)) (take w t) (drop w t)
    ∙ ap (λ x. number_of x / 2 ^ length (drop w t) % 2 ^ length (take w t)) s
    ∙ ap (λ x. x / 2 ^ length (drop w t) % 2 ^ length (take w t)) (number_of-bits_of 8 b k)
    ∙ ap (λ x. b / 2 ^ x % 2 ^ length (take w t)) n
    ∙ ap (λ x. b / 2 ^ (8 - w - r) % 2 ^ x) m

-- a token that lies in one byte of many
token_of_bytes : (w n : ℕ) (bs : List ℕ) → ((i : ℕ) → get_or bs i 0 < 256) → n % 8 + w ≤ 8 → n < 8 * length bs → token_at w n (bits_of_bytes bs) ≡ get_or bs (n / 8) 0 / 2 ^ (8 - w - n % 8) % 2 ^ w
token_of_bytes w n [] f h l = absurd (omega arith)
token_of_bytes w n (b ∷ bs) f h l = elim (cases_lt n 8) [
  | inl k ↦
      let q : n / 8 ≡ 0 = omega arith in let r : n % 8 ≡ n = omega arith in
      let g : n + w ≤ 8 = omega (arith, h, r) in
      ap (λ x. number_of (take w x)) (drop-append-le n (bits_of 8 b) (bits_of_bytes bs) (omega (arith, length-bits_of 8 b)))
      ∙ ap number_of (take-append-le w (drop n (bits_of 8 b)) (bits_of_bytes bs) (omega (arith, length-bits_of 8 b, length-drop n (bits_of 8 b))))
      ∙ byte_token w n b g (f 0)
      ∙ ap (λ r. b / 2 ^ (8 - w - r) % 2 ^ w) (sym r) ∙ ap (λ q. get_or (b ∷ bs) q 0 / 2 ^ (8 - w - n % 8) % 2 ^ w) (sym q)
  | inr k ↦
      let e : n ≡ suc (suc (suc (suc (suc (suc (suc (suc (n - 8)))))))) = omega arith in
      let q : n / 8 ≡ suc ((n - 8) / 8) = omega arith in let r : n % 8 ≡ (n - 8) % 8 = omega arith in
      ap (λ n. token_at w n (bits_of_bytes (b ∷ bs))) e
      ∙ token_of_bytes w (n - 8) bs (λ i. f (suc i)) (omega (arith, h, r)) (omega arith)
      ∙ ap (λ r. get_or bs ((n - 8) / 8) 0 / 2 ^ (8 - w - r) % 2 ^ w) (sym r) ∙ ap (λ q. get_or (b ∷ bs) q 0 / 2 ^ (8 - w - n % 8) % 2 ^ w) (sym q)
]

-- a token of a front of bits
token_of_front : (w n m : ℕ) (k : List Bool) → n + w ≤ m → token_at w n (take m k) ≡ token_at w n k
token_of_front w n m k h =
    let e : m ≡ n + (m - n) = omega arith in
    ap (λ m. number_of (take w (drop n (take m k)))) e
    ∙ ap (λ x. number_of (take w x)) (drop-take n (m - n) k)
    ∙ ap number_of (take-take w (m - n) (drop n k) (omega arith))

-- the token that a key reads out of one byte
pub token_is : (w n m : ℕ) (bs : List ℕ) (k : List Bool) → take m (bits_of_bytes bs) ≡ k → m ≤ 8 * length bs → ((i : ℕ) → get_or bs i 0 < 256) → 0 < w → n % 8 + w ≤ 8 → n + w ≤ length k → get_or bs (n / 8) 0 / 2 ^ (8 - w - n % 8) % 2 ^ w ≡ token_at w n k
token_is w n m bs k e b f p h l =
    let j : n + w ≤ m = omega (arith, l, ap length e, length-take m (bits_of_bytes bs)) in
    sym (token_of_bytes w n bs f h (omega arith))
    ∙ sym (token_of_front w n m (bits_of_bytes bs) j)
    ∙ ap (token_at w n) e

-- a width divides eight
pub in_byte : (b : Branch) (i : ℕ) → width_of b * i % 8 + width_of b ≤ 8
in_byte B2 i = omega arith
in_byte B4 i = omega arith
in_byte B16 i = omega arith
in_byte B256 i = omega arith

-- a token ends where the next begins
pub ends_at : (w i : ℕ) → w * i + w ≡ w * (i + 1)
ends_at w i = omega (arith, mul-add w i 1)

-- where a token begins, as a count of the bits of its key
pub begin_fits : (v w i m n : ℕ) (L k : List Bool) → take m L ≡ k → v ≡ w → w * (i + 1) ≤ length k → m < n → v * i < n
begin_fits v w i m n L k e f h g = let t : v * i ≡ w * i = ap (λ v. v * i) f in omega (arith, t, ends_at w i, h, ap length e, length-take m L, g)
