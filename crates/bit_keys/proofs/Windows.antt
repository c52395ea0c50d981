use Rattle.std.proofs.Common.{◌≡◌, ℕ, zero, suc, ◌+◌, ◌-◌, ◌*◌, ◌/◌, ◌%◌, ◌^◌, ◌<◌, ◌≤◌, Bool, false, List, [], ◌∷◌, ◌++◌, length, length-take, length-drop, length-append, get_or, take, drop, refl, sym, ap, ◌∙◌, arith, subst, inl, inr, append_assoc}
use Rattle.std.proofs.Math.Nat.{min-eq_left}
use Rattle.std.proofs.Math.Seq.{take-add, take-append-add}
use Rattle.std.proofs.lemmas.List.{take-append-drop, take-append-le, drop-append-le, drop-drop, length-replicate, take_all}
use Rattle.std.proofs.lemmas.Bool.{cases_lt}
use Rattle.base_model.proofs.Bits.{length-bits_of, number_of-bits_of}
use Rattle.trie_model.specs.Bits.{bits_of, number_of, bits_of_bytes, packed}
use Rattle.bit_keys.proofs.KeyFacts.{packed-small}
use Rattle.bit_keys.proofs.Padding.{pad, zeros, unpacked}
use Rattle.bit_keys.proofs.Slots.{one_byte}
use Rattle.bit_keys.proofs.Tokens.{number-append, middle}

-- eight bits out of two bytes
of_two_bytes : (n b c : ℕ) (r : List Bool) → n < 8 → b < 256 → c < 256 → number_of (take 8 (drop n (bits_of 8 b ++ (bits_of 8 c ++ r)))) ≡ (b * 256 + c) / 2 ^ (8 - n) % 256
of_two_bytes n b c r h k l =
    let x : List Bool = bits_of 8 b ++ bits_of 8 c in
    let e : length x ≡ 16 = omega (arith, length-append (bits_of 8 b) (bits_of 8 c), length-bits_of 8 b, length-bits_of 8 c) in
    let d : length (drop n x) ≡ 16 - n = omega (arith, length-drop n x, e) in
    let p : length (take 8 (drop n x)) ≡ 8 = length-take 8 (drop n x) ∙ min-eq_left (omega (arith, d)) in
    let q : length (drop 8 (drop n x)) ≡ 8 - n = omega (arith, length-drop 8 (drop n x), d) in
    let v : number_of x ≡ b * 256 + c = number-append (bits_of 8 b) (bits_of 8 c) ∙ ap (λ l. number_of (bits_of 8 b) * 2 ^ l + number_of (bits_of 8 c)) (length-bits_of 8 c)
    ∙ ap (λ b. b * 2 ^ 8 + number_of (bits_of 8 c)) (number_of-bits_of 8 b k) ∙ ap (λ c. b * 2 ^ 8 + c) (number_of-bits_of 8 c l) in
    ap (λ y. number_of (take 8 (drop n y))) (sym (append_assoc (bits_of 8 b) (bits_of 8 c) r))
    ∙ ap (λ y. number_of (take 8 y)) (drop-append-le n x r (omega (arith, e)))
    ∙ ap number_of (take-append-le 8 (drop n x) r (omega (arith, d)))
    ∙ middle (take n x) (take 8 (drop n x)) (drop 8 (drop n x))
    ∙ ap (λ y. number_of (take n x ++ y) / 2 ^ length (drop 8 (drop n x)) % 2 ^ length (take 8 (drop n x))) (take-append-drop 8 (drop n x))
    ∙ ap (λ y. number_of y / 2 ^ length (drop 8 (drop n x)) % 2 ^ length (take 8 (drop n x))) (take-append-drop n x)
    ∙ ap (λ y. y / 2 ^ length (drop 8 (drop n x)) % 2 ^ length (take 8 (drop n x))) v
    ∙ ap (λ y. (b * 256 + c) / 2 ^ y % 2 ^ length (take 8 (drop n x))) q
    ∙ ap (λ y. (b * 256 + c) / 2 ^ (8 - n) % 2 ^ y) p

-- and out of many
of_bytes : (n : ℕ) (bs : List ℕ) → ((i : ℕ) → get_or bs i 0 < 256) → n / 8 + 1 < length bs → number_of (take 8 (drop n (bits_of_bytes bs))) ≡ (get_or bs (n / 8) 0 * 256 + get_or bs (n / 8 + 1) 0) / 2 ^ (8 - n % 8) % 256
of_bytes n [] f h = absurd (omega arith)
of_bytes n (b ∷ []) f h = absurd (omega arith)
of_bytes n (b ∷ c ∷ bs) f h = elim (cases_lt n 8) [
  | inl k ↦
      let q : n / 8 ≡ 0 = omega arith in let r : n % 8 ≡ n = omega arith in
      of_two_bytes n b c (bits_of_bytes bs) k (f 0) (f 1)
      ∙ ap (λ r. (b * 256 + c) / 2 ^ (8 - r) % 256) (sym r)
      ∙ ap (λ q. (get_or (b ∷ c ∷ bs) q 0 * 256 + get_or (b ∷ c ∷ bs) (q + 1) 0) / 2 ^ (8 - n % 8) % 256) (sym q)
  | inr k ↦
      let e : n ≡ suc (suc (suc (suc (suc (suc (suc (suc (n - 8)))))))) = omega arith in
      let q : n / 8 ≡ suc ((n - 8) / 8) = omega arith in let r : n % 8 ≡ (n - 8) % 8 = omega arith in
      let s : suc ((n - 8) / 8) + 1 ≡ suc ((n - 8) / 8 + 1) = omega arith in
      ap (λ n. number_of (take 8 (drop n (bits_of_bytes (b ∷ c ∷ bs))))) e
      ∙ of_bytes (n - 8) (c ∷ bs) (λ i. f (suc i)) (omega arith)
      ∙ ap (λ r. (get_or (c ∷ bs) ((n - 8) / 8) 0 * 256 + get_or (c ∷ bs) ((n - 8) / 8 + 1) 0) / 2 ^ (8 - r) % 256) (sym r)
      ∙ ap (λ s. (get_or (c ∷ bs) ((n - 8) / 8) 0 * 256 + get_or (b ∷ c ∷ bs) s 0) / 2 ^ (8 - n % 8) % 256) (sym s)
      ∙ ap (λ q. (get_or (b ∷ c ∷ bs) q 0 * 256 + get_or (b ∷ c ∷ bs) (q + 1) 0) / 2 ^ (8 - n % 8) % 256) (sym q)
]

-- zeros stand for zero
number_zeros : (n : ℕ) → number_of (zeros n) ≡ 0
number_zeros zero = refl
number_zeros (suc n) = omega (arith, number_zeros n)

-- fewer zeros
take_zeros : (m n : ℕ) → m ≤ n → take m (zeros n) ≡ zeros m
take_zeros zero n h = refl
take_zeros (suc m) zero h = absurd (omega arith)
take_zeros (suc m) (suc n) h = ap (λ z. false ∷ z) (take_zeros m n (omega arith))

-- zeros behind zeros
zeros_more : (m n : ℕ) → zeros m ++ zeros n ≡ zeros (m + n)
zeros_more zero n = ap zeros (omega arith)
zeros_more (suc m) n = let e : suc (m + n) ≡ suc m + n = omega arith in ap (λ z. false ∷ z) (zeros_more m n) ∙ ap zeros e

-- eight bits out of a key that is filled up with zeros
filled : (d : List Bool) (n : ℕ) → 8 ≤ n → number_of (take 8 (d ++ zeros n)) ≡ number_of (take 8 d) * 2 ^ (8 - length (take 8 d))
filled d n h = elim (cases_lt (length d) 8) [
  | inl k ↦
      let e : 8 ≡ length d + (8 - length d) = omega arith in
      let t : take 8 d ≡ d = take_all 8 d (omega arith) in
      ap (λ m. number_of (take m (d ++ zeros n))) e
      ∙ ap number_of (take-append-add d (zeros n) (8 - length d) ∙ ap (λ z. d ++ z) (take_zeros (8 - length d) n (omega arith)))
      ∙ number-append d (zeros (8 - length d))
      ∙ ap (λ l. number_of d * 2 ^ l + number_of (zeros (8 - length d))) (length-replicate {A = Bool} (8 - length d) false)
      ∙ ap (λ z. number_of d * 2 ^ (8 - length d) + z) (number_zeros (8 - length d))
      ∙ none (number_of d * 2 ^ (8 - length d))
      ∙ ap (λ d. number_of d * 2 ^ (8 - length d)) (sym t)
  | inr k ↦
      let t : 8 - length (take 8 d) ≡ 0 = omega (arith, length-take 8 d) in
      ap number_of (take-append-le 8 d (zeros n) (omega arith)) ∙ one (number_of (take 8 d)) ∙ ap (λ l. number_of (take 8 d) * 2 ^ l) (sym t)
]
  where
    none : (n : ℕ) → n + 0 ≡ n
    none n = omega arith

    one : (n : ℕ) → n ≡ n * 1
    one n = omega arith

-- a zero byte more is eight zeros more
bits-more : (bs : List ℕ) → bits_of_bytes (bs ++ 0 ∷ []) ≡ bits_of_bytes bs ++ zeros 8
bits-more [] = refl
bits-more (b ∷ bs) = ap (λ x. bits_of 8 b ++ x) (bits-more bs) ∙ sym (append_assoc (bits_of 8 b) (bits_of_bytes bs) (zeros 8))

-- and reads as what stood behind the end
get-more : (bs : List ℕ) (i : ℕ) → get_or (bs ++ 0 ∷ []) i 0 ≡ get_or bs i 0
get-more [] zero = refl
get-more [] (suc i) = refl
get-more (b ∷ bs) zero = refl
get-more (b ∷ bs) (suc i) = get-more bs i

-- eight bits of a key, with zeros behind its last
pub window_is : (n x y m : ℕ) (bs : List ℕ) (k : List Bool) → bs ≡ packed k → m ≡ length k → m ≤ 8 * length bs → n < length k → x ≡ get_or (packed k) (n / 8) 0 → y ≡ get_or (packed k) (n / 8 + 1) 0 →
    ((x * 256 + y) / 2 ^ (8 - n % 8) % 256) ∷ [] ≡ packed (take 8 (drop n k))
window_is n x y m bs k b e c h p q =
    let d : List Bool = drop n k in
    let cs : List ℕ = packed k ++ 0 ∷ [] in
    let s : (i : ℕ) → get_or cs i 0 < 256 = λ i. subst (λ v. v < 256) (sym (get-more (packed k) i)) (packed-small k i) in
    let l : n / 8 + 1 < length cs = omega (arith, length-append (packed k) (0 ∷ []), ap length b, e, c, h) in
    let z : bits_of_bytes cs ≡ k ++ zeros (pad k + 8) = bits-more (packed k) ∙ ap (λ x. x ++ zeros 8) (unpacked k) ∙ append_assoc k (zeros (pad k)) (zeros 8) ∙ ap (λ z. k ++ z) (zeros_more (pad k) 8) in
    let t : length d ≡ length k - n = length-drop n k in
    let v : number_of (take 8 d) * 2 ^ (8 - length (take 8 d)) ≡ (x * 256 + y) / 2 ^ (8 - n % 8) % 256 =
    sym (filled d (pad k + 8) (omega arith))
    ∙ ap (λ x. number_of (take 8 x)) (sym (drop-append-le n k (zeros (pad k + 8)) (omega arith)))
    ∙ ap (λ x. number_of (take 8 (drop n x))) (sym z)
    ∙ of_bytes n cs s l
    ∙ ap (λ x. (x * 256 + get_or cs (n / 8 + 1) 0) / 2 ^ (8 - n % 8) % 256) (get-more (packed k) (n / 8) ∙ sym p)
    ∙ ap (λ y. (x * 256 + y) / 2 ^ (8 - n % 8) % 256) (get-more (packed k) (n / 8 + 1) ∙ sym q) in
    ap (λ v. v ∷ []) (sym v) ∙ sym (one_byte (take 8 d) (omega (arith, length-take 8 d, t)) (omega (arith, length-take 8 d)))

-- whole bytes and what follows
packed-append : (x y : List Bool) → length x % 8 ≡ 0 → packed (x ++ y) ≡ packed x ++ packed y
packed-append [] y h = refl
packed-append (a ∷ []) y h = absurd (omega arith)
packed-append (a ∷ b ∷ []) y h = absurd (omega arith)
packed-append (a ∷ b ∷ c ∷ []) y h = absurd (omega arith)
packed-append (a ∷ b ∷ c ∷ d ∷ []) y h = absurd (omega arith)
packed-append (a ∷ b ∷ c ∷ d ∷ e ∷ []) y h = absurd (omega arith)
packed-append (a ∷ b ∷ c ∷ d ∷ e ∷ f ∷ []) y h = absurd (omega arith)
packed-append (a ∷ b ∷ c ∷ d ∷ e ∷ f ∷ g ∷ []) y h = absurd (omega arith)
packed-append (a ∷ b ∷ c ∷ d ∷ e ∷ f ∷ g ∷ i ∷ x) y h = ap (λ r. number_of (a ∷ b ∷ c ∷ d ∷ e ∷ f ∷ g ∷ i ∷ []) ∷ r) (packed-append x y (omega arith))

-- one more byte of what follows n bits
pub next_byte : (n i x : ℕ) (vs : List ℕ) (k : List Bool) → n + 8 * i < length k → vs ≡ packed (take (8 * i) (drop n k)) → x ∷ [] ≡ packed (take 8 (drop (n + 8 * i) k)) → vs ++ x ∷ [] ≡ packed (take (8 * (i + 1)) (drop n k))
next_byte n i x vs k h e f =
    let z : List Bool = drop n k in
    let l : length (take (8 * i) z) ≡ 8 * i = length-take (8 * i) z ∙ min-eq_left (omega (arith, length-drop n k)) in
    let m : 8 * (i + 1) ≡ 8 * i + 8 = omega arith in
    ap (λ vs. vs ++ x ∷ []) e ∙ ap (λ b. packed (take (8 * i) z) ++ b) f
    ∙ ap (λ d. packed (take (8 * i) z) ++ packed (take 8 d)) (behind n (8 * i) k)
    ∙ sym (packed-append (take (8 * i) z) (take 8 (drop (8 * i) z)) (omega (arith, l)))
    ∙ ap packed (sym (take-add (8 * i) 8 z)) ∙ ap (λ m. packed (take m z)) (sym m)
  where
    behind : (n m : ℕ) (k : List Bool) → drop (n + m) k ≡ drop m (drop n k)
    behind n m k = sym (drop-drop m n k)

-- enough bytes hold all bits
pub all_bytes : (n m i r : ℕ) (k : List Bool) → m ≡ length k → r ≡ m - n → r ≤ 8 * i → take (8 * i) (drop n k) ≡ drop n k
all_bytes n m i r k e f h = take_all (8 * i) (drop n k) (omega (arith, length-drop n k, e, f))
