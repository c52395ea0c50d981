use Rattle.std.proofs.Common.{◌≡◌, ℕ, suc, ◌+◌, ◌-◌, ◌*◌, ◌/◌, ◌%◌, ◌^◌, ◌<◌, ◌≤◌, Bool, false, List, [], ◌∷◌, ◌++◌, length, length-drop, length-append, get_or, take, drop, refl, sym, ap, ◌∙◌, arith, inl, inr, ◌⊎◌, mul_assoc, append_assoc}
use Rattle.std.proofs.lemmas.Nat.{pow-add, pow_pos}
use Rattle.std.proofs.Math.Nat.{add-mul, mul-lt-mul_of_pos_right, pow-le-pow_right, mod-eq_of_lt}
use Rattle.base_model.proofs.Bits.{length-bits_of, number_of-bits_of, number-small}
use Rattle.trie_model.specs.Bits.{bits_of, number_of, packed}
use Rattle.bit_keys.proofs.Tokens.{number-append}

-- the bits in a last byte that is not full
abbrev pub ending : List Bool → List Bool
ending k = drop (8 * (length k / 8)) k

-- eight bits more are a byte more
eight_more : (n : ℕ) → suc (suc (suc (suc (suc (suc (suc (suc n))))))) / 8 ≡ suc (n / 8)
eight_more n = omega arith

-- a byte more is eight bits more
times_eight : (n : ℕ) → 8 * suc n ≡ suc (suc (suc (suc (suc (suc (suc (suc (8 * n))))))))
times_eight n = omega arith

-- a full byte in front leaves the ending
ending_more : (a b c d e f g h : Bool) (k : List Bool) → ending (a ∷ b ∷ c ∷ d ∷ e ∷ f ∷ g ∷ h ∷ k) ≡ ending k
ending_more a b c d e f g h k = ap (λ n. drop (8 * n) (a ∷ b ∷ c ∷ d ∷ e ∷ f ∷ g ∷ h ∷ k)) (eight_more (length k)) ∙ ap (λ n. drop n (a ∷ b ∷ c ∷ d ∷ e ∷ f ∷ g ∷ h ∷ k)) (times_eight (length k / 8))

-- how many bits the ending has
pub length-ending : (k : List Bool) → length (ending k) ≡ length k % 8
length-ending k = omega (arith, length-drop (8 * (length k / 8)) k)

-- bits behind others change the last byte alone, or add to the bytes
pub packed-behind : (k t : List Bool) → packed (k ++ t) ≡ take (length k / 8) (packed k) ++ packed (ending k ++ t)
packed-behind [] t = refl
packed-behind (a ∷ []) t = refl
packed-behind (a ∷ b ∷ []) t = refl
packed-behind (a ∷ b ∷ c ∷ []) t = refl
packed-behind (a ∷ b ∷ c ∷ d ∷ []) t = refl
packed-behind (a ∷ b ∷ c ∷ d ∷ e ∷ []) t = refl
packed-behind (a ∷ b ∷ c ∷ d ∷ e ∷ f ∷ []) t = refl
packed-behind (a ∷ b ∷ c ∷ d ∷ e ∷ f ∷ g ∷ []) t = refl
packed-behind (a ∷ b ∷ c ∷ d ∷ e ∷ f ∷ g ∷ h ∷ k) t =
    let x : ℕ = number_of (a ∷ b ∷ c ∷ d ∷ e ∷ f ∷ g ∷ h ∷ []) in
    ap (λ r. x ∷ r) (packed-behind k t)
    ∙ ap (λ u. x ∷ (take (length k / 8) (packed k) ++ packed (u ++ t))) (sym (ending_more a b c d e f g h k))
    ∙ ap (λ n. take n (x ∷ packed k) ++ packed (ending (a ∷ b ∷ c ∷ d ∷ e ∷ f ∷ g ∷ h ∷ k) ++ t)) (sym (eight_more (length k)))

-- a byte of bits and zeros
filled : (a z : List Bool) → number_of z ≡ 0 → number_of (a ++ z) ≡ number_of a * 2 ^ length z
filled a z e = number-append a z ∙ omega (arith, e)

-- eight bits at most, as one byte
pub one_byte : (x : List Bool) → 0 < length x → length x ≤ 8 → packed x ≡ (number_of x * 2 ^ (8 - length x)) ∷ []
one_byte [] h k = absurd (omega arith)
one_byte (a ∷ []) h k = ap (λ n. n ∷ []) (filled (a ∷ []) (false ∷ false ∷ false ∷ false ∷ false ∷ false ∷ false ∷ []) refl)
one_byte (a ∷ b ∷ []) h k = ap (λ n. n ∷ []) (filled (a ∷ b ∷ []) (false ∷ false ∷ false ∷ false ∷ false ∷ false ∷ []) refl)
one_byte (a ∷ b ∷ c ∷ []) h k = ap (λ n. n ∷ []) (filled (a ∷ b ∷ c ∷ []) (false ∷ false ∷ false ∷ false ∷ false ∷ []) refl)
one_byte (a ∷ b ∷ c ∷ d ∷ []) h k = ap (λ n. n ∷ []) (filled (a ∷ b ∷ c ∷ d ∷ []) (false ∷ false ∷ false ∷ false ∷ []) refl)
one_byte (a ∷ b ∷ c ∷ d ∷ e ∷ []) h k = ap (λ n. n ∷ []) (filled (a ∷ b ∷ c ∷ d ∷ e ∷ []) (false ∷ false ∷ false ∷ []) refl)
one_byte (a ∷ b ∷ c ∷ d ∷ e ∷ f ∷ []) h k = ap (λ n. n ∷ []) (filled (a ∷ b ∷ c ∷ d ∷ e ∷ f ∷ []) (false ∷ false ∷ []) refl)
one_byte (a ∷ b ∷ c ∷ d ∷ e ∷ f ∷ g ∷ []) h k = ap (λ n. n ∷ []) (filled (a ∷ b ∷ c ∷ d ∷ e ∷ f ∷ g ∷ []) (false ∷ []) refl)
one_byte (a ∷ b ∷ c ∷ d ∷ e ∷ f ∷ g ∷ i ∷ []) h k = ap (λ n. n ∷ []) (filled (a ∷ b ∷ c ∷ d ∷ e ∷ f ∷ g ∷ i ∷ []) [] refl)
one_byte (a ∷ b ∷ c ∷ d ∷ e ∷ f ∷ g ∷ i ∷ j ∷ x) h k = absurd (omega arith)

-- the last byte of a key, or zero where all are full
pub last_byte : (k : List Bool) → get_or (packed k) (length k / 8) 0 ≡ number_of (ending k) * 2 ^ (8 - length k % 8)
last_byte [] = refl
last_byte (a ∷ []) = filled (a ∷ []) (false ∷ false ∷ false ∷ false ∷ false ∷ false ∷ false ∷ []) refl
last_byte (a ∷ b ∷ []) = filled (a ∷ b ∷ []) (false ∷ false ∷ false ∷ false ∷ false ∷ false ∷ []) refl
last_byte (a ∷ b ∷ c ∷ []) = filled (a ∷ b ∷ c ∷ []) (false ∷ false ∷ false ∷ false ∷ false ∷ []) refl
last_byte (a ∷ b ∷ c ∷ d ∷ []) = filled (a ∷ b ∷ c ∷ d ∷ []) (false ∷ false ∷ false ∷ false ∷ []) refl
last_byte (a ∷ b ∷ c ∷ d ∷ e ∷ []) = filled (a ∷ b ∷ c ∷ d ∷ e ∷ []) (false ∷ false ∷ false ∷ []) refl
last_byte (a ∷ b ∷ c ∷ d ∷ e ∷ f ∷ []) = filled (a ∷ b ∷ c ∷ d ∷ e ∷ f ∷ []) (false ∷ false ∷ []) refl
last_byte (a ∷ b ∷ c ∷ d ∷ e ∷ f ∷ g ∷ []) = filled (a ∷ b ∷ c ∷ d ∷ e ∷ f ∷ g ∷ []) (false ∷ []) refl
last_byte (a ∷ b ∷ c ∷ d ∷ e ∷ f ∷ g ∷ h ∷ k) =
    let r : suc (suc (suc (suc (suc (suc (suc (suc (length k)))))))) % 8 ≡ length k % 8 = omega arith in
    ap (λ n. get_or (packed (a ∷ b ∷ c ∷ d ∷ e ∷ f ∷ g ∷ h ∷ k)) n 0) (eight_more (length k))
    ∙ last_byte k
    ∙ ap (λ u. number_of u * 2 ^ (8 - length k % 8)) (sym (ending_more a b c d e f g h k))
    ∙ ap (λ r. number_of (ending (a ∷ b ∷ c ∷ d ∷ e ∷ f ∷ g ∷ h ∷ k)) * 2 ^ (8 - r)) (sym r)

-- two powers of two, as one
pow_join : (i j k : ℕ) → i + j ≡ k → 2 ^ i * 2 ^ j ≡ 2 ^ k
pow_join i j k e = sym (pow-add 2 i j) ∙ ap (λ n. 2 ^ n) e

-- bits of two bytes at most, as a number of two bytes
two_bytes : (x : List Bool) → 8 < length x → length x ≤ 16 →
    packed x ≡ (number_of x * 2 ^ (16 - length x) / 256) ∷ (number_of x * 2 ^ (16 - length x) % 256) ∷ []
two_bytes (a ∷ b ∷ c ∷ d ∷ e ∷ f ∷ g ∷ i ∷ y) h k =
    let u : List Bool = a ∷ b ∷ c ∷ d ∷ e ∷ f ∷ g ∷ i ∷ [] in
    let n : 16 - length (u ++ y) ≡ 8 - length y = omega (arith, length-append u y) in
    let s : number_of y * 2 ^ (8 - length y) < 256 = below (length y) (8 - length y) (number_of y) (omega arith) (number-small y) in
    let v : number_of (u ++ y) * 2 ^ (8 - length y) ≡ number_of u * 256 + number_of y * 2 ^ (8 - length y) =
    regroup (number_of u) (number_of y) (2 ^ length y) (2 ^ (8 - length y)) (number_of (u ++ y)) (number-append u y) (pow_join (length y) (8 - length y) 8 (omega arith)) in
    ap (λ r. number_of u ∷ r) (one_byte y (omega arith) (omega arith))
    ∙ ap (λ q. q ∷ (number_of y * 2 ^ (8 - length y)) ∷ []) (omega (arith, v, s))
    ∙ ap (λ q. (number_of (u ++ y) * 2 ^ (8 - length y) / 256) ∷ q ∷ []) (omega (arith, v, s))
    ∙ ap (λ n. (number_of (u ++ y) * 2 ^ n / 256) ∷ (number_of (u ++ y) * 2 ^ n % 256) ∷ []) (sym n)
  where
    below : (m n y : ℕ) → m + n ≡ 8 → y < 2 ^ m → y * 2 ^ n < 256
    below m n y e h = let s = mul-lt-mul_of_pos_right h (pow_pos n) in omega (arith, s, pow_join m n 8 e)

    regroup : (u y p q n : ℕ) → n ≡ u * p + y → p * q ≡ 256 → n * q ≡ u * 256 + y * q
    regroup u y p q n e f = ap (λ n. n * q) e ∙ add-mul (u * p) y q ∙ ap (λ z. z + y * q) (mul_assoc u p q ∙ ap (λ z. u * z) f)
two_bytes x h k = absurd (omega arith)

-- a token behind a key, in the two bytes that it may touch: its bits follow those of the last byte
abbrev pub placed : ℕ → ℕ → ℕ → ℕ
placed r w t = t * 2 ^ (16 - r - w)

-- the two bytes, as one number
joined : (k : List Bool) (w t : ℕ) → 0 < w → w ≤ 8 → t < 2 ^ w →
    number_of (ending k ++ bits_of w t) * 2 ^ (16 - length (ending k ++ bits_of w t)) ≡ get_or (packed k) (length k / 8) 0 * 256 + placed (length k % 8) w t
joined k w t p q h =
    let u : List Bool = ending k in
    let r : ℕ = length k % 8 in
    let l : length (u ++ bits_of w t) ≡ r + w = omega (arith, length-append u (bits_of w t), length-ending k, length-bits_of w t) in
    let n : 16 - length (u ++ bits_of w t) ≡ 16 - r - w = omega (arith, l) in
    let v : number_of (u ++ bits_of w t) ≡ number_of u * 2 ^ w + t = number-append u (bits_of w t) ∙ ap (λ l. number_of u * 2 ^ l + number_of (bits_of w t)) (length-bits_of w t) ∙ ap (λ t. number_of u * 2 ^ w + t) (number_of-bits_of w t h) in
    ap (λ n. number_of (u ++ bits_of w t) * 2 ^ n) n
    ∙ regroup (number_of u) t (2 ^ w) (2 ^ (16 - r - w)) (2 ^ (8 - r)) (number_of (u ++ bits_of w t)) v (pow_join w (16 - r - w) (16 - r) (omega arith) ∙ sym (pow_join (8 - r) 8 (16 - r) (omega arith)))
    ∙ ap (λ l. l * 256 + placed r w t) (sym (last_byte k))
  where
    regroup : (u t p q s n : ℕ) → n ≡ u * p + t → p * q ≡ s * 256 → n * q ≡ (u * s) * 256 + t * q
    regroup u t p q s n e f = ap (λ n. n * q) e ∙ add-mul (u * p) t q ∙ ap (λ z. z + t * q) (mul_assoc u p q ∙ ap (λ z. u * z) f ∙ sym (mul_assoc u s 256))

-- the number stays within two bytes
pub placed_small : (r w t : ℕ) → r < 8 → 0 < w → w ≤ 8 → t < 2 ^ w → placed r w t < 65536
placed_small r w t g p q h =
    let s = mul-lt-mul_of_pos_right h (pow_pos (16 - r - w)) in
    let m = pow-le-pow_right {n = 2} (omega arith) {i = 16 - r} {j = 16} (omega arith) in
    omega (arith, s, pow_join w (16 - r - w) (16 - r) (omega arith), m)

-- and the first of them has room
pub sum_small : (k : List Bool) (w t : ℕ) → 0 < w → w ≤ 8 → t < 2 ^ w → get_or (packed k) (length k / 8) 0 + placed (length k % 8) w t / 256 < 256
sum_small k w t p q h =
    let x : List Bool = ending k ++ bits_of w t in
    let l : length x ≡ length k % 8 + w = omega (arith, length-append (ending k) (bits_of w t), length-ending k, length-bits_of w t) in
    let s = mul-lt-mul_of_pos_right (number-small x) (pow_pos (16 - length x)) in
    omega (arith, s, pow_join (length x) (16 - length x) 16 (omega (arith, l)), joined k w t p q h)

-- the bytes of a slot that ends in the byte where the key does
pub slot_short : (k : List Bool) (w t : ℕ) → 0 < w → w ≤ 8 → t < 2 ^ w → length k % 8 + w ≤ 8 →
    packed (k ++ bits_of w t) ≡ take (length k / 8) (packed k) ++ (get_or (packed k) (length k / 8) 0 + placed (length k % 8) w t / 256) ∷ []
slot_short k w t p q h g =
    let x : List Bool = ending k ++ bits_of w t in
    let l : length x ≡ length k % 8 + w = omega (arith, length-append (ending k) (bits_of w t), length-ending k, length-bits_of w t) in
    packed-behind k (bits_of w t)
    ∙ ap (λ b. take (length k / 8) (packed k) ++ b) (one_byte x (omega (arith, l)) (omega (arith, l)))
    ∙ ap (λ b. take (length k / 8) (packed k) ++ b ∷ []) (halved (number_of x) (2 ^ (8 - length x)) (2 ^ (16 - length x)) (get_or (packed k) (length k / 8) 0) (placed (length k % 8) w t) (pow_join (8 - length x) 8 (16 - length x) (omega (arith, l))) (joined k w t p q h))
  where
    halved : (n a b l p : ℕ) → a * 256 ≡ b → n * b ≡ l * 256 + p → n * a ≡ l + p / 256
    halved n a b l p e f = let g : (n * a) * 256 ≡ n * b = mul_assoc n a 256 ∙ ap (λ z. n * z) e in omega (arith, g, f)

-- and of one that reaches into the next
pub slot_long : (k : List Bool) (w t : ℕ) → 0 < w → w ≤ 8 → t < 2 ^ w → 8 < length k % 8 + w →
    packed (k ++ bits_of w t) ≡ take (length k / 8) (packed k) ++ (get_or (packed k) (length k / 8) 0 + placed (length k % 8) w t / 256) ∷ (placed (length k % 8) w t % 256) ∷ []
slot_long k w t p q h g =
    let x : List Bool = ending k ++ bits_of w t in
    let l : length x ≡ length k % 8 + w = omega (arith, length-append (ending k) (bits_of w t), length-ending k, length-bits_of w t) in
    let j = joined k w t p q h in
    packed-behind k (bits_of w t)
    ∙ ap (λ b. take (length k / 8) (packed k) ++ b) (two_bytes x (omega (arith, l)) (omega (arith, l)))
    ∙ ap (λ b. take (length k / 8) (packed k) ++ b ∷ (number_of x * 2 ^ (16 - length x) % 256) ∷ []) (omega (arith, j))
    ∙ ap (λ b. take (length k / 8) (packed k) ++ (get_or (packed k) (length k / 8) 0 + placed (length k % 8) w t / 256) ∷ b ∷ []) (omega (arith, j))

-- no bit of the token is shifted out
pub placed_is : (m v w t : ℕ) (k : List Bool) → m ≡ length k → v ≡ w → 0 < w → w ≤ 8 → t < 2 ^ w → t * 2 ^ (16 - m % 8 - v) % 65536 ≡ placed (length k % 8) w t
placed_is m v w t k e f p q h =
    ap (λ m. t * 2 ^ (16 - m % 8 - v) % 65536) e ∙ ap (λ v. t * 2 ^ (16 - length k % 8 - v) % 65536) f ∙ mod-eq_of_lt (placed_small (length k % 8) w t (omega arith) p q h)

-- the bytes that a slot is made of
pub slot_bytes : (m v w t b : ℕ) (bs ws vs us : List ℕ) (k : List Bool) → m ≡ length k → v ≡ w → 0 < w → w ≤ 8 → t < 2 ^ w → bs ≡ packed k → b ≡ get_or (packed k) (m / 8) 0 →
    ws ≡ take (m / 8) bs → vs ≡ ws ++ (b + t * 2 ^ (16 - m % 8 - v) % 65536 / 256) ∷ [] →
    ((m % 8 + v ≤ 8) × (us ≡ vs)) ⊎ ((8 < m % 8 + v) × (us ≡ vs ++ (t * 2 ^ (16 - m % 8 - v) % 65536 % 256) ∷ [])) → us ≡ packed (k ++ bits_of w t)
slot_bytes m v w t b bs ws vs us k e f p q h i j l n o =
    let z = placed_is m v w t k e f p q h in
    let x : b ≡ get_or (packed k) (length k / 8) 0 = j ∙ ap (λ m. get_or (packed k) (m / 8) 0) e in
    let y : ws ≡ take (length k / 8) (packed k) = l ∙ ap (λ m. take (m / 8) bs) e ∙ ap (take (length k / 8)) i in
    let a : vs ≡ take (length k / 8) (packed k) ++ (get_or (packed k) (length k / 8) 0 + placed (length k % 8) w t / 256) ∷ [] =
    n ∙ ap (λ y. y ++ (b + t * 2 ^ (16 - m % 8 - v) % 65536 / 256) ∷ []) y ∙ ap (λ z. take (length k / 8) (packed k) ++ (b + z / 256) ∷ []) z ∙ ap (λ b. take (length k / 8) (packed k) ++ (b + placed (length k % 8) w t / 256) ∷ []) x in
    elim o [
      | inl c ↦ c.1 ∙ a ∙ sym (slot_short k w t p q h (omega (arith, c.0, e, f)))
      | inr c ↦ c.1 ∙ ap (λ vs. vs ++ (t * 2 ^ (16 - m % 8 - v) % 65536 % 256) ∷ []) a
          ∙ append_assoc (take (length k / 8) (packed k)) ((get_or (packed k) (length k / 8) 0 + placed (length k % 8) w t / 256) ∷ []) ((t * 2 ^ (16 - m % 8 - v) % 65536 % 256) ∷ [])
          ∙ ap (λ z. take (length k / 8) (packed k) ++ (get_or (packed k) (length k / 8) 0 + placed (length k % 8) w t / 256) ∷ (z % 256) ∷ []) z
          ∙ sym (slot_long k w t p q h (omega (arith, c.0, e, f)))
    ]

-- how many bits a slot has
pub length-slot : (m v w t n : ℕ) (k : List Bool) → m ≡ length k → v ≡ w → n ≡ m + v → n ≡ length (k ++ bits_of w t)
length-slot m v w t n k e f g = omega (arith, e, f, g, length-append k (bits_of w t), length-bits_of w t)

-- the byte that the slot shares with its key
pub high_small : (m v w t b : ℕ) (k : List Bool) → m ≡ length k → v ≡ w → 0 < w → w ≤ 8 → t < 2 ^ w → b ≡ get_or (packed k) (m / 8) 0 → b + t * 2 ^ (16 - m % 8 - v) % 65536 / 256 < 256
high_small m v w t b k e f p q h j =
    let z = placed_is m v w t k e f p q h in
    let x : b ≡ get_or (packed k) (length k / 8) 0 = j ∙ ap (λ m. get_or (packed k) (m / 8) 0) e in
    let s = sum_small k w t p q h in
    omega (arith, z, x, s)
