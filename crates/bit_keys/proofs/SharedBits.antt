use Rattle.std.proofs.Common.{◌≡◌, ◌≢◌, ℕ, zero, suc, ◌+◌, ◌-◌, ◌*◌, ◌%◌, ◌^◌, ◌<◌, ◌≤◌, Bool, true, false, cond, List, [], ◌∷◌, ◌++◌, length, length-take, get_or, take, drop, refl, sym, ap, ◌∙◌, arith, subst, inl, inr, leb, eqb, min, ◌⊎◌}
use Rattle.std.proofs.Math.Nat.{pow-succ', mod-eq_of_lt, mod-eq-sub-mod}
use Rattle.std.proofs.lemmas.Nat.{xor_block, xor_lt, pow_pos}
use Rattle.std.proofs.lemmas.Bool.{cases_lt}
use Rattle.std.proofs.lemmas.Bool.Decides.{nat_tests}
use Rattle.std.specs.Int.Bits.{bit_xor}
use Rattle.std.specs.Int.Count.{count_leading_zeros, leading_unique}
use Rattle.std.specs.List.{common_prefix_len}
use Rattle.base_model.proofs.Bits.{length-bits_of, bits_of-injective}
use Rattle.base_model.proofs.PackedBits.{length-bits_of_bytes}
use Rattle.bit_keys.proofs.KeyFacts.{IsKey, key_bytes, drop_past}
use Rattle.trie_model.specs.Bits.{bits_of, bits_of_bytes, packed, common_prefix, is_prefix}

-- what two fronts have in common
pub shared_of_fronts : (m n : ℕ) (a b : List Bool) → m ≤ length a → n ≤ length b → length (common_prefix (take m a) (take n b)) ≡ min (min (length (common_prefix a b)) m) n
shared_of_fronts zero n a b h k = grind (arith, nat_tests)
shared_of_fronts (suc m) zero [] b h k = absurd (omega arith)
shared_of_fronts (suc m) zero (x ∷ a) b h k = grind (arith, nat_tests)
shared_of_fronts (suc m) (suc n) [] b h k = absurd (omega arith)
shared_of_fronts (suc m) (suc n) (x ∷ a) [] h k = absurd (omega arith)
shared_of_fronts (suc m) (suc n) (true ∷ a) (true ∷ b) h k = let r = shared_of_fronts m n a b (omega arith) (omega arith) in grind (arith, nat_tests)
shared_of_fronts (suc m) (suc n) (false ∷ a) (false ∷ b) h k = let r = shared_of_fronts m n a b (omega arith) (omega arith) in grind (arith, nat_tests)
shared_of_fronts (suc m) (suc n) (true ∷ a) (false ∷ b) h k = grind (arith, nat_tests)
shared_of_fronts (suc m) (suc n) (false ∷ a) (true ∷ b) h k = grind (arith, nat_tests)

-- no more is shared than there is
shared_le : (a b : List Bool) → length (common_prefix a b) ≤ length a
shared_le [] b = omega arith
shared_le (x ∷ a) [] = omega arith
shared_le (true ∷ a) (true ∷ b) = let r = shared_le a b in omega arith
shared_le (false ∷ a) (false ∷ b) = let r = shared_le a b in omega arith
shared_le (true ∷ a) (false ∷ b) = omega arith
shared_le (false ∷ a) (true ∷ b) = omega arith

-- a front that both have is shared
shared-append : (c a b : List Bool) → length (common_prefix (c ++ a) (c ++ b)) ≡ length c + length (common_prefix a b)
shared-append [] a b = omega arith
shared-append (true ∷ c) a b = let r = shared-append c a b in omega arith
shared-append (false ∷ c) a b = let r = shared-append c a b in omega arith

-- behind the first bit that differs nothing is shared
shared_within : (a b x y : List Bool) → length a ≡ length b → a ≢ b → length (common_prefix (a ++ x) (b ++ y)) ≡ length (common_prefix a b)
shared_within [] [] x y e d = absurd (d refl)
shared_within [] (q ∷ b) x y e d = absurd (omega arith)
shared_within (p ∷ a) [] x y e d = absurd (omega arith)
shared_within (true ∷ a) (true ∷ b) x y e d = ap suc (shared_within a b x y (omega arith) (λ f. d (ap (λ r. true ∷ r) f)))
shared_within (false ∷ a) (false ∷ b) x y e d = ap suc (shared_within a b x y (omega arith) (λ f. d (ap (λ r. false ∷ r) f)))
shared_within (true ∷ a) (false ∷ b) x y e d = refl
shared_within (false ∷ a) (true ∷ b) x y e d = refl

-- two runs of bits of one length that differ share less than all
shared_short : (a b : List Bool) → length a ≡ length b → a ≢ b → length (common_prefix a b) < length a
shared_short [] [] e d = absurd (d refl)
shared_short [] (q ∷ b) e d = absurd (omega arith)
shared_short (p ∷ a) [] e d = absurd (omega arith)
shared_short (true ∷ a) (true ∷ b) e d = let r = shared_short a b (omega arith) (λ f. d (ap (λ r. true ∷ r) f)) in omega arith
shared_short (false ∷ a) (false ∷ b) e d = let r = shared_short a b (omega arith) (λ f. d (ap (λ r. false ∷ r) f)) in omega arith
shared_short (true ∷ a) (false ∷ b) e d = omega arith
shared_short (false ∷ a) (true ∷ b) e d = omega arith

-- the first bit in which two numbers differ is the highest bit of their difference
data Top (n p : ℕ) : Type 0 where
  low : n < p → n % p ≡ n → leb p n ≡ false → Top n p
  high : n ≡ 1 * p + n % p → leb p n ≡ true → Top n p

-- each number below twice the power stands on one side of it
top_bit : (n p : ℕ) → n < 2 * p → Top n p
top_bit n p h = elim (cases_lt n p) [
  | inl a ↦ low a (mod-eq_of_lt a) (grind (arith, nat_tests))
  | inr b ↦ let c : n - p < p = omega arith in let e : n % p ≡ n - p = mod-eq-sub-mod b ∙ mod-eq_of_lt c in high (omega arith) (grind (arith, nat_tests))
]

-- a number d of w bits, of which s in front are zeros and the next is not
abbrev IsDifference : ℕ → ℕ → ℕ → Type 0
IsDifference w s d = (d < 2 ^ (w - s)) × (2 ^ (w - s) ≤ 2 * d + 1)

-- the exclusive or has a zero for each shared bit, and then a one
difference : (w x y : ℕ) → x < 2 ^ w → y < 2 ^ w → IsDifference w (length (common_prefix (bits_of w x) (bits_of w y))) (bit_xor x y)
difference zero x y h k = let e : x ≡ 0 = omega arith in let f : y ≡ 0 = omega arith in rw (e, f) (omega arith, omega arith)
difference (suc w) x y h k = both (top_bit x (2 ^ w) (subst (λ p. x < p) (pow-succ' 2 w) h)) (top_bit y (2 ^ w) (subst (λ p. y < p) (pow-succ' 2 w) k)) (difference w (x % 2 ^ w) (y % 2 ^ w) (omega (arith, pow_pos w)) (omega (arith, pow_pos w)))
  where
    s : ℕ
    s = length (common_prefix (bits_of w (x % 2 ^ w)) (bits_of w (y % 2 ^ w)))

    r : bit_xor (x % 2 ^ w) (y % 2 ^ w) < 2 ^ w
    r = xor_lt w (x % 2 ^ w) (y % 2 ^ w) (omega (arith, pow_pos w)) (omega (arith, pow_pos w))

    block : (i j : ℕ) → x ≡ i * 2 ^ w + x % 2 ^ w → y ≡ j * 2 ^ w + y % 2 ^ w → bit_xor x y ≡ bit_xor i j * 2 ^ w + bit_xor (x % 2 ^ w) (y % 2 ^ w)
    block i j e f = ap (λ x. bit_xor x y) e ∙ ap (λ y. bit_xor (i * 2 ^ w + x % 2 ^ w) y) f ∙ xor_block w i j (x % 2 ^ w) (y % 2 ^ w) (omega (arith, pow_pos w)) (omega (arith, pow_pos w))

    same : (d : ℕ) → d ≡ bit_xor (x % 2 ^ w) (y % 2 ^ w) → IsDifference w s (bit_xor (x % 2 ^ w) (y % 2 ^ w)) → IsDifference (suc w) (suc s) d
    same d e q = let z : suc w - suc s ≡ w - s = omega arith in rw (z, e) q

    apart : (d : ℕ) → d ≡ 1 * 2 ^ w + bit_xor (x % 2 ^ w) (y % 2 ^ w) → IsDifference (suc w) 0 d
    apart d e = let z : suc w - 0 ≡ suc w = omega arith in rw z (omega (arith, e, r, pow-succ' 2 w), omega (arith, e, pow-succ' 2 w))

    both : Top x (2 ^ w) → Top y (2 ^ w) → IsDifference w s (bit_xor (x % 2 ^ w) (y % 2 ^ w)) → IsDifference (suc w) (length (common_prefix (bits_of (suc w) x) (bits_of (suc w) y))) (bit_xor x y)
    both (low a e t) (low b f u) q = rw (t, u) (same (bit_xor x y) (cc) q)
    both (high e t) (high f u) q = rw (t, u) (same (bit_xor x y) (block 1 1 e f ∙ omega arith) q)
    both (low a e t) (high f u) q = rw (t, u) (apart (bit_xor x y) (block 0 1 (sym e ∙ omega arith) f))
    both (high e t) (low b f u) q = rw (t, u) (apart (bit_xor x y) (block 1 0 e (sym f ∙ omega arith)))

-- so its leading zeros count the shared bits
pub leading_shared : (w x y : ℕ) → x < 2 ^ w → y < 2 ^ w → count_leading_zeros w (bit_xor x y) ≡ length (common_prefix (bits_of w x) (bits_of w y))
leading_shared w x y h k =
    let d = difference w x y h k in
    sym (leading_unique w (bit_xor x y) (length (common_prefix (bits_of w x) (bits_of w y))) (w - length (common_prefix (bits_of w x) (bits_of w y))) (omega (arith, shared_le (bits_of w x) (bits_of w y), length-bits_of w x)) d.0 d.1)

-- the bits that bytes share: those of the equal bytes, and of the first bytes that differ
pub shared_bytes : (a b : List ℕ) → ((i : ℕ) → get_or a i 0 < 256) → ((i : ℕ) → get_or b i 0 < 256) → common_prefix_len eqb a b < length a → common_prefix_len eqb a b < length b →
    length (common_prefix (bits_of_bytes a) (bits_of_bytes b)) ≡ 8 * common_prefix_len eqb a b + count_leading_zeros 8 (bit_xor (get_or a (common_prefix_len eqb a b) 0) (get_or b (common_prefix_len eqb a b) 0))
shared_bytes [] b f g h k = absurd (omega arith)
shared_bytes (x ∷ a) [] f g h k = absurd (omega arith)
shared_bytes (x ∷ a) (y ∷ b) f g h k = go (eqb x y) refl (shared_bytes a b (λ i. f (suc i)) (λ i. g (suc i)))
  where
    N : ℕ
    N = common_prefix_len eqb a b

    go : (t : Bool) → eqb x y ≡ t
        → (N < length a → N < length b → length (common_prefix (bits_of_bytes a) (bits_of_bytes b)) ≡ 8 * N + count_leading_zeros 8 (bit_xor (get_or a N 0) (get_or b N 0)))
        → length (common_prefix (bits_of 8 x ++ bits_of_bytes a) (bits_of 8 y ++ bits_of_bytes b)) ≡ 8 * common_prefix_len eqb (x ∷ a) (y ∷ b) + count_leading_zeros 8 (bit_xor (get_or (x ∷ a) (common_prefix_len eqb (x ∷ a) (y ∷ b)) 0) (get_or (y ∷ b) (common_prefix_len eqb (x ∷ a) (y ∷ b)) 0))
    go true e r =
        let n : common_prefix_len eqb (x ∷ a) (y ∷ b) ≡ suc N = ap (λ t. cond t (1 + N) 0) e ∙ omega arith in
        let q : x ≡ y = grind (arith, nat_tests) in
        ap (λ y. length (common_prefix (bits_of 8 x ++ bits_of_bytes a) (bits_of 8 y ++ bits_of_bytes b))) (sym q)
        ∙ shared-append (bits_of 8 x) (bits_of_bytes a) (bits_of_bytes b)
        ∙ omega (arith, length-bits_of 8 x, r (omega (arith, n, h)) (omega (arith, n, k)))
        ∙ ap (λ n. 8 * n + count_leading_zeros 8 (bit_xor (get_or (x ∷ a) n 0) (get_or (y ∷ b) n 0))) (sym n)
    go false e r =
        let n : common_prefix_len eqb (x ∷ a) (y ∷ b) ≡ 0 = ap (λ t. cond t (1 + N) 0) e in
        let q : x ≢ y = λ (q : x ≡ y). grind (arith, nat_tests) in
        shared_within (bits_of 8 x) (bits_of 8 y) (bits_of_bytes a) (bits_of_bytes b) (length-bits_of 8 x ∙ sym (length-bits_of 8 y)) (λ i. q (bits_of-injective 8 x y (f 0) (g 0) i))
        ∙ sym (leading_shared 8 x y (f 0) (g 0))
        ∙ omega arith
        ∙ ap (λ n. 8 * n + count_leading_zeros 8 (bit_xor (get_or (x ∷ a) n 0) (get_or (y ∷ b) n 0))) (sym n)

-- where the bytes of one begin those of the other, all bits of the shorter are shared
pub shared_all : (a b : List ℕ) → (length a ≤ common_prefix_len eqb a b) ⊎ (length b ≤ common_prefix_len eqb a b) → min (8 * length a) (8 * length b) ≤ length (common_prefix (bits_of_bytes a) (bits_of_bytes b))
shared_all [] b h = omega arith
shared_all (x ∷ a) [] h = omega arith
shared_all (x ∷ a) (y ∷ b) h = go (eqb x y) refl (shared_all a b)
  where
    N : ℕ
    N = common_prefix_len eqb a b

    one : {m : ℕ} → suc m ≤ 1 + N → m ≤ N
    one h = omega arith

    go : (t : Bool) → eqb x y ≡ t → ((length a ≤ N) ⊎ (length b ≤ N) → min (8 * length a) (8 * length b) ≤ length (common_prefix (bits_of_bytes a) (bits_of_bytes b)))
        → min (8 * suc (length a)) (8 * suc (length b)) ≤ length (common_prefix (bits_of 8 x ++ bits_of_bytes a) (bits_of 8 y ++ bits_of_bytes b))
    go true e r =
        let n : common_prefix_len eqb (x ∷ a) (y ∷ b) ≡ 1 + N = ap (λ t. cond t (1 + N) 0) e in
        let q : x ≡ y = grind (arith, nat_tests) in
        let i : min (8 * length a) (8 * length b) ≤ length (common_prefix (bits_of_bytes a) (bits_of_bytes b)) = r (elim h [ inl l ↦ inl (omega (arith, l, n)) | inr l ↦ inr (omega (arith, l, n)) ]) in
        let j : length (common_prefix (bits_of 8 x ++ bits_of_bytes a) (bits_of 8 y ++ bits_of_bytes b)) ≡ 8 + length (common_prefix (bits_of_bytes a) (bits_of_bytes b)) =
        ap (λ y. length (common_prefix (bits_of 8 x ++ bits_of_bytes a) (bits_of 8 y ++ bits_of_bytes b))) (sym q) ∙ shared-append (bits_of 8 x) (bits_of_bytes a) (bits_of_bytes b) ∙ ap (λ n. n + length (common_prefix (bits_of_bytes a) (bits_of_bytes b))) (length-bits_of 8 x) in
        omega (arith, i, j)
    go false e r = let n : common_prefix_len eqb (x ∷ a) (y ∷ b) ≡ 0 = ap (λ t. cond t (1 + N) 0) e in absurd (elim h [ inl l ↦ omega (arith, l, n) | inr l ↦ omega (arith, l, n) ])

-- the first bytes that differ share fewer than eight bits
pub leading_small : (a b : List ℕ) → ((i : ℕ) → get_or a i 0 < 256) → ((i : ℕ) → get_or b i 0 < 256) → common_prefix_len eqb a b < length a → common_prefix_len eqb a b < length b →
    count_leading_zeros 8 (bit_xor (get_or a (common_prefix_len eqb a b) 0) (get_or b (common_prefix_len eqb a b) 0)) < 8
leading_small [] b f g h k = absurd (omega arith)
leading_small (x ∷ a) [] f g h k = absurd (omega arith)
leading_small (x ∷ a) (y ∷ b) f g h k = go (eqb x y) refl (leading_small a b (λ i. f (suc i)) (λ i. g (suc i)))
  where
    N : ℕ
    N = common_prefix_len eqb a b

    go : (t : Bool) → eqb x y ≡ t → (N < length a → N < length b → count_leading_zeros 8 (bit_xor (get_or a N 0) (get_or b N 0)) < 8)
        → count_leading_zeros 8 (bit_xor (get_or (x ∷ a) (common_prefix_len eqb (x ∷ a) (y ∷ b)) 0) (get_or (y ∷ b) (common_prefix_len eqb (x ∷ a) (y ∷ b)) 0)) < 8
    go true e r =
        let n : common_prefix_len eqb (x ∷ a) (y ∷ b) ≡ suc N = ap (λ t. cond t (1 + N) 0) e ∙ omega arith in
        subst (λ n. count_leading_zeros 8 (bit_xor (get_or (x ∷ a) n 0) (get_or (y ∷ b) n 0)) < 8) (sym n) (r (omega (arith, n, h)) (omega (arith, n, k)))
    go false e r =
        let n : common_prefix_len eqb (x ∷ a) (y ∷ b) ≡ 0 = ap (λ t. cond t (1 + N) 0) e in
        let q : x ≢ y = λ (q : x ≡ y). grind (arith, nat_tests) in
        subst (λ n. count_leading_zeros 8 (bit_xor (get_or (x ∷ a) n 0) (get_or (y ∷ b) n 0)) < 8) (sym n)
        (let s = shared_short (bits_of 8 x) (bits_of 8 y) (length-bits_of 8 x ∙ sym (length-bits_of 8 y)) (λ i. q (bits_of-injective 8 x y (f 0) (g 0) i)) in omega (arith, s, length-bits_of 8 x, leading_shared 8 x y (f 0) (g 0)))

-- nothing is shared with bytes that have ended
pub ended : (a b : List ℕ) (n : ℕ) → length b ≤ n → common_prefix_len eqb (drop n a) (drop n b) ≡ 0
ended a b n h = ap (common_prefix_len eqb (drop n a)) (drop_past n b h) ∙ none (drop n a)
  where
    none : (a : List ℕ) → common_prefix_len eqb a [] ≡ 0
    none [] = refl
    none (x ∷ a) = refl

-- bits take no more bytes than they need
pub length-packed : (k : List Bool) → 8 * length (packed k) ≤ length k + 7
length-packed [] = omega arith
length-packed (a ∷ []) = omega arith
length-packed (a ∷ b ∷ []) = omega arith
length-packed (a ∷ b ∷ c ∷ []) = omega arith
length-packed (a ∷ b ∷ c ∷ d ∷ []) = omega arith
length-packed (a ∷ b ∷ c ∷ d ∷ e ∷ []) = omega arith
length-packed (a ∷ b ∷ c ∷ d ∷ e ∷ f ∷ []) = omega arith
length-packed (a ∷ b ∷ c ∷ d ∷ e ∷ f ∷ g ∷ []) = omega arith
length-packed (a ∷ b ∷ c ∷ d ∷ e ∷ f ∷ g ∷ h ∷ k) = let r = length-packed k in omega arith

-- bytes that differ lie inside of the key, and share fewer than eight bits
pub before_fits : (m n N : ℕ) (bs cs : List ℕ) (k l : List Bool) → IsKey m bs k → IsKey n cs l → N ≡ common_prefix_len eqb bs cs → N < length bs → N < length cs →
    (8 * N < m) × (count_leading_zeros 8 (bit_xor (get_or bs N 0) (get_or cs N 0)) < 8)
before_fits m n N bs cs k l e f p h j = (
  omega (arith, h, length-packed (take m (bits_of_bytes bs)), length-take m (bits_of_bytes bs), ap length e.2),
  subst (λ N. count_leading_zeros 8 (bit_xor (get_or bs N 0) (get_or cs N 0)) < 8) (sym p) (leading_small bs cs (key_bytes m bs k e) (key_bytes n cs l f) (omega arith) (omega arith)),
)

-- what two keys share, where their bytes differ
pub shared_apart : (m n N s : ℕ) (bs cs : List ℕ) (k l : List Bool) → IsKey m bs k → IsKey n cs l → N ≡ common_prefix_len eqb bs cs → N < length bs → N < length cs →
    s ≡ 8 * N + count_leading_zeros 8 (bit_xor (get_or bs N 0) (get_or cs N 0)) → min (min m n) s ≡ length (common_prefix k l)
shared_apart m n N s bs cs k l e f p h j w =
    let b : length (common_prefix (bits_of_bytes bs) (bits_of_bytes cs)) ≡ 8 * N + count_leading_zeros 8 (bit_xor (get_or bs N 0) (get_or cs N 0)) =
    shared_bytes bs cs (key_bytes m bs k e) (key_bytes n cs l f) (omega arith) (omega arith) ∙ ap (λ N. 8 * N + count_leading_zeros 8 (bit_xor (get_or bs N 0) (get_or cs N 0))) (sym p) in
    ap (λ s. min (min m n) s) (w ∙ sym b)
    ∙ regroup (length (common_prefix (bits_of_bytes bs) (bits_of_bytes cs)))
    ∙ sym (shared_of_fronts m n (bits_of_bytes bs) (bits_of_bytes cs) (omega (arith, e.1, length-bits_of_bytes bs)) (omega (arith, f.1, length-bits_of_bytes cs)))
    ∙ ap (λ k. length (common_prefix k (take n (bits_of_bytes cs)))) e.0 ∙ ap (λ l. length (common_prefix k l)) f.0
  where
    regroup : (s : ℕ) → min (min m n) s ≡ min (min s m) n
    regroup s = omega arith

-- and where the bytes of one begin those of the other
pub shared_along : (m n N : ℕ) (bs cs : List ℕ) (k l : List Bool) → IsKey m bs k → IsKey n cs l → N ≡ common_prefix_len eqb bs cs → (length bs ≤ N) ⊎ (length cs ≤ N) →
    min m n ≡ length (common_prefix k l)
shared_along m n N bs cs k l e f p h =
    let b = shared_all bs cs (elim h [ inl q ↦ inl (omega arith) | inr q ↦ inr (omega arith) ]) in
    least (length (common_prefix (bits_of_bytes bs) (bits_of_bytes cs))) m n (8 * length bs) (8 * length cs) e.1 f.1 b
    ∙ sym (shared_of_fronts m n (bits_of_bytes bs) (bits_of_bytes cs) (omega (arith, e.1, length-bits_of_bytes bs)) (omega (arith, f.1, length-bits_of_bytes cs)))
    ∙ ap (λ k. length (common_prefix k (take n (bits_of_bytes cs)))) e.0 ∙ ap (λ l. length (common_prefix k l)) f.0
  where
    least : (L m n p q : ℕ) → m ≤ p → n ≤ q → min p q ≤ L → min m n ≡ min (min L m) n
    least L m n p q c d e = omega arith

-- one more on both sides changes no test
same_suc : (m n : ℕ) → eqb (suc m) (suc n) ≡ eqb m n
same_suc m n = grind (arith, nat_tests)

-- a key that begins another shares all its bits
pub begins : (a b : List Bool) → eqb (length (common_prefix a b)) (length a) ≡ is_prefix a b
begins [] b = refl
begins (x ∷ a) [] = grind (arith, nat_tests)
begins (true ∷ a) (true ∷ b) = same_suc (length (common_prefix a b)) (length a) ∙ begins a b
begins (false ∷ a) (false ∷ b) = same_suc (length (common_prefix a b)) (length a) ∙ begins a b
begins (true ∷ a) (false ∷ b) = grind (arith, nat_tests)
begins (false ∷ a) (true ∷ b) = grind (arith, nat_tests)
