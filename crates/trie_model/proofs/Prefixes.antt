-- Prefixes of keys, what keys have in common, and whole tokens.
use Rattle.std.proofs.Common.{◌≡◌, ℕ, zero, suc, ◌+◌, ◌*◌, ◌/◌, ◌^◌, ◌<◌, ◌≤◌, Bool, true, false, List, [], ◌∷◌, ◌++◌, length, take, drop, refl, sym, ap, ◌∙◌, arith, subst, ◌⊎◌, inl, inr, take-append-drop}
use Rattle.std.proofs.lemmas.Bool.{cases_lt}
use Rattle.std.proofs.lemmas.List.{length-take-le, take_all}
use Rattle.std.proofs.Math.Nat.{mul-le-mul_left, mul-div_cancel_left}
use Rattle.base_model.proofs.Bits.{bits_of-number_of, number-small}
use Rattle.trie_model.specs.Bits.{bits_of, number_of, is_prefix, same_key, common_prefix, common, whole_tokens}

-- ---- prefixes
-- keys that test the same are one
pub same_key-is : (a b : List Bool) → same_key a b ≡ true → a ≡ b
same_key-is [] [] h = refl
same_key-is (true ∷ a) (true ∷ b) h = ap (λ r. true ∷ r) (same_key-is a b h)
same_key-is (false ∷ a) (false ∷ b) h = ap (λ r. false ∷ r) (same_key-is a b h)
same_key-is a b h = absurd (cc)

-- a key tests the same as itself
pub same_key-itself : (a : List Bool) → same_key a a ≡ true
same_key-itself [] = refl
same_key-itself (true ∷ a) = same_key-itself a
same_key-itself (false ∷ a) = same_key-itself a

-- a key is a prefix of itself
pub is_prefix-itself : (a : List Bool) → is_prefix a a ≡ true
is_prefix-itself [] = refl
is_prefix-itself (true ∷ a) = is_prefix-itself a
is_prefix-itself (false ∷ a) = is_prefix-itself a

-- a prefix of a prefix is a prefix
pub is_prefix-through : (a b c : List Bool) → is_prefix a b ≡ true → is_prefix b c ≡ true → is_prefix a c ≡ true
is_prefix-through [] b c h k = refl
is_prefix-through (true ∷ a) (true ∷ b) (true ∷ c) h k = is_prefix-through a b c h k
is_prefix-through (false ∷ a) (false ∷ b) (false ∷ c) h k = is_prefix-through a b c h k
is_prefix-through (x ∷ a) b c h k = absurd (cc)

-- the first bits of a key are a prefix
pub is_prefix-take : (n : ℕ) (a : List Bool) → is_prefix (take n a) a ≡ true
is_prefix-take zero a = refl
is_prefix-take (suc n) [] = refl
is_prefix-take (suc n) (true ∷ a) = is_prefix-take n a
is_prefix-take (suc n) (false ∷ a) = is_prefix-take n a

-- a prefix that is no shorter is the key itself
pub is_prefix-all : (a b : List Bool) → is_prefix a b ≡ true → length b ≤ length a → b ≡ a
is_prefix-all [] [] h l = refl
is_prefix-all [] (y ∷ b) h l = absurd (omega arith)
is_prefix-all (true ∷ a) (true ∷ b) h l = ap (λ r. true ∷ r) (is_prefix-all a b h (omega arith))
is_prefix-all (false ∷ a) (false ∷ b) h l = ap (λ r. false ∷ r) (is_prefix-all a b h (omega arith))
is_prefix-all (x ∷ a) b h l = absurd (cc)

-- a prefix is no longer than the key
pub length-is_prefix : (s a : List Bool) → is_prefix s a ≡ true → length s ≤ length a
length-is_prefix [] a h = omega arith
length-is_prefix (true ∷ s) (true ∷ a) h = let r = length-is_prefix s a h in omega arith
length-is_prefix (false ∷ s) (false ∷ a) h = let r = length-is_prefix s a h in omega arith
length-is_prefix (x ∷ s) a h = absurd (cc)

-- what begins a key begins all that goes on from it
pub is_prefix-append : (p k q : List Bool) → is_prefix p k ≡ true → is_prefix p (k ++ q) ≡ true
is_prefix-append [] k q h = refl
is_prefix-append (true ∷ p) (true ∷ k) q h = is_prefix-append p k q h
is_prefix-append (false ∷ p) (false ∷ k) q h = is_prefix-append p k q h
is_prefix-append (x ∷ p) k q h = absurd (cc)

-- a prefix is the first bits of its key
pub take-is_prefix : (a q : List Bool) → is_prefix a q ≡ true → take (length a) q ≡ a
take-is_prefix [] q h = refl
take-is_prefix (true ∷ a) (true ∷ q) h = ap (λ r. true ∷ r) (take-is_prefix a q h)
take-is_prefix (false ∷ a) (false ∷ q) h = ap (λ r. false ∷ r) (take-is_prefix a q h)
take-is_prefix (x ∷ a) q h = absurd (cc)

-- a key is its prefix and the rest
pub split_prefix : (a q : List Bool) → is_prefix a q ≡ true → q ≡ a ++ drop (length a) q
split_prefix a q h = sym (take-append-drop (length a) q) ∙ ap (λ r. r ++ drop (length a) q) (take-is_prefix a q h)

-- a prefix of a key is one of its first bits, as far as it goes
pub prefix_of_take : (s x : List Bool) (m : ℕ) → is_prefix s x ≡ true → length s ≤ m → is_prefix s (take m x) ≡ true
prefix_of_take [] x m h l = refl
prefix_of_take (a ∷ s) x zero h l = absurd (omega arith)
prefix_of_take (true ∷ s) (true ∷ x) (suc m) h l = prefix_of_take s x m h (omega arith)
prefix_of_take (false ∷ s) (false ∷ x) (suc m) h l = prefix_of_take s x m h (omega arith)
prefix_of_take (a ∷ s) x (suc m) h l = absurd (cc)

-- a key that is longer than its prefix by a token goes on with one
pub branches : (w : ℕ) (k q : List Bool) → is_prefix k q ≡ true → length k + w ≤ length q → (t : ℕ) × (t < 2 ^ w) × (is_prefix (k ++ bits_of w t) q ≡ true)
branches w [] q h l =
    let e : length (take w q) ≡ w = length-take-le w q long_enough in
    let f : bits_of w (number_of (take w q)) ≡ take w q = subst (λ v. bits_of v (number_of (take w q)) ≡ take w q) e (bits_of-number_of (take w q)) in
    (number_of (take w q), subst (λ v. number_of (take w q) < 2 ^ v) e (number-small (take w q)), rw f (is_prefix-take w q))
  where
    long_enough : w ≤ length q
    long_enough = omega (arith, l)
branches w (true ∷ k) (true ∷ q) h l = branches w k q h (omega arith)
branches w (false ∷ k) (false ∷ q) h l = branches w k q h (omega arith)
branches w (x ∷ k) q h l = absurd (cc)

-- ---- common prefixes
-- what two keys have in common is a prefix of the first
pub is_prefix-common_prefix-left : (a b : List Bool) → is_prefix (common_prefix a b) a ≡ true
is_prefix-common_prefix-left [] b = refl
is_prefix-common_prefix-left (x ∷ a) [] = refl
is_prefix-common_prefix-left (true ∷ a) (true ∷ b) = is_prefix-common_prefix-left a b
is_prefix-common_prefix-left (true ∷ a) (false ∷ b) = refl
is_prefix-common_prefix-left (false ∷ a) (true ∷ b) = refl
is_prefix-common_prefix-left (false ∷ a) (false ∷ b) = is_prefix-common_prefix-left a b

-- what two keys have in common is a prefix of the second
pub is_prefix-common_prefix-right : (a b : List Bool) → is_prefix (common_prefix a b) b ≡ true
is_prefix-common_prefix-right [] b = refl
is_prefix-common_prefix-right (x ∷ a) [] = refl
is_prefix-common_prefix-right (true ∷ a) (true ∷ b) = is_prefix-common_prefix-right a b
is_prefix-common_prefix-right (true ∷ a) (false ∷ b) = refl
is_prefix-common_prefix-right (false ∷ a) (true ∷ b) = refl
is_prefix-common_prefix-right (false ∷ a) (false ∷ b) = is_prefix-common_prefix-right a b

-- a prefix of two keys is one of their common prefix
pub is_prefix-common_prefix : (s a b : List Bool) → is_prefix s a ≡ true → is_prefix s b ≡ true → is_prefix s (common_prefix a b) ≡ true
is_prefix-common_prefix [] a b h k = refl
is_prefix-common_prefix (true ∷ s) (true ∷ a) (true ∷ b) h k = is_prefix-common_prefix s a b h k
is_prefix-common_prefix (false ∷ s) (false ∷ a) (false ∷ b) h k = is_prefix-common_prefix s a b h k
is_prefix-common_prefix (x ∷ s) a b h k = absurd (cc)

-- a key has all of itself in common with itself
pub common_prefix-itself : (a : List Bool) → common_prefix a a ≡ a
common_prefix-itself [] = refl
common_prefix-itself (true ∷ a) = ap (λ r. true ∷ r) (common_prefix-itself a)
common_prefix-itself (false ∷ a) = ap (λ r. false ∷ r) (common_prefix-itself a)

-- ---- whole tokens
-- whole tokens are no longer than what they are taken from
pub div-le : (w m : ℕ) → 0 < w → w * (m / w) ≤ m
div-le w m pos = omega arith

-- the whole tokens in front of a key, in bits
pub length_whole : (w : ℕ) (k : List Bool) → 0 < w → length (whole_tokens w k) ≡ w * (length k / w)
length_whole w k pos = length-take-le (w * (length k / w)) k (div-le w (length k) pos)

-- a length in whole tokens is no greater than another, or smaller by a whole token
pub whole_step : (w a b : ℕ) → w * a ≤ w * b → (w * b ≤ w * a) ⊎ (w * a + w ≤ w * b)
whole_step w a b h = elim (cases_lt a b) [
  | inl l ↦ let m : w * suc a ≤ w * b = mul-le-mul_left w l in inr (omega (arith, m))
  | inr l ↦ inl (mul-le-mul_left w l)
]

-- whole tokens are all of a key of whole tokens
pub whole_of_whole : (w n : ℕ) (k : List Bool) → 0 < w → length k ≡ w * n → whole_tokens w k ≡ k
whole_of_whole w n k pos e = take_all (w * (length k / w)) k (let f : w * (length k / w) ≡ length k = ap (λ l. w * (l / w)) e ∙ ap (λ q. w * q) (mul-div_cancel_left n pos) ∙ sym e in omega (arith, f))

-- whole tokens in front of a key begin its whole tokens
pub prefix_of_whole : (w n : ℕ) (s x : List Bool) → 0 < w → length s ≡ w * n → is_prefix s x ≡ true → is_prefix s (whole_tokens w x) ≡ true
prefix_of_whole w n s x pos e h = prefix_of_take s x (w * (length x / w)) h (fits (cases_lt (length x / w) n))
  where
    fits : (length x / w < n) ⊎ (n ≤ length x / w) → length s ≤ w * (length x / w)
    fits (inr l) = let m : w * n ≤ w * (length x / w) = mul-le-mul_left w l in omega (arith, m, e)
    fits (inl l) =
        let m : w * suc (length x / w) ≤ w * n = mul-le-mul_left w l in
        let p = length-is_prefix s x h in
        let q : length x < w * suc (length x / w) = omega arith in
        absurd (omega (arith, m, e, p, q))

-- ---- common runs
-- so is its common run its own tokens
pub common_itself : (w n : ℕ) (k : List Bool) → 0 < w → length k ≡ w * n → common w (k ∷ k ∷ []) ≡ k
common_itself w n k pos e = ap (whole_tokens w) (common_prefix-itself k) ∙ whole_of_whole w n k pos e

-- a common run begins the first key
pub common-left : (w : ℕ) (a b : List Bool) → is_prefix (common w (a ∷ b ∷ [])) a ≡ true
common-left w a b = is_prefix-through (common w (a ∷ b ∷ [])) (common_prefix a b) a (is_prefix-take _ (common_prefix a b)) (is_prefix-common_prefix-left a b)

-- a common run begins the second key
pub common-right : (w : ℕ) (a b : List Bool) → is_prefix (common w (a ∷ b ∷ [])) b ≡ true
common-right w a b = is_prefix-through (common w (a ∷ b ∷ [])) (common_prefix a b) b (is_prefix-take _ (common_prefix a b)) (is_prefix-common_prefix-right a b)

-- what begins two keys, in whole tokens, begins their common run
pub prefix_of_common : (w n : ℕ) (s a b : List Bool) → 0 < w → length s ≡ w * n → is_prefix s a ≡ true → is_prefix s b ≡ true → is_prefix s (common w (a ∷ b ∷ [])) ≡ true
prefix_of_common w n s a b pos e h k = prefix_of_whole w n s (common_prefix a b) pos e (is_prefix-common_prefix s a b h k)
