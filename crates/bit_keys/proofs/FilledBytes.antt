use Rattle.std.proofs.Common.{◌≡◌, ℕ, zero, suc, ◌+◌, ◌-◌, ◌*◌, ◌/◌, ◌%◌, ◌^◌, ◌<◌, ◌≤◌, Bool, true, false, List, [], ◌∷◌, ◌++◌, length, length-drop, length-take, get_or, take, drop, refl, sym, ap, ◌∙◌, arith, subst, inl, inr, replicate, nat_eq, ◌≢◌, IsTrue}
use Rattle.std.specs.Int.{div_ceil}
use Rattle.std.proofs.lemmas.Bool.Decides.{nat_tests}
use Rattle.std.specs.List.{AllByRecursion}
use Rattle.std.proofs.lemmas.Nat.{pow_pos, mod-mul-add}
use Rattle.std.proofs.Math.Nat.{min-eq_left, pow-le-pow_right}
use Rattle.std.proofs.lemmas.List.{take-append-drop, drop-append-le, append-nil}
use Rattle.std.proofs.lemmas.Bool.{cases_lt}
use Rattle.base_model.proofs.PackedBits.{length-bits_of_bytes, packed-bits_of_bytes}
use Rattle.base_model.proofs.Bits.{length-bits_of, number_of-bits_of, number-small}
use Rattle.trie_model.specs.Bits.{bits_of, number_of, bits_of_bytes, packed}
use Rattle.bit_keys.specs.Keys.{IsFilledUp}
use Rattle.bit_keys.proofs.KeyFacts.{drop_past, packed-small, same_default}
use Rattle.bit_keys.proofs.Padding.{pad, pad-fills, unpacked}
use Rattle.bit_keys.proofs.Tokens.{number-append}

-- zeros alone
abbrev AllFalse : List Bool → Type 0
AllFalse = AllByRecursion (λ b. b ≡ false)

-- bits stand for zero where they are zeros
number_zero : (bs : List Bool) → number_of bs ≡ 0 → AllFalse bs
number_zero [] e = tt
number_zero (true ∷ bs) e = absurd (omega (arith, pow_pos (length bs)))
number_zero (false ∷ bs) e = (refl, number_zero bs (omega arith))

-- and the other way round
zero_number : (bs : List Bool) → AllFalse bs → number_of bs ≡ 0
zero_number [] h = refl
zero_number (true ∷ bs) h = absurd (let e = h.0 in cc)
zero_number (false ∷ bs) h = omega (arith, zero_number bs h.1)

-- zeros are known by their count
zeros_are : (bs : List Bool) → AllFalse bs → bs ≡ replicate (length bs) false
zeros_are [] h = refl
zeros_are (b ∷ bs) h = ap (λ b. b ∷ bs) h.0 ∙ ap (λ r. false ∷ r) (zeros_are bs h.1)

-- the number of the lowest bits of a byte
low_bits : (r b : ℕ) → r ≤ 8 → b < 256 → number_of (drop r (bits_of 8 b)) ≡ b % 2 ^ (8 - r)
low_bits r b h k =
    let t : List Bool = drop r (bits_of 8 b) in
    let l : length t ≡ 8 - r = length-drop r (bits_of 8 b) ∙ ap (λ n. n - r) (length-bits_of 8 b) in
    let e : b ≡ number_of (take r (bits_of 8 b)) * 2 ^ length t + number_of t =
    sym (number_of-bits_of 8 b k) ∙ ap number_of (sym (take-append-drop r (bits_of 8 b))) ∙ number-append (take r (bits_of 8 b)) t in
    sym (mod-mul-add (number_of (take r (bits_of 8 b))) (2 ^ length t) (number_of t) (number-small t)) ∙ ap (λ n. n % 2 ^ length t) (sym e) ∙ ap (λ n. b % 2 ^ n) l

-- the bits of bytes from inside the last one on
last_bits : (bs : List ℕ) (n : ℕ) → n / 8 + 1 ≡ length bs → drop n (bits_of_bytes bs) ≡ drop (n % 8) (bits_of 8 (get_or bs (n / 8) 0))
last_bits [] n h = absurd (omega arith)
last_bits (b ∷ bs) n h = elim (cases_lt n 8) [
  | inl k ↦
      let q : n / 8 ≡ 0 = omega arith in let r : n % 8 ≡ n = omega arith in
      drop-append-le n (bits_of 8 b) (bits_of_bytes bs) (omega (arith, length-bits_of 8 b)) ∙ ap (λ x. drop n (bits_of 8 b) ++ bits_of_bytes x) (none bs (omega arith)) ∙ append-nil (drop n (bits_of 8 b))
      ∙ ap (λ r. drop r (bits_of 8 b)) (sym r) ∙ ap (λ q. drop (n % 8) (bits_of 8 (get_or (b ∷ bs) q 0))) (sym q)
  | inr k ↦
      let e : n ≡ suc (suc (suc (suc (suc (suc (suc (suc (n - 8)))))))) = omega arith in
      let q : n / 8 ≡ suc ((n - 8) / 8) = omega arith in let r : n % 8 ≡ (n - 8) % 8 = omega arith in
      ap (λ n. drop n (bits_of_bytes (b ∷ bs))) e
      ∙ last_bits bs (n - 8) (omega arith)
      ∙ ap (λ r. drop r (bits_of 8 (get_or bs ((n - 8) / 8) 0))) (sym r) ∙ ap (λ q. drop (n % 8) (bits_of 8 (get_or (b ∷ bs) q 0))) (sym q)
]
  where
    none : (bs : List ℕ) → length bs ≡ 0 → bs ≡ []
    none [] e = refl
    none (x ∷ bs) e = absurd (omega arith)

-- whether zeros stand behind the bits, told from the last byte
pub padding_zero : (bs : List ℕ) (n x : ℕ) → ((i : ℕ) → get_or bs i 0 < 256) → length bs ≡ (n + 7) / 8 → 0 < n % 8 → x ≡ get_or bs (n / 8) x → x % 2 ^ (8 - n % 8) ≡ 0 → IsFilledUp n bs
padding_zero bs n x f l p e h =
    let b : ℕ = get_or bs (n / 8) 0 in
    let m : x ≡ b = e ∙ same_default bs (n / 8) x 0 (omega arith) in
    (l, subst AllFalse (sym (last_bits bs n (omega arith))) (number_zero (drop (n % 8) (bits_of 8 b)) (low_bits (n % 8) b (omega arith) (f (n / 8)) ∙ ap (λ b. b % 2 ^ (8 - n % 8)) (sym m) ∙ h)))

-- and the other way round
pub padding_dirty : (bs : List ℕ) (n x : ℕ) → ((i : ℕ) → get_or bs i 0 < 256) → length bs ≡ (n + 7) / 8 → 0 < n % 8 → x ≡ get_or bs (n / 8) x → IsFilledUp n bs → x % 2 ^ (8 - n % 8) ≡ 0
padding_dirty bs n x f l p e h =
    let b : ℕ = get_or bs (n / 8) 0 in
    let m : x ≡ b = e ∙ same_default bs (n / 8) x 0 (omega arith) in
    ap (λ b. b % 2 ^ (8 - n % 8)) m ∙ sym (low_bits (n % 8) b (omega arith) (f (n / 8))) ∙ zero_number (drop (n % 8) (bits_of 8 b)) (subst AllFalse (last_bits bs n (omega arith)) h.1)

-- whole bytes need no filling
pub no_padding : (bs : List ℕ) (n : ℕ) → length bs ≡ (n + 7) / 8 → n % 8 ≡ 0 → IsFilledUp n bs
no_padding bs n l p = (l, subst AllFalse (sym (drop_past n (bits_of_bytes bs) (omega (arith, length-bits_of_bytes bs)))) tt)

-- bytes that are filled up with zeros are the packing of their bits
pub filled_packed : (bs : List ℕ) (n : ℕ) → ((i : ℕ) → get_or bs i 0 < 256) → IsFilledUp n bs → (n ≤ 8 * length bs) × (bs ≡ packed (take n (bits_of_bytes bs)))
filled_packed bs n f h =
    let b : n ≤ 8 * length bs = omega (arith, h.0) in
    let L : List Bool = bits_of_bytes bs in
    let k : List Bool = take n L in
    let m : length k ≡ n = length-take n L ∙ min-eq_left (omega (arith, b, length-bits_of_bytes bs)) in
    let z : length (drop n L) ≡ pad k = omega (arith, length-drop n L, length-bits_of_bytes bs, h.0, m, (pad-fills k).0, (pad-fills k).1) in
    let e : bits_of_bytes (packed k) ≡ L = unpacked k ∙ ap (λ n. k ++ replicate n false) (sym z) ∙ ap (λ x. k ++ x) (sym (zeros_are (drop n L) h.1)) ∙ take-append-drop n L in
    (b, sym (packed-bits_of_bytes bs f) ∙ ap packed (sym e) ∙ packed-bits_of_bytes (packed k) (packed-small k))

-- the tests of the padding
pub whole_filled : (bs : List ℕ) (n d : ℕ) → length bs ≡ d → d ≡ div_ceil n 8 → n % 8 ≡ 0 → (IsTrue (nat_eq (n % 8) 0) → IsFilledUp n bs) × (IsFilledUp n bs → IsTrue (nat_eq (n % 8) 0))
whole_filled bs n d l e p = (λ t. no_padding bs n (omega (arith, l, e)) p, λ h. told (n % 8) p)
  where
    told : (r : ℕ) → r ≡ 0 → IsTrue (nat_eq r 0)
    told r e = subst (λ r. IsTrue (nat_eq r 0)) (sym e) refl

-- the power of two that the code shifts out
part_unit : (r : ℕ) → 0 < r → r < 8 → 1 * 2 ^ (8 - r) % 256 ≡ 2 ^ (8 - r)
part_unit r h k = let p = pow-le-pow_right {n = 2} (omega arith) {i = 8 - r} {j = 7} (omega arith) in omega arith

-- and where the last byte is not full
pub part_filled : (bs : List ℕ) (n d : ℕ) → ((i : ℕ) → get_or bs i 0 < 256) → length bs ≡ d → d ≡ div_ceil n 8 → n % 8 ≢ 0 →
    (IsTrue (nat_eq (get_or bs (n / 8) 0 % (1 * 2 ^ (8 - n % 8) % 256)) 0) → IsFilledUp n bs) × (IsFilledUp n bs → IsTrue (nat_eq (get_or bs (n / 8) 0 % (1 * 2 ^ (8 - n % 8) % 256)) 0))
part_filled bs n d f l e p =
    let u : 1 * 2 ^ (8 - n % 8) % 256 ≡ 2 ^ (8 - n % 8) = part_unit (n % 8) (omega (arith, p)) (omega arith) in
    let m : length bs ≡ (n + 7) / 8 = omega (arith, l, e) in
    let b : ℕ = get_or bs (n / 8) 0 in (
      λ t. padding_zero bs n b f m (omega (arith, p)) (same_default bs (n / 8) 0 b (omega (arith, p))) (ap (λ u. b % u) (sym u) ∙ zero_told (b % (1 * 2 ^ (8 - n % 8) % 256)) t),
      λ h. told (b % (1 * 2 ^ (8 - n % 8) % 256)) (ap (λ u. b % u) u ∙ padding_dirty bs n b f m (omega (arith, p)) (same_default bs (n / 8) 0 b (omega (arith, p))) h),
    )
  where
    told : (r : ℕ) → r ≡ 0 → IsTrue (nat_eq r 0)
    told r e = subst (λ r. IsTrue (nat_eq r 0)) (sym e) refl

    zero_told : (r : ℕ) → IsTrue (nat_eq r 0) → r ≡ 0
    zero_told zero t = refl
    zero_told (suc r) t = grind (arith, nat_tests, t)

-- past the end a list is read as zeros
pub small_within : (bs : List ℕ) → ((i : ℕ) → i < length bs → get_or bs i 0 < 256) → (i : ℕ) → get_or bs i 0 < 256
small_within [] h i = omega arith
small_within (b ∷ bs) h zero = h 0 (omega arith)
small_within (b ∷ bs) h (suc i) = small_within bs (λ i k. h (suc i) (omega arith)) i
