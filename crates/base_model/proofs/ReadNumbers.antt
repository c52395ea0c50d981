-- Reading a number gives back what its spelling says, and nothing else is read.
use Rattle.std.proofs.Common.{◌≡◌, ℕ, zero, suc, ◌+◌, ◌*◌, ◌/◌, ◌%◌, ◌^◌, ◌<◌, ◌≤◌, true, false, cond, ◌&&◌, List, [], ◌∷◌, ◌++◌, length, get_or, take, drop, refl, sym, ap, subst, ◌∙◌, arith, ltb, leb, Result, Ok, Err, ◌⊎◌, inl, inr, take-append-drop, length-append, length-take, get_or-take}
use Rattle.std.proofs.lemmas.Bool.Decides.{nat_tests}
use Rattle.std.proofs.lemmas.Bool.{cases_lt}
use Rattle.std.proofs.lemmas.List.{take_at}
use Rattle.std.proofs.Math.Nat.{pow-succ'}
use Rattle.base_model.specs.Bytes.{AreBytes}
use Rattle.base_model.specs.Uvarint.{uvarint}
use Rattle.base_model.specs.ReadUvarint.{UvarintFault, Long, Short, NotShortest, high_run, groups_value, uvarint_read, SpelledNumbersAreRead, ReadNumbersAreSpelled}
use Rattle.base_model.proofs.Results.{ok_is, passed}
use Rattle.base_model.proofs.UvarintLemmas.{uvarint-small, uvarint-big}

-- no run begins with a byte without the high bit
pub high_run-low : (b : ℕ) (bs : List ℕ) → b < 128 → high_run (b ∷ bs) ≡ 0
high_run-low b bs h = let e : ltb b 128 ≡ true = grind (arith, nat_tests) in ap (λ t. cond t 0 (suc (high_run bs))) e

-- a byte with the high bit makes the run one longer
pub high_run-high : (b : ℕ) (bs : List ℕ) → 128 ≤ b → high_run (b ∷ bs) ≡ suc (high_run bs)
high_run-high b bs h = let e : ltb b 128 ≡ false = grind (arith, nat_tests) in ap (λ t. cond t 0 (suc (high_run bs))) e

-- the run has no more bytes than there are
pub high_run-fits : (bs : List ℕ) → high_run bs ≤ length bs
high_run-fits [] = omega arith
high_run-fits (b ∷ bs) = elim (cases_lt b 128) [
  | inl h ↦ omega (arith, high_run-low b bs h)
  | inr h ↦ omega (arith, high_run-high b bs h, high_run-fits bs)
]

-- the bytes of the run have the high bit
pub in_run : (bs : List ℕ) (i d : ℕ) → i < high_run bs → 128 ≤ get_or bs i d
in_run [] i d h = absurd (omega arith)
in_run (b ∷ bs) zero d h = elim (cases_lt b 128) [
  | inl l ↦ absurd (omega (arith, h, high_run-low b bs l))
  | inr l ↦ l
]
in_run (b ∷ bs) (suc i) d h = elim (cases_lt b 128) [
  | inl l ↦ absurd (omega (arith, h, high_run-low b bs l))
  | inr l ↦ in_run bs i d (omega (arith, h, high_run-high b bs l))
]

-- what a spelling says where it stands in front
record Spells (n : ℕ) (s rest : List ℕ) : Type 0 where
  run : suc (high_run (s ++ rest)) ≡ length s
  value : groups_value s ≡ n
  last : 0 < n → 0 < get_or (s ++ rest) (high_run (s ++ rest)) 0
  more : 0 < high_run (s ++ rest) → 0 < n
  bound : (m : ℕ) → n < 2 * 128 ^ m → (length s ≤ m) ⊎ ((length s ≡ suc m) × (get_or (s ++ rest) m 0 ≤ 1))

-- one byte spells little
one_byte_bound : (n : ℕ) (rest : List ℕ) (m : ℕ) → n < 2 * 128 ^ m → (1 ≤ m) ⊎ ((1 ≡ suc m) × (get_or (n ∷ rest) m 0 ≤ 1))
one_byte_bound n rest zero h = inr (refl, omega (arith, h))
one_byte_bound n rest (suc m) h = inl (omega arith)

-- what a spelling of one byte says
one_byte : (n : ℕ) (rest : List ℕ) → n < 128 → Spells n (n ∷ []) rest
one_byte n rest h = record {
  run = ap suc (high_run-low n rest h);
  value = omega arith;
  last = λ p. subst (λ i. 0 < get_or (n ∷ rest) i 0) (sym (high_run-low n rest h)) p;
  more = λ p. absurd (omega (arith, p, high_run-low n rest h));
  bound = λ m lt. one_byte_bound n rest m lt;
}

-- each further byte makes the number 128 times as large
more_bound : (n : ℕ) (s rest : List ℕ) → 128 ≤ n → Spells (n / 128) s rest → (m : ℕ) → n < 2 * 128 ^ m → (suc (length s) ≤ m) ⊎ ((suc (length s) ≡ suc m) × (get_or ((128 + n % 128) ∷ (s ++ rest)) m 0 ≤ 1))
more_bound n s rest h ih zero lt = absurd (omega (arith, lt))
more_bound n s rest h ih (suc m) lt =
    let below : n < 2 * (128 * 128 ^ m) = subst (λ p. n < 2 * p) (pow-succ' 128 m) lt in
    elim (ih.bound m (omega (arith, below))) [ inl l ↦ inl (omega arith) | inr p ↦ inr (ap suc p.0, p.1) ]

-- what a spelling with one byte more in front says
more_bytes : (n : ℕ) (s rest : List ℕ) → 128 ≤ n → Spells (n / 128) s rest → Spells n ((128 + n % 128) ∷ s) rest
more_bytes n s rest h ih =
    let high = high_run-high (128 + n % 128) (s ++ rest) (omega arith) in
    record {
      run = omega (arith, high, ih.run);
      value = omega (arith, ih.value);
      last = λ p. subst (λ i. 0 < get_or ((128 + n % 128) ∷ (s ++ rest)) i 0) (sym high) (ih.last (omega arith));
      more = λ p. omega arith;
      bound = λ m lt. more_bound n s rest h ih m lt;
    }

-- what each spelling says
spells : (f n : ℕ) (rest : List ℕ) → n < f → Spells n (uvarint n) rest
spells zero n rest h = absurd (omega arith)
spells (suc f) n rest h = elim (cases_lt n 128) [
  | inl l ↦ subst (λ s. Spells n s rest) (sym (uvarint-small n l)) (one_byte n rest l)
  | inr l ↦ subst (λ s. Spells n s rest) (sym (uvarint-big n l)) (more_bytes n (uvarint (n / 128)) rest l (spells f (n / 128) rest (omega arith)))
]

-- the test for more than 64 bits, where it does not hold
not_long : (h g : ℕ) → (9 ≤ h → g ≤ 1) → (leb 9 h && ltb 1 g) ≡ false
not_long h g e = elim (cases_lt h 9) [ inl l ↦ grind (arith, nat_tests) | inr l ↦ let k = e l in grind (arith, nat_tests) ]

-- the test for the end, where it does not hold
not_short : (n h : ℕ) → h < n → leb n h ≡ false
not_short n h e = grind (arith, nat_tests)

-- the test for a last byte of 0, where it does not hold
shortest : (h g : ℕ) → (0 < h → 0 < g) → (ltb 0 h && leb g 0) ≡ false
shortest h g e = elim (cases_lt 0 h) [ inl l ↦ let k = e l in grind (arith, nat_tests) | inr l ↦ grind (arith, nat_tests) ]

-- the answer where nothing is wrong
pub read_ok : (bytes : List ℕ) → (9 ≤ high_run bytes → get_or bytes 9 0 ≤ 1) → high_run bytes < length bytes → (0 < high_run bytes → 0 < get_or bytes (high_run bytes) 0) → uvarint_read bytes ≡ Ok (groups_value (take (suc (high_run bytes)) bytes), suc (high_run bytes))
unfolding uvarint_read
read_ok bytes a b c = rw (not_long (high_run bytes) (get_or bytes 9 0) a, not_short (length bytes) (high_run bytes) b, shortest (high_run bytes) (get_or bytes (high_run bytes) 0) c) refl

-- what is spelled is read
pub spelled_is_read : SpelledNumbersAreRead
spelled_is_read n rest lt =
    let q = spells (suc n) n rest (omega arith) in
    let a : 9 ≤ high_run (uvarint n ++ rest) → get_or (uvarint n ++ rest) 9 0 ≤ 1 = λ h. elim (q.bound 9 lt) [ inl l ↦ absurd (omega (arith, h, l, q.run)) | inr p ↦ p.1 ] in
    let b : high_run (uvarint n ++ rest) < length (uvarint n ++ rest) = omega (arith, q.run, length-append (uvarint n) rest) in
    let front : groups_value (take (suc (high_run (uvarint n ++ rest))) (uvarint n ++ rest)) ≡ n = ap groups_value (take_at (uvarint n) rest (suc (high_run (uvarint n ++ rest))) (sym q.run)) ∙ q.value in
    read_ok (uvarint n ++ rest) a b (λ h. q.last (q.more h)) ∙ rw (front, q.run) refl

-- ---- what is read is spelled so

abbrev IsFront : List ℕ → ℕ → Type 0
IsFront bs i = uvarint (groups_value (take (suc i) bs)) ≡ take (suc i) bs

-- a byte without the high bit spells itself
front_one : (b : ℕ) (bs : List ℕ) → b < 128 → IsFront (b ∷ bs) 0
front_one b bs h = let e : b % 128 + 128 * 0 ≡ b = omega arith in ap uvarint e ∙ uvarint-small b h

-- the bytes up to one without the high bit that is not 0 spell their number
front_spelled : (bs : List ℕ) → AreBytes bs → high_run bs < length bs → 0 < get_or bs (high_run bs) 0 → IsFront bs (high_run bs) × (0 < groups_value (take (suc (high_run bs)) bs))
front_spelled [] fits lt last = absurd (omega arith)
front_spelled (b ∷ bs) fits lt last = elim (cases_lt b 128) [
  | inl l ↦
      let low = high_run-low b bs l in
      let first : 0 < b = subst (λ i. 0 < get_or (b ∷ bs) i 0) low last in
      subst (λ i. IsFront (b ∷ bs) i × (0 < groups_value (take (suc i) (b ∷ bs)))) (sym low) (front_one b bs l, omega arith)
  | inr l ↦
      let high = high_run-high b bs l in
      let later : 0 < get_or bs (high_run bs) 0 = subst (λ i. 0 < get_or (b ∷ bs) i 0) high last in
      let ih = front_spelled bs fits.1 (omega (arith, lt, high)) later in
      let v = groups_value (take (suc (high_run bs)) bs) in
      let small : b < 256 = fits.0 in
      let pos : 0 < groups_value (take (suc (high_run bs)) bs) = ih.1 in
      subst (λ i. IsFront (b ∷ bs) i × (0 < groups_value (take (suc i) (b ∷ bs)))) (sym high)
      (uvarint-big (b % 128 + 128 * groups_value (take (suc (high_run bs)) bs)) (omega (arith, pos)) ∙ front_more b (groups_value (take (suc (high_run bs)) bs)) (take (suc (high_run bs)) bs) l small ih.0, omega (arith, pos))
]
  where
    front_more : (b v : ℕ) (t : List ℕ) → 128 ≤ b → b < 256 → uvarint v ≡ t → ((128 + (b % 128 + 128 * v) % 128) ∷ uvarint ((b % 128 + 128 * v) / 128)) ≡ b ∷ t
    front_more b v t l s e =
        let x : 128 + (b % 128 + 128 * v) % 128 ≡ b = omega arith in
        let y : (b % 128 + 128 * v) / 128 ≡ v = omega arith in
        rw (x, y, e) refl

-- the front is spelled where it is one byte
single : (bs : List ℕ) → high_run bs < length bs → high_run bs ≡ 0 → IsFront bs (high_run bs)
single [] lt z = absurd (omega arith)
single (b ∷ bs) lt z = elim (cases_lt b 128) [
  | inl l ↦ subst (λ i. IsFront (b ∷ bs) i) (sym (high_run-low b bs l)) (front_one b bs l)
  | inr l ↦ absurd (omega (arith, z, high_run-high b bs l))
]

-- a power of 128 is not zero
power_pos : (m : ℕ) → 0 < 128 ^ m
power_pos zero = omega arith
power_pos (suc m) = let e = pow-succ' 128 m in omega (arith, e, power_pos m)

-- how large the number of so many groups is at most
value_bound : (bs : List ℕ) (m : ℕ) → (length bs ≤ m) ⊎ ((length bs ≡ suc m) × (get_or bs m 0 ≤ 1)) → groups_value bs < 2 * 128 ^ m
value_bound [] m h = omega (arith, power_pos m)
value_bound (b ∷ []) zero h = elim h [ inl l ↦ absurd (omega (arith, l)) | inr p ↦ let q = p.1 in omega (arith, q) ]
value_bound (b ∷ c ∷ bs) zero h = elim h [ inl l ↦ absurd (omega (arith, l)) | inr p ↦ let q = p.0 in absurd (omega (arith, q)) ]
value_bound (b ∷ bs) (suc m) h =
    let ih = value_bound bs m (elim h [ inl l ↦ inl (omega (arith, l)) | inr p ↦ let q = p.0 in inr (omega (arith, q), p.1) ]) in
    omega (arith, ih, pow-succ' 128 m)

-- ten bytes at most, and the tenth at most 1
pub front_bound : (bytes : List ℕ) → high_run bytes < length bytes → (9 ≤ high_run bytes → get_or bytes 9 0 ≤ 1) → groups_value (take (suc (high_run bytes)) bytes) < 2 ^ 64
front_bound bytes lt short =
    let len : length (take (suc (high_run bytes)) bytes) ≡ suc (high_run bytes) = omega (arith, lt, length-take (suc (high_run bytes)) bytes) in
    value_bound (take (suc (high_run bytes)) bytes) 9 (elim (cases_lt (high_run bytes) 9) [
      | inl l ↦ inl (omega (arith, l, len))
      | inr l ↦ let nine : high_run bytes ≤ 9 = elim (cases_lt 9 (high_run bytes)) [ inl g ↦ let k = in_run bytes 9 0 g in absurd (omega (arith, k, short l)) | inr g ↦ g ] in
          inr (omega (arith, l, nine, len), subst (λ x. x ≤ 1) (sym (get_or-take (suc (high_run bytes)) bytes 9 0 (omega (arith, l)))) (short l))
    ])

-- what is read is spelled so
pub read_is_spelled : ReadNumbersAreSpelled
unfolding uvarint_read
read_is_spelled bytes n k fits e =
    let a = passed (leb 9 (high_run bytes) && ltb 1 (get_or bytes 9 0)) Long (cond (leb (length bytes) (high_run bytes)) (Err Short) (cond (ltb 0 (high_run bytes) && leb (get_or bytes (high_run bytes) 0) 0) (Err NotShortest) (Ok (groups_value (take (suc (high_run bytes)) bytes), suc (high_run bytes))))) (n, k) e in
    let b = passed (leb (length bytes) (high_run bytes)) Short (cond (ltb 0 (high_run bytes) && leb (get_or bytes (high_run bytes) 0) 0) (Err NotShortest) (Ok (groups_value (take (suc (high_run bytes)) bytes), suc (high_run bytes)))) (n, k) a.1 in
    let c = passed (ltb 0 (high_run bytes) && leb (get_or bytes (high_run bytes) 0) 0) NotShortest (Ok (groups_value (take (suc (high_run bytes)) bytes), suc (high_run bytes))) (n, k) b.1 in
    finish bytes n k fits (short_enough (high_run bytes) (get_or bytes 9 0) a.0) (long_enough (length bytes) (high_run bytes) b.0) (last_counts (high_run bytes) (get_or bytes (high_run bytes) 0) c.0) c.1
  where
    short_enough : (h g : ℕ) → (leb 9 h && ltb 1 g) ≡ false → 9 ≤ h → g ≤ 1
    short_enough h g e l = grind (arith, nat_tests)

    long_enough : (n h : ℕ) → leb n h ≡ false → h < n
    long_enough n h e = grind (arith, nat_tests)

    last_counts : (h g : ℕ) → (ltb 0 h && leb g 0) ≡ false → 0 < h → 0 < g
    last_counts h g e l = grind (arith, nat_tests)

    finish : (bytes : List ℕ) (n k : ℕ) → AreBytes bytes → (9 ≤ high_run bytes → get_or bytes 9 0 ≤ 1) → high_run bytes < length bytes → (0 < high_run bytes → 0 < get_or bytes (high_run bytes) 0) → ◌≡◌ {A = Result (ℕ × ℕ) UvarintFault} (Ok (groups_value (take (suc (high_run bytes)) bytes), suc (high_run bytes))) (Ok (n, k)) → (n < 2 ^ 64) × (bytes ≡ uvarint n ++ drop k bytes) × (k ≡ length (uvarint n))
    finish bytes n k fits short lt last e =
        let front : IsFront bytes (high_run bytes) = elim (cases_lt 0 (high_run bytes)) [ inl p ↦ (front_spelled bytes fits lt (last p)).0 | inr p ↦ single bytes lt (omega (arith, p)) ] in
        let len : length (take (suc (high_run bytes)) bytes) ≡ suc (high_run bytes) = omega (arith, lt, length-take (suc (high_run bytes)) bytes) in
        subst (λ (x : ℕ × ℕ). (x.0 < 2 ^ 64) × (bytes ≡ uvarint x.0 ++ drop x.1 bytes) × (x.1 ≡ length (uvarint x.0))) (ok_is (groups_value (take (suc (high_run bytes)) bytes), suc (high_run bytes)) (n, k) e)
        (front_bound bytes lt short, sym (take-append-drop (suc (high_run bytes)) bytes) ∙ ap (λ t. t ++ drop (suc (high_run bytes)) bytes) (sym front), sym len ∙ ap length (sym front))
