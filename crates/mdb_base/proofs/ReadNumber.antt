-- The cases of reading a number.
use Rattle.std.proofs.Common.{◌≡◌, ℕ, zero, suc, ◌+◌, ◌-◌, ◌*◌, ◌%◌, ◌^◌, ◌<◌, ◌≤◌, Bool, true, false, ◌&&◌, min, List, [], ◌∷◌, length, get_or, take, drop, drop-cons, refl, sym, ap, subst, ◌∙◌, arith, ltb, leb, Ok, Err, inl, inr}
use Rattle.std.proofs.lemmas.Bool.Decides.{nat_tests}
use Rattle.std.proofs.lemmas.Bool.{cases_lt}
use Rattle.base_model.specs.ReadUvarint.{Long, Short, NotShortest, high_run, groups_value, uvarint_read}
use Rattle.base_model.proofs.ReadNumbers.{in_run, front_bound}

abbrev pub IsLongTest : ℕ → List ℕ → Bool
IsLongTest run bs = leb 9 run && ltb 1 (get_or bs 9 0)

abbrev pub IsPaddedTest : ℕ → List ℕ → Bool
IsPaddedTest run bs = ltb 0 run && leb (get_or bs run 0) 0

-- ten bytes decide whether a number is long
same_start : (h g : ℕ) → (leb 9 (min 10 h) && ltb 1 g) ≡ (leb 9 h && ltb 1 g)
same_start h g = elim (cases_lt h 10) [
  | inl l ↦ let e : min 10 h ≡ h = omega arith in ap (λ h. leb 9 h && ltb 1 g) e
  | inr l ↦ let e : min 10 h ≡ 10 = omega arith in ap (λ h. leb 9 h && ltb 1 g) e ∙ grind (arith, nat_tests)
]

-- the answer to more than 64 bits
pub read_long : (bs : List ℕ) (run : ℕ) (t : Bool) → run ≡ min 10 (high_run bs) → t ≡ IsLongTest run bs → t ≡ true → Err Long ≡ uvarint_read bs
unfolding uvarint_read
read_long bs run t e f g =
    let test : IsLongTest (high_run bs) bs ≡ true = sym (same_start (high_run bs) (get_or bs 9 0)) ∙ ap (λ r. IsLongTest r bs) (sym e) ∙ sym f ∙ g in
    rw test refl

-- a number that is not long has its whole run among the first ten bytes
pub record NotLong (run : ℕ) (bs : List ℕ) : Type 0 where
  pub whole : run ≡ high_run bs
  pub test : IsLongTest (high_run bs) bs ≡ false

-- what is known where that answer did not come
pub not_long : (bs : List ℕ) (run : ℕ) (t : Bool) → run ≡ min 10 (high_run bs) → t ≡ IsLongTest run bs → t ≡ false → NotLong run bs
not_long bs run t e f g =
    let test : IsLongTest (high_run bs) bs ≡ false = sym (same_start (high_run bs) (get_or bs 9 0)) ∙ ap (λ r. IsLongTest r bs) (sym e) ∙ sym f ∙ g in
    let short : high_run bs ≤ 9 = elim (cases_lt 9 (high_run bs)) [ inl l ↦ absurd (big (high_run bs) (get_or bs 9 0) l (in_run bs 9 0 l) test) | inr l ↦ l ] in
    record { whole = omega (arith, e, short); test = test }
  where
    big : (h g : ℕ) → 9 < h → 128 ≤ g → (leb 9 h && ltb 1 g) ≡ false → ⊥
    big h g l m t = grind (arith, nat_tests)

-- the answer at the end of the bytes
pub read_short : (bs : List ℕ) (run : ℕ) → NotLong run bs → length bs ≤ run → Err Short ≡ uvarint_read bs
unfolding uvarint_read
read_short bs run n l =
    let short : leb (length bs) (high_run bs) ≡ true = at_end (length bs) (high_run bs) (omega (arith, n.whole, l)) in
    rw (n.test, short) refl
  where
    at_end : (m h : ℕ) → m ≤ h → leb m h ≡ true
    at_end m h l = grind (arith, nat_tests)

-- the test for the end, where it does not hold
fits : (m h : ℕ) → h < m → leb m h ≡ false
fits m h l = grind (arith, nat_tests)

-- the answer to a last byte of 0
pub read_padded : (bs : List ℕ) (run : ℕ) (t : Bool) → NotLong run bs → run < length bs → t ≡ IsPaddedTest run bs → t ≡ true → Err NotShortest ≡ uvarint_read bs
unfolding uvarint_read
read_padded bs run t n l f g =
    let short : leb (length bs) (high_run bs) ≡ false = fits (length bs) (high_run bs) (omega (arith, n.whole, l)) in
    let test : IsPaddedTest (high_run bs) bs ≡ true = ap (λ r. IsPaddedTest r bs) (sym n.whole) ∙ sym f ∙ g in
    rw (n.test, short, test) refl

-- the answer where nothing is wrong
pub read_number : (bs : List ℕ) (run v : ℕ) (t : Bool) → NotLong run bs → run < length bs → t ≡ IsPaddedTest run bs → t ≡ false → v ≡ groups_value (take (run + 1) bs) → Ok (v, run + 1) ≡ uvarint_read bs
unfolding uvarint_read
read_number bs run v t n l f g e =
    let short : leb (length bs) (high_run bs) ≡ false = fits (length bs) (high_run bs) (omega (arith, n.whole, l)) in
    let test : IsPaddedTest (high_run bs) bs ≡ false = ap (λ r. IsPaddedTest r bs) (sym n.whole) ∙ sym f ∙ g in
    let next : run + 1 ≡ suc (high_run bs) = omega (arith, n.whole) in
    rw (n.test, short, test) (ap (λ v. Ok (v, run + 1)) e ∙ ap (λ k. Ok (groups_value (take k bs), k)) next)

-- a number that is read has at most 64 bits
pub number_fits : (bs : List ℕ) (run : ℕ) → NotLong run bs → run < length bs → groups_value (take (run + 1) bs) < 2 ^ 64
number_fits bs run n l =
    let next : suc (high_run bs) ≡ run + 1 = omega (arith, n.whole) in
    subst (λ k. groups_value (take k bs) < 2 ^ 64) next (front_bound bs (omega (arith, n.whole, l)) (λ h. tenth (high_run bs) (get_or bs 9 0) h n.test))
  where
    tenth : (h g : ℕ) → 9 ≤ h → (leb 9 h && ltb 1 g) ≡ false → g ≤ 1
    tenth h g l t = grind (arith, nat_tests)

-- the number of the higher groups is no larger than that of all
groups_drop : (bs : List ℕ) (i : ℕ) → groups_value (drop i bs) ≤ groups_value bs
groups_drop [] zero = omega arith
groups_drop [] (suc i) = omega arith
groups_drop (b ∷ bs) zero = omega arith
groups_drop (b ∷ bs) (suc i) = omega (arith, groups_drop bs i)

-- one more group in front of those that were added up
pub group_fits : (bs : List ℕ) (i v : ℕ) → 0 < i → i ≤ length bs → v ≡ groups_value (drop i bs) → get_or bs (i - 1) 0 % 128 + 128 * v ≤ groups_value bs
group_fits bs zero v p l e = absurd (omega arith)
group_fits bs (suc i) v p l e =
    let step : groups_value (drop i bs) ≡ get_or bs i 0 % 128 + 128 * groups_value (drop (suc i) bs) = ap groups_value (drop-cons bs i 0 l) in
    let place : suc i - 1 ≡ i = omega arith in
    let byte : get_or bs (suc i - 1) 0 ≡ get_or bs i 0 = ap (λ j. get_or bs j 0) place in
    omega (arith, step, e, byte, groups_drop bs i)
