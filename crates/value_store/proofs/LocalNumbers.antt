-- A number is read of its first bytes alone.
use Rattle.std.proofs.Common.{◌≡◌, ℕ, suc, ◌+◌, ◌<◌, ◌≤◌, true, false, cond, ◌&&◌, List, [], ◌∷◌, ◌++◌, length, get_or, take, refl, sym, ap, ◌∙◌, arith, ltb, leb, Result, Ok, Err, inl, inr, length-append}
use Rattle.std.proofs.Math.ListN.{get_or-append}
use Rattle.std.proofs.lemmas.Bool.{cases_lt}
use Rattle.std.proofs.lemmas.Bool.Decides.{nat_tests}
use Rattle.std.proofs.lemmas.List.{take-append-le}
use Rattle.base_model.specs.ReadUvarint.{UvarintFault, Long, Short, NotShortest, high_run, groups_value, uvarint_read}
use Rattle.base_model.proofs.ReadNumbers.{high_run-low, high_run-high, in_run}
use Rattle.base_model.proofs.Results.{ok_is, passed}

-- a run that ends within the bytes is the same with more behind them
high_run-append : (w more : List ℕ) → high_run w < length w → high_run (w ++ more) ≡ high_run w
high_run-append [] more h = absurd (omega (arith, h))
high_run-append (b ∷ w) more h = elim (cases_lt b 128) [
  | inl l ↦ high_run-low b (w ++ more) l ∙ sym (high_run-low b w l)
  | inr l ↦ high_run-high b (w ++ more) l ∙ ap suc (high_run-append w more (omega (arith, h, high_run-high b w l))) ∙ sym (high_run-high b w l)
]

-- a run is no shorter with more behind the bytes
high_run-grows : (w more : List ℕ) → high_run w ≤ high_run (w ++ more)
high_run-grows [] more = omega arith
high_run-grows (b ∷ w) more = elim (cases_lt b 128) [
  | inl l ↦ omega (arith, high_run-low b w l)
  | inr l ↦ omega (arith, high_run-high b w l, high_run-high b (w ++ more) l, high_run-grows w more)
]

-- ten bytes with the high bit are too long
too_long : (x : List ℕ) → 10 ≤ high_run x → uvarint_read x ≡ Err Long
unfolding uvarint_read
too_long x h =
    let a : leb 9 (high_run x) ≡ true = grind (arith, nat_tests) in
    let g = in_run x 9 0 (omega arith) in
    let b : ltb 1 (get_or x 9 0) ≡ true = above (get_or x 9 0) g in
    rw (a, b) refl
  where
    above : (n : ℕ) → 128 ≤ n → ltb 1 n ≡ true
    above n h = grind (arith, nat_tests)

-- a number that ends within the bytes is read the same with more behind them
ends_within : (w more : List ℕ) → high_run w < length w → uvarint_read (w ++ more) ≡ uvarint_read w
unfolding uvarint_read
ends_within w more h =
    let run = high_run-append w more h in
    let t = tests (high_run w) h in
    let last = get_or-append w more 0 (high_run w) h in
    let value = take-append-le (suc (high_run w)) w more h in
    rw (run, t.0, t.1, last, value) refl
  where
    tests : (n : ℕ) → n < length w → ((leb 9 n && ltb 1 (get_or (w ++ more) 9 0)) ≡ (leb 9 n && ltb 1 (get_or w 9 0))) × (leb (length (w ++ more)) n ≡ leb (length w) n)
    tests n l = (
      elim (cases_lt n 9) [
        | inl small ↦ let a : leb 9 n ≡ false = grind (arith, nat_tests) in rw a refl
        | inr large ↦ ap (λ x. leb 9 n && ltb 1 x) (get_or-append w more 0 9 (omega arith))
      ],
      let a : leb (length w) n ≡ false = grind (arith, nat_tests) in let b : leb (length (w ++ more)) n ≡ false = grind (arith, nat_tests, length-append w more) in b ∙ sym a,
    )

-- ten bytes tell how a number is read
pub first_ten : (w more : List ℕ) → 10 ≤ length w → uvarint_read (w ++ more) ≡ uvarint_read w
first_ten w more h = elim (cases_lt (high_run w) (length w)) [
  | inl l ↦ ends_within w more l
  | inr l ↦ too_long (w ++ more) (omega (arith, high_run-grows w more)) ∙ sym (too_long w (omega arith))
]

-- a number that was read has at most ten bytes
pub read_length : (w : List ℕ) (n k : ℕ) → uvarint_read w ≡ Ok (n, k) → (k ≤ 10) × (k ≤ length w)
unfolding uvarint_read
read_length w n k e =
    let a = passed (leb 9 (high_run w) && ltb 1 (get_or w 9 0)) Long (cond (leb (length w) (high_run w)) (Err Short) (cond (ltb 0 (high_run w) && leb (get_or w (high_run w) 0) 0) (Err NotShortest) (Ok (groups_value (take (suc (high_run w)) w), suc (high_run w))))) (n, k) e in
    let b = passed (leb (length w) (high_run w)) Short (cond (ltb 0 (high_run w) && leb (get_or w (high_run w) 0) 0) (Err NotShortest) (Ok (groups_value (take (suc (high_run w)) w), suc (high_run w)))) (n, k) a.1 in
    let c = passed (ltb 0 (high_run w) && leb (get_or w (high_run w) 0) 0) NotShortest (Ok (groups_value (take (suc (high_run w)) w), suc (high_run w))) (n, k) b.1 in
    let count : suc (high_run w) ≡ k = ap (λ (p : ℕ × ℕ). p.1) (ok_is (groups_value (take (suc (high_run w)) w), suc (high_run w)) (n, k) c.1) in
    let room : high_run w < length w = below (length w) (high_run w) b.0 in (
      elim (cases_lt (high_run w) 10) [
        | inl l ↦ omega (arith, count)
        | inr l ↦ absurd (no_answer (sym (too_long w l) ∙ e))
      ],
      omega (arith, count),
    )
  where
    below : (n h : ℕ) → leb n h ≡ false → h < n
    below n h t = grind (arith, nat_tests)

    no_answer : ◌≡◌ {A = Result (ℕ × ℕ) UvarintFault} (Err Long) (Ok (n, k)) → ⊥
    no_answer e = absurd cc
