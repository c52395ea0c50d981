-- Reading given bytes, one after the other.
use Rattle.std.proofs.Common.{◌≡◌, ◌≢◌, ℕ, suc, ◌+◌, ◌<◌, ◌≤◌, true, false, List, [], ◌∷◌, length, get_or, drop, Ok, Err, refl, sym, ap, ◌∙◌, arith, ltb, eqb, drop-cons}
use Rattle.std.proofs.lemmas.Bool.Decides.{nat_tests}
use Rattle.std.proofs.lemmas.List.{drop_all}
use Rattle.store_model.specs.Fields.{these_at}
use Rattle.store_model.specs.Header.{StoreFault}

module _ (wanted bytes : List ℕ) (at i : ℕ) (inside : i < length wanted) (room : at + length wanted ≤ length bytes) where
  left : drop i wanted ≡ get_or wanted i 0 ∷ drop (i + 1) wanted
  left = let place : i + 1 ≡ suc i = omega arith in drop-cons wanted i 0 inside ∙ ap (λ k. get_or wanted i 0 ∷ drop k wanted) (sym place)

  here : ltb (at + i) (length bytes) ≡ true
  here = let h : at + i < length bytes = omega (arith, inside, room) in grind (arith, nat_tests)

  -- past a byte that is as it should be
  pub these_at_passed : get_or bytes (at + i) 0 ≡ get_or wanted i 0 → (wrong : ℕ → StoreFault) → these_at wrong (drop i wanted) bytes (at + i) ≡ these_at wrong (drop (i + 1) wanted) bytes (at + (i + 1))
  unfolding these_at
  these_at_passed same wrong =
      let test : eqb (get_or bytes (at + i) 0) (get_or wanted i 0) ≡ true = grind (arith, nat_tests) in
      let place : at + (i + 1) ≡ at + i + 1 = omega arith in
      rw (left, here, test, place) refl

  -- at the first that is not
  pub these_at_stopped : get_or bytes (at + i) 0 ≢ get_or wanted i 0 → (wrong : ℕ → StoreFault) → these_at wrong (drop i wanted) bytes (at + i) ≡ Err (wrong (at + i))
  unfolding these_at
  these_at_stopped other wrong =
      let test : eqb (get_or bytes (at + i) 0) (get_or wanted i 0) ≡ false = grind (arith, nat_tests) in
      rw (left, here, test) refl

-- past all of them
pub these_at_done : (wanted bytes : List ℕ) (at i : ℕ) → length wanted ≤ i → i ≤ length wanted → (wrong : ℕ → StoreFault) → these_at wrong (drop i wanted) bytes (at + i) ≡ Ok (at + length wanted)
unfolding these_at
these_at_done wanted bytes at i past most wrong =
    let none : drop i wanted ≡ [] = drop_all i wanted past in
    let end : i ≡ length wanted = omega arith in
    rw none (ap (λ k. Ok (at + k)) end)
