-- What is taken of a list is the longest front that fits, or one entry.
use Rattle.std.proofs.Common.{◌≡◌, ℕ, zero, suc, ◌+◌, ◌-◌, ◌<◌, ◌≤◌, Bool, true, false, cond, List, [], ◌∷◌, ◌++◌, length, refl, sym, ap, ◌∙◌, arith, subst, leb, ltb, ◌⊎◌, inl, inr, length-append}
use Rattle.std.proofs.lemmas.Bool.Decides.{nat_tests}
use Rattle.std.proofs.lemmas.List.{append-nil, nil_from_length}
use Rattle.proof_model.specs.TakenEntries.{taken_behind, taken, is_cut, total, Fits, IsLongest}
use Rattle.proof_model.specs.Proofs.{pair_size}
use Rattle.proof_model.specs.Laws.{TakenIsLongest}

yes : (a b : ℕ) → leb a b ≡ true → a ≤ b
yes a b t = grind (arith, nat_tests)

no : (a b : ℕ) → leb a b ≡ false → b < a
no a b t = grind (arith, nat_tests)

below : (a b : ℕ) → ltb a b ≡ true → a < b
below a b t = grind (arith, nat_tests)

not_below : (a b : ℕ) → ltb a b ≡ false → b ≤ a
not_below a b t = grind (arith, nat_tests)

-- the longest front behind some bytes
record Behind {A : Type 0} (size : A → ℕ) (n z used : ℕ) (xs front : List A) : Type 0 where
  rest : List A
  begins : xs ≡ front ++ rest
  count : length front ≤ n
  bytes : (front ≡ []) ⊎ (used + total size front ≤ z)
  longest : (longer left : List A) → xs ≡ longer ++ left → length longer ≤ n → used + total size longer ≤ z → length longer ≤ length front

behind : {A : Type 0} (size : A → ℕ) (n z used : ℕ) (xs : List A) → Behind size n z used xs (taken_behind size n z used xs)
behind {A = A} size n z used [] = record { rest = []; begins = refl; count = omega arith; bytes = inl refl; longest = λ longer left e c b. nothing longer left e }
  where
    nothing : (longer left : List A) → [] ≡ longer ++ left → length longer ≤ 0
    nothing [] left e = omega arith
    nothing (y ∷ ys) left e = absurd cc
behind {A = A} size zero z used (x ∷ xs) = record { rest = x ∷ xs; begins = refl; count = omega arith; bytes = inl refl; longest = λ longer left e c b. c }
behind {A = A} size (suc n) z used (x ∷ xs) = which (behind size n z (used + size x) xs) (leb (used + size x) z) refl
  where
    some : Behind size n z (used + size x) xs (taken_behind size n z (used + size x) xs) → used + size x ≤ z → Behind size (suc n) z used (x ∷ xs) (x ∷ taken_behind size n z (used + size x) xs)
    some b h = record {
      rest = b.rest;
      begins = ap (λ ys. x ∷ ys) b.begins;
      count = omega (arith, b.count);
      bytes = inr (sum_of (taken_behind size n z (used + size x) xs) b.bytes h);
      longest = more b;
    }
      where
        sum_of : (front : List A) → (front ≡ []) ⊎ (used + size x + total size front ≤ z) → used + size x ≤ z → used + (size x + total size front) ≤ z
        sum_of front (inl e) h = let t : total size front ≡ 0 = ap (total size) e in omega arith
        sum_of front (inr l) h = omega (arith, l)

        more : Behind size n z (used + size x) xs (taken_behind size n z (used + size x) xs) → (longer left : List A) → x ∷ xs ≡ longer ++ left → length longer ≤ suc n → used + total size longer ≤ z → length longer ≤ suc (length (taken_behind size n z (used + size x) xs))
        more b [] left e c l = omega arith
        more b (y ∷ ys) left e c l =
            let same : x ≡ y = cc in
            let others : xs ≡ ys ++ left = cc in
            let fit : used + size x + total size ys ≤ z = subst (λ v. used + size v + total size ys ≤ z) (sym same) (omega (arith, l)) in
            let k = b.longest ys left others (omega (arith, c)) fit in omega (arith, k)

    which : Behind size n z (used + size x) xs (taken_behind size n z (used + size x) xs) → (b : Bool) → leb (used + size x) z ≡ b → Behind size (suc n) z used (x ∷ xs) (cond b (x ∷ taken_behind size n z (used + size x) xs) [])
    which r true t = some r (yes (used + size x) z t)
    which r false t = record { rest = x ∷ xs; begins = refl; count = omega arith; bytes = inl refl; longest = λ longer left e c l. less longer left e l }
      where
        less : (longer left : List A) → x ∷ xs ≡ longer ++ left → used + total size longer ≤ z → length longer ≤ 0
        less [] left e l = omega arith
        less (y ∷ ys) left e l =
            let same : x ≡ y = cc in
            let past : z < used + size y = subst (λ v. z < used + size v) same (no (used + size x) z t) in
            absurd (omega (arith, l, past))

-- what is taken of any list
pub taken-IsLongest : {A : Type 0} (size : A → ℕ) (n z : ℕ) (xs : List A) → 1 ≤ n → IsLongest size n z xs (taken size n z xs)
unfolding taken
taken-IsLongest {A = A} size n z [] h = record { rest = []; begins = refl; fits = inl (record { count = omega arith; bytes = omega arith }); longest = λ longer left e f. nothing longer left e; some = λ f. absurd (f refl) }
  where
    nothing : (longer left : List A) → [] ≡ longer ++ left → length longer ≤ 0
    nothing [] left e = omega arith
    nothing (y ∷ ys) left e = absurd cc
taken-IsLongest {A = A} size zero z (x ∷ xs) h = absurd (omega (arith, h))
taken-IsLongest {A = A} size (suc n) z (x ∷ xs) h =
    let same : suc n - 1 ≡ n = omega arith in
    subst (λ m. IsLongest size (suc n) z (x ∷ xs) (x ∷ taken_behind size m z (size x) xs)) (sym same) (whole (taken_behind size n z (size x) xs) (behind size n z (size x) xs))
  where
    fits : (front : List A) → length front ≤ n → (front ≡ []) ⊎ (size x + total size front ≤ z) → Fits size (suc n) z (x ∷ front) ⊎ (suc (length front) ≡ 1)
    fits front c (inl e) = inr (ap (λ ys. suc (length ys)) e)
    fits front c (inr l) = inl (record { count = omega (arith, c); bytes = l })

    longest : (front : List A) → Behind size n z (size x) xs front → (longer left : List A) → x ∷ xs ≡ longer ++ left → Fits size (suc n) z longer → length longer ≤ suc (length front)
    longest front b [] left e f = omega arith
    longest front b (y ∷ ys) left e f =
        let same : x ≡ y = cc in
        let others : xs ≡ ys ++ left = cc in
        let bytes : size x + total size ys ≤ z = subst (λ v. size v + total size ys ≤ z) (sym same) f.bytes in
        let k = b.longest ys left others (omega (arith, f.count)) bytes in omega (arith, k)

    whole : (front : List A) → Behind size n z (size x) xs front → IsLongest size (suc n) z (x ∷ xs) (x ∷ front)
    whole front b = record { rest = b.rest; begins = ap (λ ys. x ∷ ys) b.begins; fits = fits front b.count b.bytes; longest = longest front b; some = λ f. omega arith }

-- ---- whether entries remain
module _ {A : Type 0} (size : A → ℕ) (n z : ℕ) (xs : List A) (pos : 1 ≤ n) where
  front : IsLongest size n z xs (taken size n z xs)
  front = taken-IsLongest size n z xs pos

  -- where entries remain some were taken
  pub cut_some : is_cut size n z xs ≡ true → taken size n z xs ≡ [] → ⊥
  cut_some c e =
      let a = below (length (taken size n z xs)) (length xs) c in
      let b = front.some (λ (q : xs ≡ []). let k = ap length q in omega (arith, a, k)) in
      let k = ap length e in omega (arith, b, k)

  -- where none remains all were taken
  pub uncut_all : is_cut size n z xs ≡ false → taken size n z xs ≡ xs
  uncut_all c =
      let a = not_below (length (taken size n z xs)) (length xs) c in
      let b = ap length front.begins ∙ length-append (taken size n z xs) front.rest in
      let r = nil_from_length front.rest (omega (arith, a, b)) in
      sym (front.begins ∙ ap (λ r. taken size n z xs ++ r) r ∙ append-nil (taken size n z xs))

pub taken_is_longest : TakenIsLongest
taken_is_longest n z xs h = taken-IsLongest pair_size n z xs h
