-- Prefixes of paths, and numbers on them.
use Rattle.std.proofs.Common.{◌≡◌, ℕ, ◌<◌, ◌≤◌, Bool, true, false, ◌||◌, inl, inr, nat_eq, List, [], ◌∷◌, ◌++◌, length, refl, sym, ap, ◌∙◌, subst, arith, append_assoc, length-append}
use Rattle.std.proofs.lemmas.Bool.{and_parts, and_from, eqb-true, eq-eqb, ltb-true, lt-ltb, or_parts, or_cases, false_from_ne_true, both_ways}
use Rattle.view_model.specs.Forest.{is_prefix, is_proper_prefix, is_among}

-- ---- prefixes

-- what a prefix is followed by
pub after_prefix : (xs ys : List ℕ) → is_prefix xs ys ≡ true → (rest : List ℕ) × (ys ≡ xs ++ rest)
after_prefix [] ys h = (ys, refl)
after_prefix (x ∷ xs) [] h = absurd (cc)
after_prefix (x ∷ xs) (y ∷ ys) h =
    let both = and_parts (nat_eq x y) (is_prefix xs ys) h in
    let r = after_prefix xs ys both.1 in
    (r.0, ap (λ l. y ∷ l) r.1 ∙ ap (λ z. z ∷ (xs ++ r.0)) (sym (eqb-true x y both.0)))

pub is_prefix-append : (xs rest : List ℕ) → is_prefix xs (xs ++ rest) ≡ true
is_prefix-append [] rest = refl
is_prefix-append (x ∷ xs) rest = and_from (nat_eq x x) (is_prefix xs (xs ++ rest)) (eq-eqb x x refl) (is_prefix-append xs rest)

pub is_prefix_itself : (xs : List ℕ) → is_prefix xs xs ≡ true
is_prefix_itself [] = refl
is_prefix_itself (x ∷ xs) = and_from (nat_eq x x) (is_prefix xs xs) (eq-eqb x x refl) (is_prefix_itself xs)

pub length-prefix : (xs ys : List ℕ) → is_prefix xs ys ≡ true → length xs ≤ length ys
length-prefix xs ys h = let r = after_prefix xs ys h in omega (arith, ap length r.1, length-append xs r.0)

-- a prefix of a prefix
pub shorter_prefix : (xs more ys : List ℕ) → is_prefix (xs ++ more) ys ≡ true → is_prefix xs ys ≡ true
shorter_prefix xs more ys h =
    let r = after_prefix (xs ++ more) ys h in
    subst (λ (l : List ℕ). is_prefix xs l ≡ true) (sym (r.1 ∙ append_assoc xs more r.0)) (is_prefix-append xs (more ++ r.0))

pub prefix_of_prefix : (xs ys zs : List ℕ) → is_prefix xs ys ≡ true → is_prefix ys zs ≡ true → is_prefix xs zs ≡ true
prefix_of_prefix xs ys zs h k =
    let r = after_prefix xs ys h in
    shorter_prefix xs r.0 zs (subst (λ (l : List ℕ). is_prefix l zs ≡ true) r.1 k)

-- ---- proper prefixes

pub proper_parts : (xs ys : List ℕ) → is_proper_prefix xs ys ≡ true → (is_prefix xs ys ≡ true) × (length xs < length ys)
proper_parts xs ys h = let both = and_parts (is_prefix xs ys) _ h in (both.0, ltb-true (length xs) (length ys) both.1)

pub proper_from : (xs ys : List ℕ) → is_prefix xs ys ≡ true → length xs < length ys → is_proper_prefix xs ys ≡ true
proper_from xs ys h l = and_from (is_prefix xs ys) _ h (lt-ltb (length xs) (length ys) l)

pub proper_not_itself : (xs ys : List ℕ) → is_proper_prefix xs ys ≡ true → ys ≡ xs → ⊥
proper_not_itself xs ys h e = let l = (proper_parts xs ys h).1 in absurd (omega (arith, ap length e))

-- what begins with a path and a number more, begins properly with the path
pub proper_shorter : (xs more ys : List ℕ) → is_prefix (xs ++ more) ys ≡ true → 0 < length more → is_proper_prefix xs ys ≡ true
proper_shorter xs more ys h l =
    proper_from xs ys (shorter_prefix xs more ys h) (omega (arith, length-prefix (xs ++ more) ys h, length-append xs more))

pub proper_of_prefix : (xs ys zs : List ℕ) → is_proper_prefix xs ys ≡ true → is_prefix ys zs ≡ true → is_proper_prefix xs zs ≡ true
proper_of_prefix xs ys zs h k =
    let p = proper_parts xs ys h in
    proper_from xs zs (prefix_of_prefix xs ys zs p.0 k) (omega (arith, length-prefix ys zs k))

-- ---- numbers on a path

pub is_among-append : (n : ℕ) (xs ys : List ℕ) → is_among n (xs ++ ys) ≡ (is_among n xs || is_among n ys)
is_among-append n [] ys = refl
is_among-append n (x ∷ xs) ys = go (nat_eq x n) (is_among-append n xs ys)
  where
    go : (b : Bool) → is_among n (xs ++ ys) ≡ (is_among n xs || is_among n ys) → (b || is_among n (xs ++ ys)) ≡ ((b || is_among n xs) || is_among n ys)
    go true ih = refl
    go false ih = ih

-- a number is not on a path that goes on by another one where it was not on it before
pub not_among_more : (n m : ℕ) (xs : List ℕ) → is_among n xs ≡ false → (n ≡ m → ⊥) → is_among n (xs ++ m ∷ []) ≡ false
not_among_more n m xs h apart = false_from_ne_true (is_among n (xs ++ m ∷ [])) (λ t. go t)
  where
    last : is_among n (m ∷ []) ≡ true → ⊥
    last t = elim (or_cases (nat_eq m n) false t) [ inl e ↦ apart (sym (eqb-true m n e)) | inr e ↦ absurd (cc) ]

    go : is_among n (xs ++ m ∷ []) ≡ true → ⊥
    go t = elim (or_cases (is_among n xs) (is_among n (m ∷ [])) (sym (is_among-append n xs (m ∷ [])) ∙ t)) [ inl e ↦ both_ways _ h e | inr e ↦ last e ]

pub not_among_less : (n : ℕ) (xs more : List ℕ) → is_among n (xs ++ more) ≡ false → is_among n xs ≡ false
not_among_less n xs more h = (or_parts (is_among n xs) (is_among n more) (sym (is_among-append n xs more) ∙ h)).0

pub among_more : (n : ℕ) (xs more : List ℕ) → is_among n xs ≡ true → is_among n (xs ++ more) ≡ true
among_more n xs more h = is_among-append n xs more ∙ ap (λ b. b || is_among n more) h

pub among_last : (n : ℕ) (xs : List ℕ) → is_among n (xs ++ n ∷ []) ≡ true
among_last n xs = is_among-append n xs (n ∷ []) ∙ or_last (is_among n xs) (nat_eq n n) (eq-eqb n n refl)
  where
    or_last : (a b : Bool) → b ≡ true → (a || (b || false)) ≡ true
    or_last true b h = refl
    or_last false b h = ap (λ c. c || false) h
