-- Laws of the shortest spelling of a number.
use Rattle.std.proofs.Common.{◌≡◌, ℕ, zero, suc, ◌+◌, ◌/◌, ◌%◌, ◌<◌, ◌≤◌, Bool, true, false, List, [], ◌∷◌, ◌++◌, length, refl, sym, ap, ◌∙◌, arith, ltb}
use Rattle.std.proofs.lemmas.Bool.Decides.{nat_tests}
use Rattle.base_model.specs.Uvarint.{uvarint_within, uvarint, UvarintsArePrefixFree, WorkedUvarints}

-- the two ways of a number's spelling
data Spelled (f n : ℕ) : Type 0 where
  last : n < 128 → uvarint_within (suc f) n ≡ n ∷ [] → Spelled f n
  more : 128 ≤ n → uvarint_within (suc f) n ≡ (128 + n % 128) ∷ uvarint_within f (n / 128) → Spelled f n

spelled : (f n : ℕ) → Spelled f n
spelled f n = go (ltb n 128) refl
  where
    go : (b : Bool) → ltb n 128 ≡ b → Spelled f n
    go true e = last (grind (arith, nat_tests)) (ap (λ t. elim t [ true ↦ n ∷ [] | false ↦ (128 + n % 128) ∷ uvarint_within f (n / 128) ]) e)
    go false e = more (grind (arith, nat_tests)) (ap (λ t. elim t [ true ↦ n ∷ [] | false ↦ (128 + n % 128) ∷ uvarint_within f (n / 128) ]) e)

-- no spelling begins another
uvarint_apart : (f g m n : ℕ) (x y : List ℕ) → m < f → n < g → uvarint_within f m ++ x ≡ uvarint_within g n ++ y → (m ≡ n) × (x ≡ y)
uvarint_apart zero g m n x y p q e = absurd (omega arith)
uvarint_apart (suc f) zero m n x y p q e = absurd (omega arith)
uvarint_apart (suc f) (suc g) m n x y p q e = both (λ a b l. uvarint_apart f g (m / 128) (n / 128) x y a b l) (spelled f m) (spelled g n)
  where
    both : (m / 128 < f → n / 128 < g → uvarint_within f (m / 128) ++ x ≡ uvarint_within g (n / 128) ++ y → (m / 128 ≡ n / 128) × (x ≡ y)) → Spelled f m → Spelled g n → (m ≡ n) × (x ≡ y)
    both ih (last a t) (last b u) = let h : m ∷ x ≡ n ∷ y = ap (λ s. s ++ x) (sym t) ∙ e ∙ ap (λ s. s ++ y) u in (cc, cc)
    both ih (last a t) (more b u) = let h : m ∷ x ≡ (128 + n % 128) ∷ (uvarint_within g (n / 128) ++ y) = ap (λ s. s ++ x) (sym t) ∙ e ∙ ap (λ s. s ++ y) u in
        let k : m ≡ 128 + n % 128 = cc in absurd (omega arith)
    both ih (more a t) (last b u) = let h : (128 + m % 128) ∷ (uvarint_within f (m / 128) ++ x) ≡ n ∷ y = ap (λ s. s ++ x) (sym t) ∙ e ∙ ap (λ s. s ++ y) u in
        let k : 128 + m % 128 ≡ n = cc in absurd (omega arith)
    both ih (more a t) (more b u) = let h : (128 + m % 128) ∷ (uvarint_within f (m / 128) ++ x) ≡ (128 + n % 128) ∷ (uvarint_within g (n / 128) ++ y) = ap (λ s. s ++ x) (sym t) ∙ e ∙ ap (λ s. s ++ y) u in
        let k : 128 + m % 128 ≡ 128 + n % 128 = cc in
        let l : uvarint_within f (m / 128) ++ x ≡ uvarint_within g (n / 128) ++ y = cc in
        let r = ih (omega arith) (omega arith) l in (omega (arith, k, r.0), r.1)

pub uvarint-apart : (m n : ℕ) (x y : List ℕ) → uvarint m ++ x ≡ uvarint n ++ y → (m ≡ n) × (x ≡ y)
unfolding uvarint
uvarint-apart m n x y e = uvarint_apart (suc m) (suc n) m n x y (omega arith) (omega arith) e

-- two fronts of one length
pub fronts : {A : Type 0} (a b x y : List A) → length a ≡ length b → a ++ x ≡ b ++ y → (a ≡ b) × (x ≡ y)
fronts [] [] x y l e = (refl, e)
fronts [] (c ∷ b) x y l e = absurd (omega arith)
fronts (c ∷ a) [] x y l e = absurd (omega arith)
fronts (c ∷ a) (d ∷ b) x y l e =
    let h : c ≡ d = cc in let t : a ++ x ≡ b ++ y = cc in let r = fronts a b x y (omega arith) t in (let q = r.0 in cc, r.1)

uvarint_enough : (f g n : ℕ) → n < f → n < g → uvarint_within f n ≡ uvarint_within g n
uvarint_enough zero g n p q = absurd (omega arith)
uvarint_enough (suc f) zero n p q = absurd (omega arith)
uvarint_enough (suc f) (suc g) n p q = both (λ a b. uvarint_enough f g (n / 128) a b) (spelled f n) (spelled g n)
  where
    both : (n / 128 < f → n / 128 < g → uvarint_within f (n / 128) ≡ uvarint_within g (n / 128)) → Spelled f n → Spelled g n → uvarint_within (suc f) n ≡ uvarint_within (suc g) n
    both ih (last a t) (last b u) = t ∙ sym u
    both ih (last a t) (more b u) = absurd (omega arith)
    both ih (more a t) (last b u) = absurd (omega arith)
    both ih (more a t) (more b u) = t ∙ ap (λ r. (128 + n % 128) ∷ r) (ih (omega arith) (omega arith)) ∙ sym u

pub uvarint-small : (n : ℕ) → n < 128 → uvarint n ≡ n ∷ []
unfolding uvarint
uvarint-small n h = elim (spelled n n) [ last a t ↦ t | more a t ↦ absurd (omega arith) ]

pub uvarint-big : (n : ℕ) → 128 ≤ n → uvarint n ≡ (128 + n % 128) ∷ uvarint (n / 128)
unfolding uvarint
uvarint-big n h = elim (spelled n n) [ last a t ↦ absurd (omega arith) | more a t ↦ t ∙ ap (λ r. (128 + n % 128) ∷ r) (uvarint_enough n (suc (n / 128)) (n / 128) (omega arith) (omega arith)) ]

pub uvarints_prefix_free : UvarintsArePrefixFree
uvarints_prefix_free m n x y e = uvarint-apart m n x y e

pub worked_uvarints : WorkedUvarints
unfolding uvarint
worked_uvarints = (refl, refl, refl, refl, refl, refl, refl)
