-- Tests of entries are tests of their keys.
use Rattle.std.proofs.Common.{◌≡◌, ℕ, suc, Bool, List, [], ◌∷◌, map, refl, ap, Some}
use Rattle.std.specs.Prelude.{if◌then◌else◌}
use Rattle.proof_model.specs.Refusals.{first_break, first_place}

pub first_break-map : {A B : Type 0} (f : A → B) (follows : B → B → Bool) (n : ℕ) (xs : List A) → first_break (λ (a b : A). follows (f a) (f b)) n xs ≡ first_break follows n (map f xs)
first_break-map f follows n [] = refl
first_break-map f follows n (x ∷ []) = refl
first_break-map f follows n (x ∷ y ∷ ys) = ap (λ r. if follows (f x) (f y) then r else Some (suc n)) (first_break-map f follows (suc n) (y ∷ ys))

pub first_place-map : {A B : Type 0} (f : A → B) (test : B → Bool) (n : ℕ) (xs : List A) → first_place (λ (a : A). test (f a)) n xs ≡ first_place test n (map f xs)
first_place-map f test n [] = refl
first_place-map f test n (x ∷ xs) = ap (λ r. if test (f x) then Some n else r) (first_place-map f test (suc n) xs)
