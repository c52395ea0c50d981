-- Views that are found by their numbers.
use Rattle.std.proofs.Common.{◌≡◌, ℕ, Bool, true, false, cond, nat_eq, List, [], ◌∷◌, ◌++◌, map, refl, sym, ap, ◌∙◌, Option, Some, option_map}
use Rattle.std.specs.List.{find}
use Rattle.std.proofs.lemmas.Bool.{eqb-true}
use Rattle.view_model.specs.Forest.{View}

abbrev pub found : ℕ → List View → Option View
found n vs = find (λ (v : View). nat_eq v.number n) vs

pub found_number : (n : ℕ) (vs : List View) (v : View) → found n vs ≡ Some v → v.number ≡ n
found_number n [] v h = absurd (cc)
found_number n (x ∷ xs) v h = go (nat_eq x.number n) refl h (found_number n xs v)
  where
    go : (b : Bool) → nat_eq x.number n ≡ b → cond b (Some x) (found n xs) ≡ Some v → (found n xs ≡ Some v → v.number ≡ n) → v.number ≡ n
    go true e h ih = let same : x ≡ v = cc in ap (λ (w : View). w.number) (sym same) ∙ eqb-true x.number n e
    go false e h ih = ih h

-- among views that are changed, but not in their numbers
pub found-map : (g : View → View) → ((v : View) → (g v).number ≡ v.number) → (n : ℕ) (vs : List View) → found n (map g vs) ≡ option_map g (found n vs)
found-map g keeps n [] = refl
found-map g keeps n (v ∷ vs) = ap (λ k. cond (nat_eq k n) (Some (g v)) (found n (map g vs))) (keeps v) ∙ go (nat_eq v.number n) (found-map g keeps n vs)
  where
    go : (b : Bool) → found n (map g vs) ≡ option_map g (found n vs) → cond b (Some (g v)) (found n (map g vs)) ≡ option_map g (cond b (Some v) (found n vs))
    go true ih = refl
    go false ih = ih

-- a view that is found is found among more of them
pub found-append : (n : ℕ) (vs more : List View) (v : View) → found n vs ≡ Some v → found n (vs ++ more) ≡ Some v
found-append n [] more v h = absurd (cc)
found-append n (x ∷ xs) more v h = go (nat_eq x.number n) h (found-append n xs more v)
  where
    go : (b : Bool) → cond b (Some x) (found n xs) ≡ Some v → (found n xs ≡ Some v → found n (xs ++ more) ≡ Some v) → cond b (Some x) (found n (xs ++ more)) ≡ Some v
    go true h ih = h
    go false h ih = ih h
