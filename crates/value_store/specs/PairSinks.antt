-- Pairs that are taken one after another.
use Rattle.std.specs.Prelude.{◌≡◌, ℕ, List, [], ◌∷◌}

-- all of these pairs lead from one state to the other
abbrev pub TakesAll : {S : Type 0} → (S → List ℕ → List ℕ → S → Type 0) → S → List (List ℕ × List ℕ) → S → Type 0
TakesAll takes s [] t = t ≡ s
TakesAll {S} takes s (e ∷ es) t = (next : S) × takes s e.0 e.1 next × TakesAll takes next es t
