-- On what live views stand, in each forest that calls make.
use Rattle.std.specs.Prelude.{◌≡◌, ◌⊎◌, ℕ, ◌<◌, ◌≤◌, true, List, [], ◌∷◌, length, Some, option_map, unwrap_or}
use Rattle.view_model.specs.Forest.{View, Forest, Live, is_among, view_of, state, path_of}

-- the path of the parent of the view of a number, where there is one
abbrev pub parent_of : Forest → ℕ → List ℕ
parent_of f n = unwrap_or (option_map (λ (v : View). v.parent) (view_of f n)) []

-- a path is that of the store, or of a live view
abbrev pub IsOpen : Forest → List ℕ → Type 0
IsOpen f p = (p ≡ f.store) ⊎ ((n : ℕ) × (state f n ≡ Some Live) × (p ≡ path_of f n))

-- views and committed numbers are among the numbers that were given, and live views stand on the store or on live views
pub record IsForest (f : Forest) : Type 0 where
  pub given : (n : ℕ) (v : View) → view_of f n ≡ Some v → (0 < n) × (n ≤ length f.views)
  pub done : (n : ℕ) → is_among n f.store ≡ true → n ≤ length f.views
  pub stands : (n : ℕ) → state f n ≡ Some Live → IsOpen f (parent_of f n)

-- the views of these numbers are live
abbrev pub AreLive : Forest → List ℕ → Type 0
AreLive f [] = Unit {0}
AreLive f (n ∷ ns) = (state f n ≡ Some Live) × AreLive f ns
