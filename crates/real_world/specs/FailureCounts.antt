-- How a real thing counts its failures.
use Rattle.std.specs.Prelude.{ℕ, ◌≡◌, ◌==◌, ◌&&◌, if◌then◌else◌, nat_lt, List, length, Result, MatchResult}
use Rattle.base_model.specs.Faults.{one_more}

-- a write raises the count by one at an error, and where it takes nothing of a piece that is not empty
abbrev pub CountsWrites : {E : Type 0} → ℕ → ℕ → Result ℕ E → List ℕ → Type 0
CountsWrites before now result piece =
    MatchResult result (λ n. now ≡ (if (n == 0) && nat_lt 0 (length piece) then one_more before else before)) (λ _. now ≡ one_more before)
