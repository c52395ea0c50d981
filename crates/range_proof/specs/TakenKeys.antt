-- The keys of a range one after another, and whether a pair is taken.
use Rattle.std.specs.Prelude.{◌≡◌, ℕ, ◌+◌, Bool, true, nat_le, if◌then◌else◌, List, [], ◌∷◌, Option, Some, None}
use Rattle.range_model.specs.Ranges.{Range, holds}
use Rattle.proof_model.specs.Proofs.{Pair, pair_size}
use Rattle.proof_model.specs.TakenEntries.{taken, is_cut}

-- a key, where it lies in a range
abbrev pub in_range : Range → Option (List ℕ) → Option (List ℕ)
in_range r None = None
in_range r (Some k) = if holds r k then Some k else None

-- the least byte string from a start on
abbrev pub least_of : Option (List ℕ) → List ℕ
least_of None = []
least_of (Some a) = a

-- whether a pair of a size is taken behind others that have used some of z bytes
abbrev pub is_taken : List Pair → ℕ → ℕ → ℕ → Bool
is_taken [] used size z = true
is_taken (e ∷ es) used size z = nat_le (used + size) z

-- these pairs are taken of all, where n pairs and z bytes are allowed, and it is known whether pairs remain
pub record IsTaken (n z : ℕ) (all pairs : List Pair) (cut : Bool) : Type 0 where
  pub listed : pairs ≡ taken pair_size n z all
  pub known : cut ≡ is_cut pair_size n z all
