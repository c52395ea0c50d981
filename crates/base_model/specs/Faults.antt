-- When a thing outside may say that it failed: only where its count of faults rose.
use Rattle.std.specs.Prelude.{ℕ, ◌+◌, ◌-◌, ◌^◌, ◌<◌, ◌≤◌, ◌≡◌, ◌↔◌, min, List, length, Result, Ok, OnErr, MatchResult, Option, IsSome}

-- the count rose; a count that stands at the end of its type counts as risen
abbrev pub Rose : ℕ → ℕ → Type 0
Rose before now = min (before + 1) (2 ^ 64 - 1) ≤ now

-- the count never falls, and a failure is told only where it rose
pub record HasCause {T E : Type 0} (before now : ℕ) (result : Result T E) : Type 0 where
  pub later : before ≤ now
  pub failed : OnErr result (Rose before now)

-- nothing is taken of a piece that is not empty only where the count rose
abbrev pub TookNothing : {E : Type 0} → ℕ → ℕ → Result ℕ E → List ℕ → Type 0
TookNothing before now result piece = result ≡ Ok 0 → 0 < length piece → Rose before now

-- whether a thing tells what it holds is the same before and after
abbrev pub TellsAlike : {T : Type 0} → Option T → Option T → Type 0
TellsAlike before now = IsSome now ↔ IsSome before

-- one more, in a count that stays at the end of its type
abbrev pub one_more : ℕ → ℕ
one_more count = min (count + 1) (2 ^ 64 - 1)

-- the count rises by one at an error, and else not
abbrev pub CountsFaults : {T E : Type 0} → ℕ → ℕ → Result T E → Type 0
CountsFaults before now result = MatchResult result (λ _. now ≡ before) (λ _. now ≡ one_more before)
