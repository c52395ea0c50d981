-- The bytes that a source has left, and those that a sink has taken. None stands for a thing that doesn't tell.
use Rattle.std.specs.Prelude.{ℕ, ◌≡◌, List, [], take, Option, IfSome}
use Rattle.std.specs.Io.KnownBytes.{Appends}

-- the source was read to its end
abbrev pub AtEnd : Option (List ℕ) → Type 0
AtEnd left = IfSome left (λ bytes. bytes ≡ [])

-- the sink has taken a prefix of a text since
abbrev pub AppendsPrefix : Option (List ℕ) → Option (List ℕ) → List ℕ → Type 0
AppendsPrefix before now text = (n : ℕ) × Appends before now (take n text)
