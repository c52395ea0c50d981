-- How many nodes were hashed.
use Rattle.std.specs.Prelude.{ℕ, ◌≡◌, ◌+◌, ◌≤◌, length}
use Rattle.map_root.specs.PassState.{PassState}

-- a count grew by at most n
abbrev pub GrewAtMost : ℕ → ℕ → ℕ → Type 0
GrewAtMost n before now = (before ≤ now) × (now ≤ before + n)

-- from y to z as many nodes were hashed as were finished
abbrev pub HashedAll : ℕ → ℕ → PassState → PassState → Type 0
HashedAll before now y z = now + length y.rows ≡ before + length z.rows

-- on the way from y to z at most as many nodes were hashed as are finished
abbrev pub HashedAtMost : ℕ → ℕ → PassState → PassState → Type 0
HashedAtMost before now y z = (before ≤ now) × (now + length y.rows ≤ before + length z.rows)
