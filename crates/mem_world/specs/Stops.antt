-- Which calls of a disk in memory are told to fail.
use Rattle.std.specs.Prelude.{◌≡◌, ◌⊎◌, ℕ, ◌-◌, [], Option, Some, None, Contains}
use Rattle.base_model.specs.Faults.{one_more}
use Rattle.mem_world.specs.declared.stops.Stops.{Stops}

-- the next call is to fail: the fuse has burnt down, or the call's number is listed
abbrev pub FailsNext : Stops → Type 0
FailsNext s = (s.fuse ≡ Some 0) ⊎ Contains s.failing.items s.call

-- no call is to fail
abbrev pub NeverFails : Stops → Type 0
NeverFails s = (s.fuse ≡ None) × (s.failing.items ≡ [])

-- a fuse after one call more
abbrev pub burnt : Option ℕ → Option ℕ
burnt None = None
burnt (Some left) = Some (left - 1)

-- after one call more
abbrev pub next_stops : Stops → Stops
next_stops s = record s { fuse = burnt s.fuse; call = one_more s.call }
