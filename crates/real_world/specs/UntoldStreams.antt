-- What a real stream tells: nothing.
use Rattle.std.specs.Prelude.{ℕ, List, Option, None}

-- the bytes of a stream
abbrev pub untold : Option (List ℕ)
untold = None
