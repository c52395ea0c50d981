-- A change that waits for its commit, as it is kept in a map from keys to values.
use Rattle.std.specs.Prelude.{ℕ, Vec, Option, option_map}
use Rattle.std.specs.Global.{Global}
use Rattle.smallvec.specs.SmallVec.{SmallVec}
use Rattle.batch_model.specs.Batch.{Change}

abbrev pub waiting : SmallVec ℕ × Option (Vec ℕ Global) → Change
waiting e = record { key = e.0.items; value = option_map (λ (v : Vec ℕ Global). v.items) e.1 }
