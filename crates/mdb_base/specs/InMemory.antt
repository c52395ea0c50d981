-- What a source and a sink in memory hold, and what one call of them does.
use Rattle.std.specs.Prelude.{ℕ, min, List, length}

-- a source in memory
pub record SourceState : Type 0 where
  pub left : List ℕ  -- the bytes that no read has given
  pub piece : ℕ  -- how many of them one read gives at most
  pub failing : List ℕ  -- the numbers of the reads that fail, counted from 0
  pub calls : ℕ  -- how many reads there were
  pub faults : ℕ  -- how many of them failed

-- a sink in memory
pub record SinkState : Type 0 where
  pub taken : List ℕ  -- the bytes that were written
  pub failing : List ℕ  -- the numbers of the writes that fail, counted from 0
  pub calls : ℕ  -- how many writes there were
  pub faults : ℕ  -- how many of them failed

-- how many bytes a read gives: what a call may give, what there is room for, and what is left
abbrev pub read_count : SourceState → List ℕ → ℕ
read_count source into = min (min (length into) source.piece) (length source.left)
