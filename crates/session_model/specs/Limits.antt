-- The limits that end a script. How many numbers are given to views and batches at most stands in `view_model`.
use Rattle.std.specs.Prelude.{ℕ}

-- how many pairs a store has at most
abbrev pub pairs_limit : ℕ
pairs_limit = 1000000

-- how many bytes the payload of a batch has at most
abbrev pub payload_limit : ℕ
payload_limit = 33554432
