use Rattle.std.specs.Prelude.{ℕ}
use Rattle.bit_keys.specs.declared.branch.Branch.{Branch}
use Rattle.bit_keys.specs.declared.branch.Branch.TheVariants.{B2, B4, B16, B256}

-- the bits of a token
abbrev pub width_of : Branch → ℕ
width_of B2 = 1
width_of B4 = 2
width_of B16 = 4
width_of B256 = 8

-- how many values a token has
abbrev pub factor_of : Branch → ℕ
factor_of B2 = 2
factor_of B4 = 4
factor_of B16 = 16
factor_of B256 = 256
