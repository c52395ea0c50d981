use Rattle.std.specs.Prelude.{◌≡◌, ℕ, ◌+◌, ◌/◌, List, length, drop, false}
use Rattle.std.specs.List.{AllByRecursion}
use Rattle.trie_model.specs.Bits.{bits_of_bytes}

-- as many bytes as these bits need, with zeros behind the bits
abbrev pub IsFilledUp : ℕ → List ℕ → Type 0
IsFilledUp bits bytes = (length bytes ≡ (bits + 7) / 8) × AllByRecursion (λ b. b ≡ false) (drop bits (bits_of_bytes bytes))
