-- Proofs as values: what the store shows of a map, to one who has its root alone.
use Rattle.std.specs.Prelude.{ℕ, ◌+◌, List, length, Option}
use Rattle.std.specs.FinMap as map_of
use Rattle.trie_model.specs.Maps.{Map}
use Rattle.proof_model.specs.Paths.{ProofNode, path}

-- a key and its value
abbrev pub Pair : Type 0
Pair = List ℕ × List ℕ

-- the bytes of a pair
abbrev pub pair_size : Pair → ℕ
pair_size e = length e.0 + length e.1

-- the value at a key, or that there is none, and the key's path
pub record PointProof : Type 0 where
  pub value : Option (List ℕ)
  pub path : List ProofNode

-- what is proved of a key in a map
abbrev pub point_proof : ℕ → Map → List ℕ → PointProof
point_proof w m key = record { value = map_of.get m key; path = path w m key }
