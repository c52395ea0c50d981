-- What a builder was told: pairs of a key's bytes and the digest of its value, in the order of the keys.
use Rattle.std.specs.Prelude.{ℕ, ◌≤◌, List, length, map}
use Rattle.std.specs.List.{AllByRecursion}
use Rattle.trie_model.specs.Bits.{bits_of_bytes}
use Rattle.trie_model.specs.Items.{Item, Val}
use Rattle.trie_model.specs.Maps.{Limits}
use Rattle.bit_keys.specs.declared.branch.Branch.{Branch}

-- the number of children that a node may have, and the pairs so far
pub record Built : Type 0 where
  pub branch : Branch
  pub pairs : List (List ℕ × List ℕ)

-- the item of a pair
abbrev pub pair_item : List ℕ × List ℕ → Item
pair_item p = Val (bits_of_bytes p.0) p.1

-- the items of pairs
abbrev pub pair_items : List (List ℕ × List ℕ) → List Item
pair_items = map pair_item

-- keys within the limits
abbrev pub AreWithin : Limits → List (List ℕ × List ℕ) → Type 0
AreWithin l ps = AllByRecursion (λ (p : List ℕ × List ℕ). length p.0 ≤ l.key) ps
