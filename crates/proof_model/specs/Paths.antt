-- The path of a key in a map: the nodes that a reader meets on the way from the root down to the key.
use Rattle.std.specs.Prelude.{◌≡◌, ℕ, suc, ◌+◌, ◌%◌, ◌^◌, ◌<◌, ◌≤◌, nat_lt, if◌then◌else◌, Bool, List, [], ◌∷◌, ◌++◌, length, take, map, Option, Some, None, IfSome}
use Rattle.std.specs.List.{filter, AllByRecursion}
use Rattle.trie_model.specs.Bits.{bits_of_bytes, is_prefix, same_key}
use Rattle.trie_model.specs.Hashing.{hash_length}
use Rattle.trie_model.specs.Maps.{Map}
use Rattle.trie_model.specs.Table.{Row, table, hashed_child, shortest}

-- a node as a path shows it: all that is hashed of it
pub record ProofNode : Type 0 where
  pub key : List Bool
  pub digest : Option (List ℕ)
  pub children : List (ℕ × List ℕ)

-- ---- which nodes there are

-- indices that strictly increase, from low on
abbrev pub AreRising : ℕ → List (ℕ × List ℕ) → Type 0
AreRising low [] = Unit {0}
AreRising low (c ∷ cs) = (low ≤ c.0) × AreRising (suc c.0) cs

-- an index below the factor, and an ID
abbrev pub IsChild : ℕ → ℕ × List ℕ → Type 0
IsChild w c = (c.0 < 2 ^ w) × (length c.1 ≡ hash_length)

-- a node for tokens of w bits
pub record IsProofNode (w : ℕ) (n : ProofNode) : Type 0 where
  pub whole : length n.key % w ≡ 0
  pub digest : IfSome n.digest (λ d. length d ≤ hash_length)
  pub children : AllByRecursion (IsChild w) n.children
  pub rising : AreRising 0 n.children

-- ---- paths

-- a row of a table as a path shows it
abbrev pub shown_row : Row → ProofNode
shown_row r = record { key = r.0; digest = r.1.digest; children = map hashed_child r.1.children }

-- the rows at a key, of which a table has one or none
abbrev pub rows_at : Option (List Bool) → List Row → List Row
rows_at None rows = []
rows_at (Some k) rows = filter (λ (r : Row). same_key k r.0) rows

-- the child in a slot: the row with the shortest key that begins with the slot
abbrev pub rows_in : List Bool → List Row → List Row
rows_in s rows = rows_at (shortest (filter (is_prefix s) (map (λ (r : Row). r.0) rows))) rows

-- the last of some rows
abbrev pub deepest : Row → List Row → Row
deepest r [] = r
deepest r (s ∷ rs) = deepest s rs

-- the child of the node with key n in the slot that k lies in, where k goes on behind n
abbrev pub child_toward : ℕ → List Bool → List Bool → List Row → List Row
child_toward w k n rows = if nat_lt (length n) (length k) then rows_in (take (length n + w) k) rows else []

-- the nodes on the way, and then the child toward k of the deepest; where none is on the way, the root alone
abbrev pub with_child : ℕ → List Bool → List Row → List Row → List Row
with_child w k rows [] = take 1 rows
with_child w k rows (r ∷ rs) = (r ∷ rs) ++ child_toward w k (deepest r rs).0 rows

-- the rows of a path: those whose key begins k, which a table has in the order of their lengths, and then that child
unfoldable pub path_rows : ℕ → List Bool → List Row → List Row
path_rows w k rows = with_child w k rows (filter (λ (r : Row). is_prefix r.0 k) rows)

-- the path of a key in a map. In the empty map it has no node
abbrev pub path : ℕ → Map → List ℕ → List ProofNode
path w m key = map shown_row (path_rows w (bits_of_bytes key) (table w m))
