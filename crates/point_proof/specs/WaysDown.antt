-- The way down to a key, as it is walked: from a node to the child in the slot in which the key lies.
use Rattle.std.specs.Prelude.{ℕ, zero, suc, ◌+◌, ◌*◌, ◌/◌, Bool, cond, nat_le, ◌&&◌, List, [], ◌∷◌, ◌++◌, length, take, Option, Some, None}
use Rattle.trie_model.specs.Bits.{is_prefix, token_at}
use Rattle.trie_model.specs.StoredNode.{StoredNode}
use Rattle.trie_model.specs.Table.{Row}
use Rattle.trie_items.specs.Shown.{child_named, rest_of}
use Rattle.trie_items.specs.Sources.{first_key, row_of}
use Rattle.proof_model.specs.Paths.{ProofNode, shown_row}

-- whether k goes on behind n, by a token at least
abbrev pub goes_on : ℕ → List Bool → List Bool → Bool
goes_on w k n = is_prefix n k && nat_le (length n + w) (length k)

-- the token of the slot below n in which k lies
abbrev pub token_on_way : ℕ → List Bool → List Bool → Option ℕ
token_on_way w k n = cond (goes_on w k n) (Some (token_at w (w * (length n / w)) k)) None

-- the key of a child with this rest in that slot
abbrev pub key_in_slot : ℕ → List Bool → List Bool → Option (List Bool) → Option (List Bool)
key_in_slot w k n None = None
key_in_slot w k n (Some rest) = Some (take (length n + w) k ++ rest)

abbrev pub key_toward : ℕ → List Bool → List Bool → Option (List Bool) → Option (List Bool)
key_toward w k n rest = cond (goes_on w k n) (key_in_slot w k n rest) None

-- the key of the child toward k of the node at n
abbrev pub next_on_way : ℕ → List Bool → List Bool → StoredNode → Option (List Bool)
next_on_way w k n x = key_toward w k n (rest_of (child_named (token_on_way w k n) x.children))

-- the node that is there, and then the rest of the way
abbrev pub with_node : List Bool → Option StoredNode → (StoredNode → List ProofNode) → List ProofNode
with_node n None rest = []
with_node n (Some x) rest = shown_row (n, x) ∷ rest x

abbrev pub go_on : {A : Type 0} → Option (List Bool) → (List Bool → List A) → List A
go_on None rest = []
go_on (Some n) rest = rest n

-- at most f nodes of a table, from the node at n on toward k
unfoldable pub way : ℕ → ℕ → List Row → List Bool → List Bool → List ProofNode
way w zero rows k n = []
way w (suc f) rows k n = with_node n (row_of n rows) (λ x. go_on (next_on_way w k n x) (way w f rows k))

-- from the root node on
abbrev pub whole_way : ℕ → List Row → List Bool → List ProofNode
whole_way w rows k = go_on (first_key rows) (way w (suc (length k)) rows k)
