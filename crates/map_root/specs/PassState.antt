-- The state of the pass over the keys, from the last to the first: the node in hand, the open nodes above it, and the finished ones.
use Rattle.std.specs.Prelude.{ℕ, suc, ◌≡◌, ◌+◌, ◌*◌, ◌<◌, ◌≤◌, ◌==◌, cond, nat_le, List, [], ◌∷◌, length, take, drop, Some, None}
use Rattle.trie_model.specs.Bits.{common_prefix, whole_tokens, token_at}
use Rattle.trie_model.specs.StoredNode.{StoredChild}
use Rattle.trie_model.specs.Table.{Row, node_id, is_some}
use Rattle.map_root.specs.declared.entry.Entry.{Entry}

-- a node whose first child is still to come: the bits of its key, and its children so far
abbrev pub Unfinished : Type 0
Unfinished = ℕ × List StoredChild

-- the node in hand, which has all its children; the open nodes above it, the deepest first; and the finished
-- nodes behind it, in key order
pub record PassState : Type 0 where
  pub low : Row
  pub above : List Unfinished
  pub rows : List Row

-- the child that a node is of the node at the first b bits of its key
abbrev pub child_under : ℕ → ℕ → Row → StoredChild
child_under w b r = record { index = token_at w b r.0; rest = drop (b + w) r.0; id = node_id r; has_value = is_some r.1.digest }

-- the open node above a node, with that node as its first child
abbrev pub parent : ℕ → Row → Unfinished → Row
parent w r o = (take o.0 r.0, record { digest = None; children = child_under w o.0 r ∷ o.1 })

-- the open nodes of at least so many bits get their first child, and the last of them is then in hand
abbrev pub climb : ℕ → ℕ → Row → List Unfinished → List Row → PassState
climb w least r [] rows = record { low = r; above = []; rows = rows }
climb w least r (o ∷ above) rows = cond (nat_le least o.0) (climb w least (parent w r o) above (r ∷ rows)) (record { low = r; above = o ∷ above; rows = rows })

-- climbing from a state on
abbrev pub climb_from : ℕ → ℕ → PassState → PassState
climb_from w least y = climb w least y.low y.above y.rows

-- the open node of at least c bits, or a new one of c bits, and the nodes above it
abbrev pub open_at : {C : Type 0} → ℕ → List (ℕ × List C) → (ℕ × List C) × List (ℕ × List C)
open_at c [] = ((c, []), [])
open_at c (o ∷ above) = cond (nat_le c o.0) (o, above) ((c, []), o ∷ above)

-- the node of a key at the open node o, and of one below it, where the node in hand was the first child of o
abbrev pub settle_there : ℕ → Entry → Row → Unfinished → List Unfinished → List Row → PassState
settle_there w e r o above rows = record { low = (e.key, record { digest = Some e.digest; children = child_under w o.0 r ∷ o.1 }); above = above; rows = r ∷ rows }

abbrev pub settle_below : ℕ → Entry → Row → Unfinished → List Unfinished → List Row → PassState
settle_below w e r o above rows = record { low = (e.key, record { digest = Some e.digest; children = [] }); above = (o.0, child_under w o.0 r ∷ o.1) ∷ above; rows = r ∷ rows }

-- a key and its digest are the next node in hand
abbrev pub settle : ℕ → Entry → Row → Unfinished → List Unfinished → List Row → PassState
settle w e r o above rows = cond (length e.key == o.0) (settle_there w e r o above rows) (settle_below w e r o above rows)

-- how many bits a key has in common with the key of a node, in whole tokens
abbrev pub meet : ℕ → Entry → Row → ℕ
meet w e r = length (whole_tokens w (common_prefix e.key r.0))

abbrev pub settle_at : ℕ → Entry → ℕ → PassState → PassState
settle_at w e c y = settle w e y.low (open_at c y.above).0 (open_at c y.above).1 y.rows

-- one more entry in front
abbrev pub lay : ℕ → Entry → PassState → PassState
lay w e y = settle_at w e (meet w e y.low) (climb_from w (suc (meet w e y.low)) y)

-- the state after some entries, with finished nodes behind them
abbrev pub passed : ℕ → Entry → List Entry → List Row → PassState
passed w e [] rows = record { low = (e.key, record { digest = Some e.digest; children = [] }); above = []; rows = rows }
passed w e (f ∷ es) rows = lay w e (passed w f es rows)

-- open nodes that lie one above the other, each a token at least above the next, all above a key of low bits
abbrev pub AreNested : ℕ → ℕ → List Unfinished → Type 0
AreNested w low [] = Unit {0}
AreNested w low (o ∷ above) = (o.0 + w ≤ low) × ((n : ℕ) × (o.0 ≡ w * n)) × AreNested w o.0 above

-- the deepest open node has fewer bits
abbrev pub IsBelow : {C : Type 0} → ℕ → List (ℕ × List C) → Type 0
IsBelow least [] = Unit {0}
IsBelow least (o ∷ above) = o.0 < least
