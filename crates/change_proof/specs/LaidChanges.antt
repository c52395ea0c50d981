-- Pairs in the order of their keys, and what changes in that order make of them.
use Rattle.std.specs.Prelude.{ℕ, Bool, if◌then◌else◌, List, [], ◌∷◌, ◌++◌, Option, Some, None}
use Rattle.std.specs.Ordering.{match_ordering}
use Rattle.std.specs.FinMap as map_of
use Rattle.base_model.specs.Bytes.{bytes_cmp}
use Rattle.batch_model.specs.Batch.{Change}
use Rattle.history_model.specs.Changes.{same_value}
use Rattle.proof_model.specs.Claims.{pair_of}
use Rattle.proof_model.specs.Proofs.{Pair}
use Rattle.proof_model.specs.Refusals.{is_less, same_bytes}

-- ---- one change

-- what a change puts
abbrev pub put_of : Change → List Pair
put_of c = pair_of c.key c.value

-- the pairs after a change
abbrev pub with_change : Change → List Pair → List Pair
with_change c [] = put_of c
with_change c (e ∷ es) = match_ordering (bytes_cmp c.key e.0) (put_of c ++ e ∷ es) (put_of c ++ es) (e ∷ with_change c es)

-- the pairs after all of some changes
abbrev pub laid : List Pair → List Change → List Pair
laid es [] = es
laid es (c ∷ cs) = laid (with_change c es) cs

-- the pairs have already what a change makes of them
abbrev pub is_idle_in : List Pair → Change → Bool
is_idle_in es c = same_value (map_of.find bytes_cmp c.key es) c.value

-- ---- parts

-- the pairs in front of a key
abbrev pub below : List ℕ → List Pair → List Pair
below k [] = []
below k (e ∷ es) = if is_less e.0 k then e ∷ below k es else []

-- the pairs from a key on
abbrev pub from : List ℕ → List Pair → List Pair
from k [] = []
from k (e ∷ es) = if is_less e.0 k then from k es else e ∷ es

-- of pairs from a key on, those behind it
abbrev pub past : List ℕ → List Pair → List Pair
past k [] = []
past k (e ∷ es) = if same_bytes e.0 k then es else e ∷ es

-- and the value at it
abbrev pub value_in_front : List ℕ → List Pair → Option (List ℕ)
value_in_front k [] = None
value_in_front k (e ∷ es) = if same_bytes e.0 k then Some e.1 else None
