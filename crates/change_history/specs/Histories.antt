-- A history as it is kept, and which maps it recalls.
use Rattle.std.specs.Prelude.{◌≡◌, ℕ, zero, suc, ◌-◌, ◌<◌, ◌≤◌, ◌^◌, Bool, false, nat_le, if◌then◌else◌, List, [], ◌∷◌, length, map, Option, Some, None}
use Rattle.std.specs.List.{sum_by}
use Rattle.trie_model.specs.Maps.{Map, root}
use Rattle.batch_model.specs.Batch.{Change, after_batch}
use Rattle.proof_model.specs.Refusals.{same_bytes}
use Rattle.history_model.specs.Changes.{Delta, deltas, delta_weight}
use Rattle.history_model.specs.Held.{held_behind, held}

-- ---- what is kept

-- a commit: what it changed, and the root of the map before it
pub record CommitState : Type 0 where
  pub deltas : List Delta
  pub former : List ℕ

-- a history: how many commits it keeps at most, and how much they may weigh; the root of the present map; and the commits
-- that it keeps, of which the latest stands first
pub record HistoryState : Type 0 where
  pub commits : ℕ
  pub weight : ℕ
  pub root : List ℕ
  pub ring : List CommitState

-- what is kept of a commit: its deltas, and how much they weigh
pub record IsCommit (ds : List Delta) (n : ℕ) : Type 0 where
  pub weight : n ≡ sum_by delta_weight ds
  pub small : n < 2 ^ 127

abbrev pub commit_weight : CommitState → ℕ
commit_weight c = sum_by delta_weight c.deltas

-- no more commits than there may be, and how much they weigh
pub record AreKept (cs : List CommitState) (commits n : ℕ) : Type 0 where
  pub few : length cs ≤ commits
  pub weight : n ≡ sum_by commit_weight cs

-- the latest of some commits, n at most, which weigh z at most
abbrev pub kept : ℕ → ℕ → List CommitState → List CommitState
kept n z [] = []
kept zero z (c ∷ cs) = []
kept (suc n) z (c ∷ cs) = if nat_le (commit_weight c) z then c ∷ kept n (z - commit_weight c) cs else []

-- before the first commit
abbrev pub no_commits : ℕ → ℕ → List ℕ → HistoryState
no_commits commits weight root = record { commits = commits; weight = weight; root = root; ring = [] }

-- after a commit that changed this, and led to this root
abbrev pub pushed : HistoryState → List Delta → List ℕ → HistoryState
pushed h ds id = record h { root = id; ring = kept h.commits h.weight (record { deltas = ds; former = h.root } ∷ h.ring) }

-- after a commit that is too heavy to be kept, and led to this root
abbrev pub restarted : HistoryState → List ℕ → HistoryState
restarted h id = record h { root = id; ring = [] }

-- the root of the present map, and behind it those of the maps before
abbrev pub roots : HistoryState → List (List ℕ)
roots h = h.root ∷ map (λ (c : CommitState). c.former) h.ring

-- the first of some roots that is this one, and all behind it
abbrev pub from_root : List ℕ → List (List ℕ) → List (List ℕ)
from_root id [] = []
from_root id (r ∷ rs) = if same_bytes id r then r ∷ rs else from_root id rs

-- this is a root, where there is one
abbrev pub is_root : List ℕ → Option (List ℕ) → Bool
is_root id None = false
is_root id (Some r) = same_bytes id r

-- ---- what is recalled

-- these are the commits that led to a map from those behind it
abbrev pub Follow : ℕ → Map → List CommitState → List Map → Type 0
Follow w m [] [] = Unit {0}
Follow w m [] (l ∷ ms) = ⊥
Follow w m (c ∷ cs) [] = ⊥
Follow w m (c ∷ cs) (l ∷ ms) = (c.deltas ≡ deltas l m) × (c.former ≡ root w l) × Follow w l cs ms

-- the history is that of these maps, of which the present one stands first: all that are held
abbrev pub Recalls : ℕ → HistoryState → List Map → Type 0
Recalls w h [] = ⊥
Recalls w h (m ∷ ms) = (h.root ≡ root w m) × Follow w m h.ring (held_behind h.commits h.weight m ms)

-- the maps that are held of these
abbrev pub held_by : HistoryState → List Map → List Map
held_by h maps = held h.commits h.weight maps

-- ---- what is remembered

-- the change that takes a delta back
abbrev pub undo_of : Delta → Change
undo_of d = record { key = d.key; value = d.before }

-- the map before a commit, from the map after it
abbrev pub map_before : Map → CommitState → Map
map_before m c = after_batch m (map undo_of c.deltas)

-- the maps that some commits undo, one after another, from a map on
abbrev pub maps_behind : Map → List CommitState → List Map
maps_behind m [] = []
maps_behind m (c ∷ cs) = map_before m c ∷ maps_behind (map_before m c) cs

-- a map, and the maps before it as a history tells them
abbrev pub recalled : HistoryState → Map → List Map
recalled h m = m ∷ maps_behind m h.ring

-- a history whose present map is this one recalls the maps that it tells
abbrev pub Remembers : ℕ → HistoryState → Map → Type 0
Remembers w h m = Recalls w h (recalled h m)
