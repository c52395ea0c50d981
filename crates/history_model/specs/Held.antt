-- Which maps a store holds, and which of them a root names. The present map stands first, and behind each map the one before it.
use Rattle.std.specs.Prelude.{ℕ, zero, suc, ◌-◌, Bool, nat_le, if◌then◌else◌, List, [], ◌∷◌, Option, Some, None}
use Rattle.std.specs.List.{list_any}
use Rattle.std.specs.FinMap as map_of
use Rattle.std.specs.Ordering.{eq_by_cmp}
use Rattle.base_model.specs.Bytes.{bytes_cmp}
use Rattle.trie_model.specs.Hashing.{zero_id}
use Rattle.trie_model.specs.Maps.{Map, root}
use Rattle.history_model.specs.Changes.{weight}

abbrev pub no_map : Map
no_map = map_of.empty

-- ---- which maps are held

-- how many commits a store can take back
abbrev pub commit_limit : ℕ
commit_limit = 64

-- and how much they may weigh together
abbrev pub weight_limit : ℕ
weight_limit = 268435456

-- the maps that are held behind one: at most n of them, and the commits from them up to that one weigh z at most
abbrev pub held_behind : ℕ → ℕ → Map → List Map → List Map
held_behind zero z now ms = []
held_behind (suc n) z now [] = []
held_behind (suc n) z now (m ∷ ms) = if nat_le (weight m now) z then m ∷ held_behind n (z - weight m now) m ms else []

-- the latest of these maps, so that at most n commits lie between the oldest and the present one, which weigh z at most.
-- The present map is always held
abbrev pub held : ℕ → ℕ → List Map → List Map
held n z [] = []
held n z (m ∷ ms) = m ∷ held_behind n z m ms

-- ---- which of them a root names

-- the latest map with this root, with tokens of w bits, and all maps before it; none where no map has it
abbrev pub until_root : ℕ → List Map → List ℕ → List Map
until_root w [] id = []
until_root w (m ∷ ms) id = if eq_by_cmp bytes_cmp id (root w m) then m ∷ ms else until_root w ms id

-- one of the maps has this root
abbrev pub is_held : ℕ → List Map → List ℕ → Bool
is_held w maps id = list_any (λ m. eq_by_cmp bytes_cmp id (root w m)) maps

-- the latest map with this root. Where no map has it, 32 zeros name the empty map
abbrev pub with_root : ℕ → List Map → List ℕ → Option Map
with_root w [] id = if eq_by_cmp bytes_cmp id zero_id then Some no_map else None
with_root w (m ∷ ms) id = if eq_by_cmp bytes_cmp id (root w m) then Some m else with_root w ms id

-- the map so many commits back
abbrev pub back : ℕ → List Map → Option Map
back n [] = None
back zero (m ∷ ms) = Some m
back (suc n) (m ∷ ms) = back n ms
