-- Worked histories of a store that begins as the empty map. Bytes are in hexadecimal.
use Rattle.std.specs.Prelude.{◌≡◌, ◌≢◌, ℕ, ◌<◌, List, [], ◌∷◌, replicate, Some, Ok, Err}
use Rattle.std.specs.FinMap as map_of
use Rattle.trie_model.specs.Maps.{Map, root}
use Rattle.range_model.specs.Ranges.{everything, only}
use Rattle.history_model.specs.Changes.{changes, weight}
use Rattle.history_model.specs.Held.{no_map, commit_limit, weight_limit, held, until_root}
use Rattle.history_model.specs.Between.{changes_between, NoEnd, NoStart}

-- three commits: a key gets a value, another value, and its first value again beside a second key
abbrev pub first : Map
first = map_of.insert no_map (0x0a ∷ []) (0x61 ∷ [])

abbrev pub second : Map
second = map_of.insert no_map (0x0a ∷ []) (0x62 ∷ [])

abbrev pub third : Map
third = map_of.insert first (0x0b ∷ []) (0x63 ∷ [])

abbrev pub since_opening : List Map
since_opening = third ∷ second ∷ first ∷ no_map ∷ []

-- from two commits back to now only the second key changed
abbrev pub ChangesOfThree : Type 0
ChangesOfThree =
    (changes first third everything ≡ record { key = 0x0b ∷ []; value = Some (0x63 ∷ []) } ∷ [])
    × (changes second third (only (0x0a ∷ [])) ≡ record { key = 0x0a ∷ []; value = Some (0x61 ∷ []) } ∷ [])
    × (held commit_limit weight_limit since_opening ≡ since_opening)

-- as long as no two of the roots are one, the changes are told forward, and not from now to one commit back; nor to a root
-- that no map has
abbrev pub ToldForward : Type 0
ToldForward =
    (w : ℕ) → root w third ≢ root w second → root w third ≢ root w first → root w third ≢ root w no_map → root w second ≢ root w first
    → (changes_between w since_opening (root w first) (root w third) everything ≡ Ok (record { key = 0x0b ∷ []; value = Some (0x63 ∷ []) } ∷ []))
    × (changes_between w since_opening (root w third) (root w second) everything ≡ Err NoStart)
    × ((id : List ℕ) → until_root w since_opening id ≡ [] → changes_between w since_opening id id everything ≡ Err NoEnd)

-- the 65th commit lets the first map go
abbrev pub LastCommitCounts : Type 0
LastCommitCounts = (m : Map) → held commit_limit weight_limit (replicate 66 m) ≡ replicate 65 m

-- a commit that is too heavy lets all maps before it go
abbrev pub HeavyStandsAlone : Type 0
HeavyStandsAlone = (n z : ℕ) (m former : Map) (ms : List Map) → z < weight former m → held n z (m ∷ former ∷ ms) ≡ m ∷ []
