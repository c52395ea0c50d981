-- What a root names in a store, as the code finds it.
use Rattle.std.specs.Prelude.{◌≡◌, ℕ, Option, Some, None}
use Rattle.trie_model.specs.Maps.{Map}
use Rattle.range_model.specs.Ranges.{Range}
use Rattle.history_model.specs.Changes.{changes}
use Rattle.proof_model.specs.ChangeProofs.{ChangeProof, change_proof}
use Rattle.change_history.specs.ToldChanges.{IsTaken}
use Rattle.change_history.specs.declared.telling.Taken.{Taken}
use Rattle.mdb_core.specs.Stores.{DbState}
use Rattle.mdb_core.specs.Spots.{IsSpotOf}
use Rattle.mdb_core.specs.declared.spot.Spot.{Spot}

-- the spot of the map that is named, or none where no map is
abbrev pub IsSpotNamed : DbState → Map → Option Spot → Option Map → Type 0
IsSpotNamed s m None None = Unit {0}
IsSpotNamed s m None (Some n) = ⊥
IsSpotNamed s m (Some spot) None = ⊥
IsSpotNamed s m (Some spot) (Some n) = IsSpotOf s m spot n

-- ---- changes

-- what is taken of the changes between two maps, where roots name them
abbrev pub IsTakenBetween : ℕ → ℕ → Range → Option (Map × Map) → Option Taken → Type 0
IsTakenBetween n z asked None None = Unit {0}
IsTakenBetween n z asked None (Some taken) = ⊥
IsTakenBetween n z asked (Some ms) None = ⊥
IsTakenBetween n z asked (Some ms) (Some taken) = IsTaken n z (changes ms.0 ms.1 asked) taken

-- so of their proof
abbrev pub IsProofBetween : ℕ → Range → ℕ → ℕ → Option (Map × Map) → Option ChangeProof → Type 0
IsProofBetween w asked n z None None = Unit {0}
IsProofBetween w asked n z None (Some proof) = ⊥
IsProofBetween w asked n z (Some ms) None = ⊥
IsProofBetween w asked n z (Some ms) (Some proof) = proof ≡ change_proof w ms.0 ms.1 asked n z
