-- What becomes of the deltas of two runs of commits.
use Rattle.std.specs.Prelude.{◌≡◌, ℕ, T, List, [], ◌∷◌, map, drop, Option, Some, None}
use Rattle.std.specs.FinMap.{is_sorted}
use Rattle.base_model.specs.Bytes.{bytes_cmp}
use Rattle.history_model.specs.Changes.{Delta}
use Rattle.history_model.specs.Laws.{values_at, joined}
use Rattle.change_history.specs.NetChanges.{Turn, net_of}
use Rattle.change_history.specs.declared.net.Net.{Net}
use Rattle.change_history.specs.declared.merging.Step.{Step}

abbrev pub added_of : Option Net → List Delta
added_of None = []
added_of (Some n) = net_of n ∷ []

-- a step, as the deltas that it adds and leaves
abbrev pub turn_of : List Delta → List Delta → Step → Turn
turn_of older newer s = record { added = added_of s.added; older = drop s.older older; newer = drop s.newer newer }

-- the key, with both values
abbrev pub keyed : Delta → List ℕ × (Option (List ℕ) × Option (List ℕ))
keyed d = (d.key, (d.before, d.after))

-- in the order of their keys
abbrev pub AreOrdered : List Delta → Type 0
AreOrdered ds = T (is_sorted bytes_cmp (map keyed ds))

-- deltas in the order of their keys, which say at each key what two runs say of it together
pub record AreJoined (older newer ds : List Delta) : Type 0 where
  pub ordered : AreOrdered ds
  pub each : (key : List ℕ) → values_at ds key ≡ joined (values_at older key) (values_at newer key)

-- so it is of runs in the order of their keys
abbrev pub IsMerged : List Delta → List Delta → List Delta → Type 0
IsMerged older newer ds = AreOrdered older → AreOrdered newer → AreJoined older newer ds
