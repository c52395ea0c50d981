-- What the words on histories say of each other.
use Rattle.std.specs.Prelude.{◌≡◌, ℕ, ◌+◌, ◌≤◌, false, if◌then◌else◌, List, [], ◌∷◌, ◌++◌, length, map, Option, Some, None}
use Rattle.std.specs.List.{AllByRecursion}
use Rattle.std.specs.FinMap as map_of
use Rattle.base_model.specs.Bytes.{bytes_cmp}
use Rattle.trie_model.specs.Maps.{Map}
use Rattle.range_model.specs.Ranges.{Range, holds, everything}
use Rattle.batch_model.specs.Batch.{AreRising, after_batch}
use Rattle.history_model.specs.Changes.{Delta, same_value, deltas, change_of, changes, weight}
use Rattle.history_model.specs.Held.{held}

-- ---- changes

-- laid on the first map, the changes in a range give the second one there, and leave the first one elsewhere
abbrev pub ChangesLead : Type 0
ChangesLead = (m1 m2 : Map) (r : Range) (key : List ℕ) → map_of.get (after_batch m1 (changes m1 m2 r)) key ≡ map_of.get (if holds r key then m2 else m1) key

-- so all of them lead from the one map to the other
abbrev pub AllChangesLead : Type 0
AllChangesLead = (m1 m2 : Map) → after_batch m1 (changes m1 m2 everything) ≡ m2

-- their keys strictly increase
abbrev pub ChangesRise : Type 0
ChangesRise = (m1 m2 : Map) (r : Range) → AreRising None (changes m1 m2 r)

-- a map has no changes to itself
abbrev pub NoneToItself : Type 0
NoneToItself = (m : Map) (r : Range) → changes m m r ≡ []

-- ---- deltas

abbrev pub DeltasRise : Type 0
DeltasRise = (m1 m2 : Map) → AreRising None (map change_of (deltas m1 m2))

-- their two values differ
abbrev pub DeltasDiffer : Type 0
DeltasDiffer = (m1 m2 : Map) → AllByRecursion (λ (d : Delta). same_value d.before d.after ≡ false) (deltas m1 m2)

-- the two values that deltas have at a key
abbrev pub values_at : List Delta → List ℕ → Option (Option (List ℕ) × Option (List ℕ))
values_at ds key = map_of.find bytes_cmp key (map (λ (d : Delta). (d.key, (d.before, d.after))) ds)

-- the values at a key of two steps that follow each other, as those of one step; none where the second undoes the first
abbrev pub joined : Option (Option (List ℕ) × Option (List ℕ)) → Option (Option (List ℕ) × Option (List ℕ)) → Option (Option (List ℕ) × Option (List ℕ))
joined None next = next
joined (Some u) None = Some u
joined (Some u) (Some v) = if same_value u.0 v.1 then None else Some (u.0, v.1)

-- the deltas of two steps add up, key by key
abbrev pub StepsAddUp : Type 0
StepsAddUp = (a b c : Map) (key : List ℕ) → values_at (deltas a c) key ≡ joined (values_at (deltas a b) key) (values_at (deltas b c) key)

-- ---- what is held

-- what the commits between some maps weigh, of which the latest stands first
abbrev pub total_weight : List Map → ℕ
total_weight [] = 0
total_weight (m ∷ []) = 0
total_weight (m ∷ l ∷ ms) = weight l m + total_weight (l ∷ ms)

-- the maps that are held: they begin the list and are within the limits, and no longer list is that begins it
pub record IsLongestHeld (n z : ℕ) (maps front : List Map) : Type 0 where
  pub rest : List Map
  pub begins : maps ≡ front ++ rest
  pub few : length front ≤ n + 1
  pub light : total_weight front ≤ z
  pub longest : (longer left : List Map) → maps ≡ longer ++ left → length longer ≤ n + 1 → total_weight longer ≤ z → length longer ≤ length front

abbrev pub HeldIsLongest : Type 0
HeldIsLongest = (n z : ℕ) (maps : List Map) → IsLongestHeld n z maps (held n z maps)

-- a list that is cut after each commit is the one that is cut once
abbrev pub CutsAreOne : Type 0
CutsAreOne = (n z : ℕ) (m : Map) (ms : List Map) → held n z (m ∷ held n z ms) ≡ held n z (m ∷ ms)
