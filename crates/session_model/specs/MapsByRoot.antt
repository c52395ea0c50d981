-- Which maps a store holds, which of them a root names, and what a script tells of a key and of a range in it.
use Rattle.std.specs.Prelude.{ℕ, List, [], ◌∷◌, codes, Option, Some, None, option_map}
use Rattle.std.specs.Option.{option_and_then}
use Rattle.trie_model.specs.Hashing.{zero_id}
use Rattle.trie_model.specs.Maps.{Map, root}
use Rattle.range_model.specs.Ranges.{Range}
use Rattle.text_model.specs.Words.{RootWord, Id, Now, Empty, Back}
use Rattle.history_model.specs.Held.{commit_limit, weight_limit, held, until_root, with_root, back}
use Rattle.proof_model.specs.Proofs.{point_proof}
use Rattle.proof_model.specs.RangeProofs.{range_proof}
use Rattle.proof_model.specs.RangeWire.{range_form}
use Rattle.proof_model.specs.ChangeProofs.{change_proof}
use Rattle.proof_model.specs.ChangeWire.{changes_form}
use Rattle.proof_model.specs.Wire.{point_form}

-- the maps that a store holds, of which the present one stands first; and the limits of what is held: how many commits lie
-- behind that one at most, and how much they may weigh
pub record Holding : Type 0 where
  pub commits : ℕ
  pub weight : ℕ
  pub maps : List Map

-- what a store holds that was just opened: its map alone
abbrev pub holds_first : Map → Holding
holds_first m = record { commits = commit_limit; weight = weight_limit; maps = m ∷ [] }

-- and after a commit that led to this map
abbrev pub holds_next : Holding → Map → Holding
holds_next h m = record h { maps = held h.commits h.weight (m ∷ h.maps) }

-- the root that a word stands for where these maps are held, with tokens of w bits: that of the map so many commits back, if
-- so many are held
abbrev pub root_meant : ℕ → List Map → RootWord → Option (List ℕ)
root_meant w maps (Id id) = Some id
root_meant w maps Now = option_map (root w) (back 0 maps)
root_meant w maps Empty = Some zero_id
root_meant w maps (Back n) = option_map (root w) (back n maps)

-- the map that it names among these: the latest with that root
abbrev pub named : ℕ → List Map → RootWord → Option Map
named w maps word = option_and_then (with_root w maps) (root_meant w maps word)

-- the proof of a key in a map, as bytes
abbrev pub proof_of : ℕ → List ℕ → Map → List ℕ
proof_of w key m = point_form (point_proof w m key)

-- the proof of a key in the map that a root names among these, where it names one
abbrev pub proved : ℕ → List Map → RootWord → List ℕ → Option (List ℕ)
proved w maps word key = option_map (proof_of w key) (named w maps word)

-- the proof of a range of a map, of which so many pairs and so many bytes of them may be listed, as bytes
abbrev pub range_proof_of : ℕ → Range → ℕ → ℕ → Map → List ℕ
range_proof_of w asked pairs bytes m = range_form (range_proof w m asked pairs bytes)

-- the proof of a range of the map that a root names among these, where it names one
abbrev pub range_proved : ℕ → List Map → RootWord → Range → ℕ → ℕ → Option (List ℕ)
range_proved w maps word asked pairs bytes = option_map (range_proof_of w asked pairs bytes) (named w maps word)

-- ---- changes

-- the first of some maps, and the later one to which it belongs
abbrev pub and_later : Map → List Map → Option (Map × Map)
and_later later [] = None
and_later later (former ∷ maps) = Some (former, later)

-- the first of some maps as the later one, and the latest at or behind it that has the former root
abbrev pub leading_to : ℕ → List Map → List ℕ → Option (Map × Map)
leading_to w [] from = None
leading_to w (later ∷ maps) from = and_later later (until_root w (later ∷ maps) from)

-- the two maps that two roots name where changes are told: the later root is looked up first
abbrev pub between : ℕ → List Map → List ℕ → List ℕ → Option (Map × Map)
between w maps from to = leading_to w (until_root w maps to) from

abbrev pub both_named : ℕ → List Map → RootWord → RootWord → Option (Map × Map)
both_named w maps from to = option_and_then (λ f. option_and_then (between w maps f) (root_meant w maps to)) (root_meant w maps from)

-- the proof of the changes in a range from one map to another, of which so many and so many bytes of them may be listed, as
-- bytes
abbrev pub changes_proof_of : ℕ → Range → ℕ → ℕ → Map × Map → List ℕ
changes_proof_of w asked pairs bytes ms = changes_form (change_proof w ms.0 ms.1 asked pairs bytes)

-- so of the maps that two roots name, where they name some
abbrev pub changes_proved : ℕ → List Map → RootWord → RootWord → Range → ℕ → ℕ → Option (List ℕ)
changes_proved w maps from to asked pairs bytes = option_map (changes_proof_of w asked pairs bytes) (both_named w maps from to)

-- why a line is refused whose root names no map
abbrev pub not_held : List ℕ
not_held = codes "not held"
