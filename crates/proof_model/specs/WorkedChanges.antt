-- Worked change proofs: the bytes of some, and some that are refused.
-- Bytes are in hexadecimal: version and kind, 00 or 01 for a list that is cut, the number of changes, each change as its key
-- with its length in front, and 00 for a deletion or 01 and the value with its length, and the two paths.
use Rattle.std.specs.Prelude.{◌≡◌, ℕ, false, List, [], ◌∷◌, Option, Some, None}
use Rattle.trie_model.specs.Maps.{Map}
use Rattle.range_model.specs.Ranges.{everything, only}
use Rattle.batch_model.specs.Batch.{Change}
use Rattle.history_model.specs.Worked.{first, third}
use Rattle.proof_model.specs.ChangeProofs.{ChangeProof, change_proof, change_refusal, is_idle}
use Rattle.proof_model.specs.ChangeWire.{changes_form}
use Rattle.proof_model.specs.Refusals.{Refusal, Unsorted, Outside, Idle}

-- the bytes of the change proof of two maps, for all keys, tokens of four bits, ten changes and 100 bytes
abbrev pub shown_changes : Map → Map → List ℕ
shown_changes m1 m2 = changes_form (change_proof 4 m1 m2 everything 10 100)

-- a key more
abbrev pub OneChange : Type 0
OneChange = shown_changes first third ≡ 0x01 ∷ 0x02 ∷ 0x00 ∷ 0x01 ∷ 0x01 ∷ 0x0b ∷ 0x01 ∷ 0x01 ∷ 0x63 ∷ 0x00 ∷ 0x00 ∷ []

-- from a map to itself nothing changes
abbrev pub NoChange : Type 0
NoChange = (m : Map) → shown_changes m m ≡ 0x01 ∷ 0x02 ∷ 0x00 ∷ 0x00 ∷ 0x00 ∷ 0x00 ∷ []

-- ---- refusals

-- changes without paths
abbrev pub bare_changes : List Change → ChangeProof
bare_changes cs = record { cut = false; changes = cs; start = []; end = [] }

-- why such are refused for all keys, against the map of 0a alone
abbrev pub bare_reason : List ℕ → List Change → Option Refusal
bare_reason want cs = change_refusal 4 everything first want (bare_changes cs)

abbrev pub put_a : List ℕ → Change
put_a value = record { key = 0x0a ∷ []; value = Some value }

abbrev pub delete : List ℕ → Change
delete key = record { key = key; value = None }

-- a put of the value that is there, and a deletion of a key that is not there, change nothing. A deletion of one that is
-- there does
abbrev pub IdleIsRefused : Type 0
IdleIsRefused =
    ((want : List ℕ) → bare_reason want (put_a (0x61 ∷ []) ∷ []) ≡ Some (Idle 0))
    × ((want : List ℕ) → bare_reason want (put_a (0x62 ∷ []) ∷ delete (0x0b ∷ []) ∷ []) ≡ Some (Idle 1))
    × (is_idle first (delete (0x0a ∷ [])) ≡ false)

-- two changes of one key, whatever they say
abbrev pub TwiceIsRefused : Type 0
TwiceIsRefused = (want : List ℕ) (local : Map) → change_refusal 4 everything local want (bare_changes (put_a (0x62 ∷ []) ∷ put_a (0x63 ∷ []) ∷ [])) ≡ Some (Unsorted 1)

-- a change that was not asked for
abbrev pub BesideIsRefused : Type 0
BesideIsRefused = (want : List ℕ) (local : Map) → change_refusal 4 (only (0x0b ∷ [])) local want (bare_changes (delete (0x0a ∷ []) ∷ [])) ≡ Some (Outside 0)
