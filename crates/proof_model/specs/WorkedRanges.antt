-- Worked range proofs: the bytes of some, with SHA-256 left as a symbol, and some that are refused.
-- Bytes are in hexadecimal: version and kind, 00 or 01 for a list that is cut, the number of pairs, each pair as key and
-- value with their lengths in front, and the two paths, as those of points are spelled.
use Rattle.std.specs.Prelude.{◌≡◌, ℕ, false, List, [], ◌∷◌, ◌++◌, Option, Some, Err}
use Rattle.std.specs.FinMap as map_of
use Rattle.trie_model.specs.Maps.{Map, limits}
use Rattle.trie_model.specs.Worked.{leaf_hash}
use Rattle.range_model.specs.Ranges.{Range, everything, only}
use Rattle.proof_model.specs.Proofs.{Pair}
use Rattle.proof_model.specs.Refusals.{Refusal, Unsorted, Outside, RootDiffers, same_bytes}
use Rattle.proof_model.specs.Wire.{Flag, wrong}
use Rattle.proof_model.specs.RangeProofs.{RangeProof, range_proof, range_refusal}
use Rattle.proof_model.specs.RangeWire.{range_form, range_of}

-- two keys with one front
abbrev pub near_keys : Map
near_keys = map_of.from_sorted ((0x0a ∷ [], 0x61 ∷ []) ∷ (0x0b ∷ [], 0x62 ∷ []) ∷ [])

-- the bytes of a range proof of them, for tokens of four bits, ten pairs and so many bytes
abbrev pub shown_range : Range → ℕ → List ℕ
shown_range r z = range_form (range_proof 4 near_keys r 10 z)

-- the path of 0a, and of keys that it begins: the node with both keys below it, and that of 0a
abbrev pub shown_path : List ℕ
shown_path =
    (0x02 ∷ 0x04 ∷ 0x00 ∷ 0x00 ∷ 0x02 ∷ 0x0a ∷ leaf_hash 0x0a 0x61) ++ (0x0b ∷ leaf_hash 0x0b 0x62)
    ++ (0x08 ∷ 0x0a ∷ 0x01 ∷ 0x01 ∷ 0x61 ∷ 0x00 ∷ [])

-- a range without bounds has no paths
abbrev pub UnboundedRange : Type 0
UnboundedRange = shown_range everything 100 ≡ 0x01 ∷ 0x01 ∷ 0x00 ∷ 0x02 ∷ 0x01 ∷ 0x0a ∷ 0x01 ∷ 0x61 ∷ 0x01 ∷ 0x0b ∷ 0x01 ∷ 0x62 ∷ 0x00 ∷ 0x00 ∷ []

-- the range from 0a to 0a has one pair, and twice one path
abbrev pub OneKeyRange : Type 0
OneKeyRange = shown_range (only (0x0a ∷ [])) 100 ≡ (0x01 ∷ 0x01 ∷ 0x00 ∷ 0x01 ∷ 0x01 ∷ 0x0a ∷ 0x01 ∷ 0x61 ∷ []) ++ shown_path ++ shown_path

-- a range between both keys has no pair
abbrev pub gap : Range
gap = record { start = Some (0x0a ∷ 0x01 ∷ []); end = Some (0x0a ∷ 0x02 ∷ []) }

abbrev pub GapRange : Type 0
GapRange = shown_range gap 100 ≡ (0x01 ∷ 0x01 ∷ 0x00 ∷ 0x00 ∷ []) ++ shown_path ++ shown_path

-- where one byte is allowed, one pair is listed all the same; the list is cut, and has a path to where it reaches
abbrev pub CutRange : Type 0
CutRange = shown_range everything 1 ≡ (0x01 ∷ 0x01 ∷ 0x01 ∷ 0x01 ∷ 0x01 ∷ 0x0a ∷ 0x01 ∷ 0x61 ∷ 0x00 ∷ []) ++ shown_path

-- ---- refusals

-- pairs without paths
abbrev pub bare : List Pair → RangeProof
bare es = record { cut = false; pairs = es; start = []; end = [] }

-- why pairs without paths are refused
abbrev pub bare_refusal : Range → List ℕ → List Pair → Option Refusal
bare_refusal asked want es = range_refusal 4 asked want (bare es)

-- the two pairs in the other order
abbrev pub SwappedIsRefused : Type 0
SwappedIsRefused = (want : List ℕ) → bare_refusal everything want ((0x0b ∷ [], 0x62 ∷ []) ∷ (0x0a ∷ [], 0x61 ∷ []) ∷ []) ≡ Some (Unsorted 1)

-- a pair that was not asked for
abbrev pub OutsideIsRefused : Type 0
OutsideIsRefused = (want : List ℕ) → bare_refusal (only (0x0a ∷ [])) want ((0x0a ∷ [], 0x61 ∷ []) ∷ (0x0b ∷ [], 0x62 ∷ []) ∷ []) ≡ Some (Outside 1)

-- a pair that is left out, where the root that is wanted is not that of the other one
abbrev pub LeftOutIsRefused : Type 0
LeftOutIsRefused =
    (want : List ℕ) → same_bytes (leaf_hash 0x0a 0x61) want ≡ false
    → bare_refusal everything want ((0x0a ∷ [], 0x61 ∷ []) ∷ []) ≡ Some (RootDiffers (leaf_hash 0x0a 0x61) want)

-- a flag above 1
abbrev pub BadFlagIsTold : Type 0
BadFlagIsTold = range_of limits 4 (0x01 ∷ 0x01 ∷ 0x02 ∷ []) ≡ Err (wrong Flag 2)
