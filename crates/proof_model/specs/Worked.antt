-- Worked proofs: the bytes of some point proofs, with SHA-256 left as a symbol, and one proof that is refused.
-- Bytes are in hexadecimal: version and kind, 00 or 01 and the value with its length in front, the number of nodes,
-- and each node as its key's length in bits, the key, 00 or 01 and the digest with its length, the number of children,
-- and each child as index and ID.
use Rattle.std.specs.Prelude.{◌≡◌, ℕ, List, [], ◌∷◌, ◌++◌, Some, None}
use Rattle.std.specs.FinMap as map_of
use Rattle.sha2.specs.Sha256.{sha256}
use Rattle.trie_model.specs.Maps.{Map, root}
use Rattle.trie_model.specs.Worked.{leaf_hash, one_key, two_keys}
use Rattle.proof_model.specs.Proofs.{PointProof, point_proof}
use Rattle.proof_model.specs.Refusals.{PathOrder, point_refusal}
use Rattle.proof_model.specs.Wire.{point_form}

-- the bytes of a point proof, with tokens of four bits
abbrev pub shown : Map → List ℕ → List ℕ
shown m key = point_form (point_proof 4 m key)

-- a value that is there, and none beside it: the root node is shown although it is not on the way
abbrev pub OneKeyPoints : Type 0
OneKeyPoints =
    (shown (one_key (0x76 ∷ [])) (0x6b ∷ []) ≡ 0x01 ∷ 0x04 ∷ 0x01 ∷ 0x01 ∷ 0x76 ∷ 0x01 ∷ 0x08 ∷ 0x6b ∷ 0x01 ∷ 0x01 ∷ 0x76 ∷ 0x00 ∷ [])
    × (shown (one_key (0x76 ∷ [])) (0x6c ∷ []) ≡ 0x01 ∷ 0x04 ∷ 0x00 ∷ 0x01 ∷ 0x08 ∷ 0x6b ∷ 0x01 ∷ 0x01 ∷ 0x76 ∷ 0x00 ∷ [])

-- no value at 14, behind the first four bits of 12 and 13
abbrev pub TwoKeyPoint : Type 0
TwoKeyPoint = shown two_keys (0x14 ∷ []) ≡ (0x01 ∷ 0x04 ∷ 0x00 ∷ 0x01 ∷ 0x04 ∷ 0x10 ∷ 0x00 ∷ 0x02 ∷ 0x02 ∷ leaf_hash 0x12 0x61) ++ (0x03 ∷ leaf_hash 0x13 0x62)

-- two keys that differ in their first bits
abbrev pub apart : Map
apart = map_of.from_sorted ((0x12 ∷ 0x34 ∷ [], 0x61 ∷ []) ∷ (0x50 ∷ [], 0x62 ∷ []) ∷ [])

-- the hashes of their nodes
abbrev pub long_hash : List ℕ
long_hash = sha256 (0x00 ∷ 0x01 ∷ 0x01 ∷ 0x61 ∷ 0x10 ∷ 0x12 ∷ 0x34 ∷ [])

-- no value at 12 ff: the root is on the way, and 12 34 is its child in the slot where the key lies
abbrev pub ChildPoint : Type 0
ChildPoint =
    shown apart (0x12 ∷ 0xff ∷ [])
    ≡ (0x01 ∷ 0x04 ∷ 0x00 ∷ 0x02 ∷ 0x00 ∷ 0x00 ∷ 0x02 ∷ 0x01 ∷ long_hash) ++ (0x05 ∷ leaf_hash 0x50 0x62)
    ++ (0x10 ∷ 0x12 ∷ 0x34 ∷ 0x01 ∷ 0x01 ∷ 0x61 ∷ 0x00 ∷ [])

-- a proof whose nodes are shown twice
abbrev pub doubled : PointProof → PointProof
doubled p = record { value = p.value; path = p.path ++ p.path }

-- it is refused at the second of them
abbrev pub DoubledIsRefused : Type 0
DoubledIsRefused = (want : List ℕ) → point_refusal 4 (0x6b ∷ []) want (doubled (point_proof 4 (one_key (0x76 ∷ [])) (0x6b ∷ []))) ≡ Some (PathOrder 1)

-- the proofs of the one key are accepted against its root
abbrev pub OneKeyIsAccepted : Type 0
OneKeyIsAccepted =
    (point_refusal 4 (0x6b ∷ []) (root 4 (one_key (0x76 ∷ []))) (point_proof 4 (one_key (0x76 ∷ [])) (0x6b ∷ [])) ≡ None)
    × (point_refusal 4 (0x6c ∷ []) (root 4 (one_key (0x76 ∷ []))) (point_proof 4 (one_key (0x76 ∷ [])) (0x6c ∷ [])) ≡ None)
