-- The worked proofs, by computing.
use Rattle.std.proofs.Common.{◌≡◌, ℕ, List, [], ◌∷◌, ◌++◌, map, true, Option, None, refl, ap, ◌∙◌, append_assoc}
use Rattle.std.proofs.lemmas.List.{append-nil}
use Rattle.std.specs.FinMap.{from_sorted, entries-from_sorted, find, entries, get-from_sorted, is_sorted}
use Rattle.std.specs.Prelude.{T}
use Rattle.base_model.specs.Bytes.{bytes_cmp}
use Rattle.base_model.specs.Uvarint.{uvarint}
use Rattle.trie_model.specs.Bits.{bits_of_bytes}
use Rattle.trie_model.specs.Hashing.{hashed_string, value_digest}
use Rattle.trie_model.specs.Ids.{id, id_within, children}
use Rattle.trie_model.specs.Maps.{entry_item}
use Rattle.trie_model.specs.Table.{items_table, node_keys, table_node}
use Rattle.proof_model.specs.Paths.{shown_row, path_rows}
use Rattle.proof_model.specs.Proofs.{PointProof, point_proof}
use Rattle.proof_model.specs.Wire.{point_form}
use Rattle.trie_model.specs.Maps.{root}
use Rattle.trie_model.specs.Worked.{leaf_hash, one_key}
use Rattle.std.specs.Cmp.{tied_itself}
use Rattle.std.specs.Ordering.{is_eq}
use Rattle.std.proofs.lemmas.Cmp.{nat_list_cmp_total}
use Rattle.range_model.specs.Ranges.{key_place}
use Rattle.proof_model.specs.Claims.{claim_items}
use Rattle.proof_model.specs.Refusals.{same_bytes, refusal, path_refusal, root_refusal, point_refusal}
use Rattle.proof_model.specs.Worked.{OneKeyPoints, TwoKeyPoint, ChildPoint, DoubledIsRefused, OneKeyIsAccepted, long_hash, doubled}

-- the point proof of sorted pairs
plain_point : ℕ → List (List ℕ × List ℕ) → List ℕ → PointProof
plain_point w es key = record { value = find bytes_cmp key es; path = map shown_row (path_rows w (bits_of_bytes key) (items_table w (map entry_item es))) }

-- is that of their map
point-from_sorted : (w : ℕ) (es : List (List ℕ × List ℕ)) (key : List ℕ) → T (is_sorted bytes_cmp es) → point_proof w (from_sorted es) key ≡ plain_point w es key
unfolding plain_point
point-from_sorted w es key h =
    ap (λ v. shape v (entries {R = bytes_cmp} (from_sorted es))) (get-from_sorted bytes_cmp es key h) ∙ ap (shape (find bytes_cmp key es)) (entries-from_sorted bytes_cmp es h)
  where
    shape : Option (List ℕ) → List (List ℕ × List ℕ) → PointProof
    shape v es = record { value = v; path = map shown_row (path_rows w (bits_of_bytes key) (items_table w (map entry_item es))) }

-- one key
pub one_key_points : OneKeyPoints
unfolding plain_point path_rows items_table node_keys table_node id id_within children uvarint hashed_string value_digest
one_key_points = (
  ap point_form (point-from_sorted 4 ((0x6b ∷ [], 0x76 ∷ []) ∷ []) (0x6b ∷ []) tt),
  ap point_form (point-from_sorted 4 ((0x6b ∷ [], 0x76 ∷ []) ∷ []) (0x6c ∷ []) tt),
)

-- a node with two children, alone in its path
two_children : (a b : ℕ) (x y front : List ℕ) → front ++ a ∷ ((x ++ b ∷ (y ++ [])) ++ []) ≡ (front ++ a ∷ x) ++ (b ∷ y)
two_children a b x y front = simp (append_assoc, append-nil)

-- the same, with another node behind it
pub two_children_then : (a b : ℕ) (x y front rest : List ℕ) → front ++ a ∷ ((x ++ b ∷ (y ++ [])) ++ rest) ≡ (front ++ a ∷ x) ++ (b ∷ y) ++ rest
two_children_then a b x y front rest = simp (append_assoc, append-nil)

-- two keys with one front
pub two_key_point : TwoKeyPoint
unfolding plain_point path_rows items_table node_keys table_node id id_within children uvarint hashed_string value_digest
two_key_point =
    ap point_form (point-from_sorted 4 ((0x12 ∷ [], 0x61 ∷ []) ∷ (0x13 ∷ [], 0x62 ∷ []) ∷ []) (0x14 ∷ []) tt)
    ∙ two_children 0x02 0x03 (leaf_hash 0x12 0x61) (leaf_hash 0x13 0x62) (0x01 ∷ 0x04 ∷ 0x00 ∷ 0x01 ∷ 0x04 ∷ 0x10 ∷ 0x00 ∷ 0x02 ∷ [])

-- a child in the key's slot
pub child_point : ChildPoint
unfolding plain_point path_rows items_table node_keys table_node id id_within children uvarint hashed_string value_digest
child_point =
    ap point_form (point-from_sorted 4 ((0x12 ∷ 0x34 ∷ [], 0x61 ∷ []) ∷ (0x50 ∷ [], 0x62 ∷ []) ∷ []) (0x12 ∷ 0xff ∷ []) tt)
    ∙ two_children_then 0x01 0x05 long_hash (leaf_hash 0x50 0x62) (0x01 ∷ 0x04 ∷ 0x00 ∷ 0x02 ∷ 0x00 ∷ 0x00 ∷ 0x02 ∷ []) (0x10 ∷ 0x12 ∷ 0x34 ∷ 0x01 ∷ 0x01 ∷ 0x61 ∷ 0x00 ∷ [])

-- the pair of the one key
one_pair : List (List ℕ × List ℕ)
one_pair = (0x6b ∷ [], 0x76 ∷ []) ∷ []

-- bytes test the same as themselves
same-itself : (x : List ℕ) → same_bytes x x ≡ true
same-itself x = ap is_eq (tied_itself nat_list_cmp_total x)

-- the root of the one key
one_root : root 4 (one_key (0x76 ∷ [])) ≡ id 4 (map entry_item one_pair)
unfolding one_pair
one_root = ap (λ es. id 4 (map entry_item es)) (entries-from_sorted bytes_cmp one_pair tt)

-- nodes that are shown twice
pub doubled_is_refused : DoubledIsRefused
unfolding plain_point one_pair path_rows items_table node_keys table_node id id_within children uvarint hashed_string value_digest refusal path_refusal
doubled_is_refused want = ap (λ p. point_refusal 4 (0x6b ∷ []) want (doubled p)) (point-from_sorted 4 one_pair (0x6b ∷ []) tt)

-- a proof of the one key, against its root
accepted : (key : List ℕ) → point_refusal 4 key (id 4 (map entry_item one_pair)) (plain_point 4 one_pair key) ≡ root_refusal (id 4 (map entry_item one_pair)) (id 4 (map entry_item one_pair)) → point_refusal 4 key (root 4 (one_key (0x76 ∷ []))) (point_proof 4 (one_key (0x76 ∷ [])) key) ≡ None
unfolding one_pair
accepted key e =
    ap (λ r. point_refusal 4 key r (point_proof 4 (one_key (0x76 ∷ [])) key)) one_root
    ∙ ap (point_refusal 4 key (id 4 (map entry_item one_pair))) (point-from_sorted 4 one_pair key tt)
    ∙ e ∙ rw (same-itself (id 4 (map entry_item one_pair))) refl

pub one_key_is_accepted : OneKeyIsAccepted
unfolding plain_point one_pair path_rows items_table node_keys table_node refusal path_refusal claim_items key_place value_digest
one_key_is_accepted = (accepted (0x6b ∷ []) refl, accepted (0x6c ∷ []) refl)
