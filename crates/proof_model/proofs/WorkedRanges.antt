-- The worked range proofs, by computing.
use Rattle.std.proofs.Common.{◌≡◌, ℕ, List, [], ◌∷◌, ◌++◌, map, false, Option, Some, None, refl, ap, ◌∙◌}
use Rattle.std.specs.List.{filter}
use Rattle.std.specs.FinMap.{from_sorted, entries-from_sorted, entries, is_sorted}
use Rattle.std.specs.Prelude.{T}
use Rattle.base_model.specs.Bytes.{bytes_cmp}
use Rattle.base_model.specs.Fields.{bytes_at, flag_at}
use Rattle.base_model.specs.Uvarint.{uvarint}
use Rattle.trie_model.specs.Bits.{bits_of_bytes}
use Rattle.trie_model.specs.Hashing.{hashed_string, value_digest}
use Rattle.trie_model.specs.Ids.{id, id_within, children}
use Rattle.trie_model.specs.Maps.{Map, entry_item}
use Rattle.trie_model.specs.Table.{items_table, node_keys, table_node}
use Rattle.trie_model.specs.Worked.{leaf_hash}
use Rattle.range_model.specs.Ranges.{Range, everything, only, holds}
use Rattle.proof_model.specs.Claims.{claim_items}
use Rattle.proof_model.specs.Paths.{ProofNode, shown_row, path_rows}
use Rattle.proof_model.specs.Proofs.{Pair, pair_size}
use Rattle.proof_model.specs.RangeProofs.{RangeProof, pairs_in, reached_range, range_proof}
use Rattle.proof_model.specs.RangeWire.{range_form, range_of}
use Rattle.proof_model.specs.Refusals.{RootDiffers, same_bytes, refusal, path_refusal, root_refusal}
use Rattle.proof_model.specs.TakenEntries.{taken, is_cut}
use Rattle.proof_model.specs.TrueClaims.{path_to}
use Rattle.proof_model.specs.Wire.{path_form, byte_at, head_at}
use Rattle.proof_model.specs.WorkedRanges.{shown_path, gap, UnboundedRange, OneKeyRange, GapRange, CutRange, SwappedIsRefused, OutsideIsRefused, LeftOutIsRefused, BadFlagIsTold}
use Rattle.proof_model.proofs.WorkedPoints.{two_children_then}

-- ---- range proofs of sorted pairs
plain_path : ℕ → List Pair → Option (List ℕ) → List ProofNode
plain_path w es None = []
plain_path w es (Some key) = map shown_row (path_rows w (bits_of_bytes key) (items_table w (map entry_item es)))

plain_pairs : List Pair → Range → List Pair
plain_pairs es r = filter (λ (e : Pair). holds r e.0) es

plain_range : ℕ → List Pair → Range → ℕ → ℕ → RangeProof
plain_range w es r n z = record {
  cut = is_cut pair_size n z (plain_pairs es r);
  pairs = taken pair_size n z (plain_pairs es r);
  start = plain_path w es r.start;
  end = plain_path w es (reached_range r (is_cut pair_size n z (plain_pairs es r)) (taken pair_size n z (plain_pairs es r))).end;
}

path-entries : (w : ℕ) (m : Map) (o : Option (List ℕ)) → path_to w m o ≡ plain_path w (entries m) o
unfolding plain_path
path-entries w m None = refl
path-entries w m (Some key) = refl

range-entries : (w : ℕ) (m : Map) (r : Range) (n z : ℕ) → range_proof w m r n z ≡ plain_range w (entries m) r n z
unfolding plain_range plain_pairs
range-entries w m r n z = λ i. record {
  cut = is_cut pair_size n z (pairs_in m r);
  pairs = taken pair_size n z (pairs_in m r);
  start = path-entries w m r.start i;
  end = path-entries w m (reached_range r (is_cut pair_size n z (pairs_in m r)) (taken pair_size n z (pairs_in m r))).end i;
}

-- the range proof of a map of sorted pairs is that of the pairs
range-from_sorted : (w : ℕ) (es : List Pair) (r : Range) (n z : ℕ) → T (is_sorted bytes_cmp es) → range_proof w (from_sorted es) r n z ≡ plain_range w es r n z
range-from_sorted w es r n z h = range-entries w (from_sorted es) r n z ∙ ap (λ es. plain_range w es r n z) (entries-from_sorted bytes_cmp es h)

-- ---- bytes
near_pairs : List Pair
near_pairs = (0x0a ∷ [], 0x61 ∷ []) ∷ (0x0b ∷ [], 0x62 ∷ []) ∷ []

-- the path of 0a
near_path : path_form (plain_path 4 near_pairs (Some (0x0a ∷ []))) ≡ shown_path
unfolding near_pairs plain_path path_rows items_table node_keys table_node id id_within children uvarint hashed_string value_digest
near_path = two_children_then 0x0a 0x0b (leaf_hash 0x0a 0x61) (leaf_hash 0x0b 0x62) (0x02 ∷ 0x04 ∷ 0x00 ∷ 0x00 ∷ 0x02 ∷ []) (0x08 ∷ 0x0a ∷ 0x01 ∷ 0x01 ∷ 0x61 ∷ 0x00 ∷ [])

-- it is that of keys which 0a begins
gap_start : plain_path 4 near_pairs (Some (0x0a ∷ 0x01 ∷ [])) ≡ plain_path 4 near_pairs (Some (0x0a ∷ []))
unfolding near_pairs plain_path path_rows items_table node_keys table_node id id_within children uvarint hashed_string value_digest
gap_start = refl

gap_end : plain_path 4 near_pairs (Some (0x0a ∷ 0x02 ∷ [])) ≡ plain_path 4 near_pairs (Some (0x0a ∷ []))
unfolding near_pairs plain_path path_rows items_table node_keys table_node id id_within children uvarint hashed_string value_digest
gap_end = refl

-- two paths behind a front
both_paths : (front : List ℕ) (s e : List ProofNode) → path_form s ≡ shown_path → path_form e ≡ shown_path → front ++ (path_form s ++ path_form e) ≡ front ++ (shown_path ++ shown_path)
both_paths front s e p q = ap (λ x. front ++ (x ++ path_form e)) p ∙ ap (λ x. front ++ (shown_path ++ x)) q

pub unbounded_range : UnboundedRange
unfolding near_pairs plain_range plain_pairs plain_path taken uvarint
unbounded_range = ap range_form (range-from_sorted 4 near_pairs everything 10 100 tt)

pub one_key_range : OneKeyRange
unfolding near_pairs plain_range plain_pairs taken uvarint
one_key_range =
    ap range_form (range-from_sorted 4 near_pairs (only (0x0a ∷ [])) 10 100 tt)
    ∙ both_paths (0x01 ∷ 0x01 ∷ 0x00 ∷ 0x01 ∷ 0x01 ∷ 0x0a ∷ 0x01 ∷ 0x61 ∷ []) (plain_path 4 near_pairs (Some (0x0a ∷ []))) (plain_path 4 near_pairs (Some (0x0a ∷ []))) near_path near_path

pub gap_range : GapRange
unfolding near_pairs plain_range plain_pairs taken uvarint
gap_range =
    ap range_form (range-from_sorted 4 near_pairs gap 10 100 tt)
    ∙ both_paths (0x01 ∷ 0x01 ∷ 0x00 ∷ 0x00 ∷ []) (plain_path 4 near_pairs (Some (0x0a ∷ 0x01 ∷ []))) (plain_path 4 near_pairs (Some (0x0a ∷ 0x02 ∷ []))) (ap path_form gap_start ∙ near_path) (ap path_form gap_end ∙ near_path)

pub cut_range : CutRange
unfolding near_pairs plain_range plain_pairs plain_path taken uvarint
cut_range =
    ap range_form (range-from_sorted 4 near_pairs everything 10 1 tt)
    ∙ ap (λ x. 0x01 ∷ 0x01 ∷ 0x01 ∷ 0x01 ∷ 0x01 ∷ 0x0a ∷ 0x01 ∷ 0x61 ∷ 0x00 ∷ x) near_path

-- ---- refusals
pub swapped_is_refused : SwappedIsRefused
unfolding refusal
swapped_is_refused want = refl

pub outside_is_refused : OutsideIsRefused
unfolding refusal
outside_is_refused want = refl

-- another ID than the root is told with it
differs : (have want : List ℕ) → same_bytes have want ≡ false → root_refusal have want ≡ Some (RootDiffers have want)
differs have want h = rw h refl

pub left_out_is_refused : LeftOutIsRefused
unfolding refusal path_refusal claim_items id id_within children uvarint hashed_string value_digest
left_out_is_refused want h = differs (leaf_hash 0x0a 0x61) want h

pub bad_flag_is_told : BadFlagIsTold
unfolding range_of head_at byte_at bytes_at flag_at
bad_flag_is_told = refl
