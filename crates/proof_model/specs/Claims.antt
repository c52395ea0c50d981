-- What a proof is checked as, whatever its form: pairs that are to be all that a map has in a range, and two paths.
-- So a form of proof adds how it is made a claim, and neither items nor refusals of its own.
use Rattle.std.specs.Prelude.{ℕ, Bool, true, false, if◌then◌else◌, List, [], ◌∷◌, ◌++◌, map, Option, Some, None}
use Rattle.std.specs.List.{filter, flat_map}
use Rattle.std.specs.declared.cmp.Ordering.{Ordering}
use Rattle.std.specs.declared.cmp.Ordering.TheVariants.{Less, Equal, Greater}
use Rattle.trie_model.specs.Bits.{bits_of, is_prefix, key_cmp}
use Rattle.trie_model.specs.Items.{Item, Val, Stub, place_of}
use Rattle.trie_model.specs.Maps.{entry_item, long_value}
use Rattle.trie_model.specs.Strings.{strings}
use Rattle.range_model.specs.Ranges.{Range, only, key_place, slot_place, is_inside, is_outside}
use Rattle.proof_model.specs.Paths.{ProofNode}
use Rattle.proof_model.specs.Proofs.{Pair, PointProof}

-- a proof as it is checked. Its entries may be other than its pairs, as changes are
pub record Claim : Type 0 where
  -- the keys of the entries, as they are listed
  pub keys : List (List ℕ)
  -- the range up to where the entries tell, and the pairs that are to stand there
  pub reached : Range
  pub pairs : List Pair
  pub start : List ProofNode
  pub end : List ProofNode
  -- the first entry that changes nothing, where entries are changes
  pub idle : Option ℕ

-- the nodes of both paths
abbrev pub nodes : Claim → List ProofNode
nodes c = c.start ++ c.end

-- ---- items

-- the value of a node, where it shows one; within the range the pairs say what values there are
abbrev pub shown_value : List Bool → Option (List ℕ) → List Item
shown_value k None = []
shown_value k (Some d) = Val k d ∷ []

abbrev pub value_beside : Range → ProofNode → List Item
value_beside r n = if is_inside (key_place r n.key) then [] else shown_value n.key n.digest

-- a slot leads to a node: the key of one of them begins with it
abbrev pub leads_to : List Bool → List ProofNode → Bool
leads_to s [] = false
leads_to s (n ∷ ns) = if is_prefix s n.key then true else leads_to s ns

-- a child as a stub, where its slot lies beside the range and leads to no node of a path
abbrev pub stub_beside : Range → List ProofNode → List Bool → List ℕ → List Item
stub_beside r ns s x = if is_outside (slot_place r s) then (if leads_to s ns then [] else Stub s x ∷ []) else []

abbrev pub stubs_beside : ℕ → Range → List ProofNode → ProofNode → List Item
stubs_beside w r ns n = flat_map (λ (c : ℕ × List ℕ). stub_beside r ns (n.key ++ bits_of w c.0) c.1) n.children

-- what nodes tell of a map beside a range
abbrev pub items_beside : ℕ → Range → List ProofNode → List Item
items_beside w r ns = flat_map (λ (n : ProofNode). value_beside r n ++ stubs_beside w r ns n) ns

-- an item in front of an item, in its place, or behind it, as the two compare
abbrev pub item_beside : Ordering → Item → Item → List Item → List Item → List Item
item_beside Less i j js later = i ∷ j ∷ js
item_beside Equal i j js later = i ∷ js
item_beside Greater i j js later = j ∷ later

-- items in their order and one item more. Of two with one key or slot one stands
abbrev pub with_item : Item → List Item → List Item
with_item i [] = i ∷ []
with_item i (j ∷ js) = item_beside (key_cmp (place_of i) (place_of j)) i j js (with_item i js)

abbrev pub in_order : List Item → List Item
in_order [] = []
in_order (i ∷ is) = with_item i (in_order is)

-- the items of a proof: its pairs, and what the nodes of its paths tell beside the range
unfoldable pub claim_items : ℕ → Claim → List Item
claim_items w c = in_order (map entry_item c.pairs ++ items_beside w c.reached (nodes c))

-- the strings that are hashed for a proof: those of its items, and the values of at least 32 bytes
abbrev pub claim_strings : ℕ → Claim → List (List ℕ)
claim_strings w c = strings w (claim_items w c) ++ map (λ (e : Pair). e.1) (filter long_value c.pairs)

-- ---- points

-- the value at a key as pairs
abbrev pub pair_of : List ℕ → Option (List ℕ) → List Pair
pair_of key None = []
pair_of key (Some value) = (key, value) ∷ []

-- a point proof is checked as one of the range from its key to its key, with the path given once
abbrev pub point_claim : List ℕ → PointProof → Claim
point_claim key p = record {
  keys = map (λ (e : Pair). e.0) (pair_of key p.value);
  reached = only key;
  pairs = pair_of key p.value;
  start = p.path;
  end = [];
  idle = None;
}
