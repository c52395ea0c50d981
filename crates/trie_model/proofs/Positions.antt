-- Where the items of a list stand: at the key of its node, or below one of its tokens.
use Rattle.std.proofs.Common.{◌≡◌, ℕ, ◌-◌, ◌*◌, ◌/◌, ◌^◌, ◌<◌, Bool, true, List, [], ◌∷◌, ◌++◌, length, map, ◌∙◌, arith, subst, ◌⊎◌, inl, inr}
use Rattle.std.specs.List.{AllByRecursion}
use Rattle.std.proofs.lemmas.List.{length-take-le}
use Rattle.base_model.specs.Member.{Member}
use Rattle.trie_model.specs.Bits.{bits_of, is_prefix, common_prefix, common_prefix_all}
use Rattle.trie_model.specs.Ids.{node_key}
use Rattle.trie_model.specs.Items.{Item, Val, Stub, position, IsItemList}
use Rattle.trie_model.proofs.Prefixes.{is_prefix-itself, is_prefix-through, is_prefix-take, is_prefix-all, is_prefix-common_prefix, is_prefix-common_prefix-left, is_prefix-common_prefix-right, length-is_prefix, length_whole, branches, whole_step}

-- a prefix of all positions is one of their common prefix
pub is_prefix-common_prefix_all : (w : ℕ) (s : List Bool) (i : Item) (is : List Item) → AllByRecursion (λ i. is_prefix s (position w i) ≡ true) (i ∷ is) → is_prefix s (common_prefix_all (map (position w) (i ∷ is))) ≡ true
is_prefix-common_prefix_all w s i [] h = h.0
is_prefix-common_prefix_all w s i (j ∷ is) h = is_prefix-common_prefix s (position w i) (common_prefix_all (map (position w) (j ∷ is))) h.0 (is_prefix-common_prefix_all w s j is h.1)

-- what all positions have in common is a prefix of each
pub common_prefix_all-is_prefix : (w : ℕ) (is : List Item) (i : Item) → Member is i → is_prefix (common_prefix_all (map (position w) is)) (position w i) ≡ true
common_prefix_all-is_prefix w [] i h = absurd h
common_prefix_all-is_prefix w (j ∷ []) i (inl e) = subst (λ i. is_prefix (position w j) (position w i) ≡ true) e (is_prefix-itself (position w j))
common_prefix_all-is_prefix w (j ∷ []) i (inr h) = absurd h
common_prefix_all-is_prefix w (j ∷ l ∷ is) i (inl e) = subst (λ i. is_prefix (common_prefix (position w j) (common_prefix_all (map (position w) (l ∷ is)))) (position w i) ≡ true) e (is_prefix-common_prefix-left (position w j) _)
common_prefix_all-is_prefix w (j ∷ l ∷ is) i (inr h) = let m = common_prefix_all (map (position w) (l ∷ is)) in is_prefix-through (common_prefix (position w j) m) m (position w i) (is_prefix-common_prefix-right (position w j) m) (common_prefix_all-is_prefix w (l ∷ is) i h)

-- the node's key is a prefix of each position
pub node_key-is_prefix : (w : ℕ) (is : List Item) (i : Item) → Member is i → is_prefix (node_key w is) (position w i) ≡ true
node_key-is_prefix w is i h = is_prefix-through (node_key w is) (common_prefix_all (map (position w) is)) (position w i) (is_prefix-take (w * (length (common_prefix_all (map (position w) is)) / w)) (common_prefix_all (map (position w) is))) (common_prefix_all-is_prefix w is i h)

-- a position consists of whole tokens
pub position-whole : (w : ℕ) (is : List Item) (i : Item) → IsItemList w is → Member is i → (n : ℕ) × (length (position w i) ≡ w * n)
position-whole w is (Val k d) v h = v.val_whole k d h
position-whole w is (Stub p x) v h =
    let s = v.stub_whole p x h in
    (s.0, length-take-le (length p - w) p (omega arith) ∙ omega (arith, s.1))

-- an item stands at the node or below one of its tokens
pub stands_at : (w : ℕ) (is : List Item) (i : Item) → 0 < w → IsItemList w is → Member is i → (position w i ≡ node_key w is) ⊎ ((t : ℕ) × (t < 2 ^ w) × (is_prefix (node_key w is ++ bits_of w t) (position w i) ≡ true))
stands_at w is i pos v h =
    let b = node_key-is_prefix w is i h in
    let n = position-whole w is i v h in
    let lk = length_whole w (common_prefix_all (map (position w) is)) pos in
    let m = length-is_prefix (node_key w is) (position w i) b in
    elim (whole_step w (length (common_prefix_all (map (position w) is)) / w) n.0 (omega (arith, m, n.1, lk))) [
      | inl l ↦ inl (is_prefix-all (node_key w is) (position w i) b (omega (arith, l, n.1, lk)))
      | inr l ↦ inr (branches w (node_key w is) (position w i) b (omega (arith, l, n.1, lk)))
    ]
