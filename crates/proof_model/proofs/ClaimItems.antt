-- The items of a proof: what each of them is told by, and that they are a valid list.
use Rattle.std.proofs.Common.{◌≡◌, ℕ, ◌+◌, ◌*◌, ◌/◌, ◌%◌, ◌<◌, Bool, true, false, cond, List, [], ◌∷◌, ◌++◌, length, map, refl, sym, ap, ◌∙◌, arith, subst, length-append, ◌⊎◌, inl, inr, Option, Some, None}
use Rattle.std.specs.List.{AllByRecursion}
use Rattle.base_model.specs.Member.{Member}
use Rattle.base_model.proofs.Bits.{length-bits_of}
use Rattle.base_model.proofs.PackedBits.{length-bits_of_bytes}
use Rattle.std.proofs.Math.Nat.{mul_assoc}
use Rattle.trie_model.specs.Bits.{bits_of, bits_of_bytes, is_prefix, IsWidth}
use Rattle.trie_model.specs.Items.{Item, Val, Stub, place_of, IsWholeItem, IsValid}
use Rattle.trie_model.specs.Maps.{Limits, entry_item}
use Rattle.trie_model.proofs.KeyOrder.{bytes-injective}
use Rattle.trie_model.proofs.KeySets.{All-of, Member-append-of, Member-map-in, Member-map-of, Member-flat-of}
use Rattle.trie_model.proofs.Lists.{All-member, Member-append-left}
use Rattle.trie_model.proofs.Prefixes.{is_prefix-itself, is_prefix-append, is_prefix-all, length-is_prefix, take-is_prefix, prefix_of_take, whole_step}
use Rattle.range_model.specs.Laws.{Says, SlotsLieAsTheirKeys, BytesLieAsTheirBits}
use Rattle.range_model.specs.Ranges.{Range, Place, Before, Inside, After, Straddles, IsRange, key_place, slot_place, is_inside, is_outside}
use Rattle.proof_model.specs.Paths.{ProofNode, IsProofNode, IsChild}
use Rattle.proof_model.specs.Proofs.{Pair}
use Rattle.proof_model.specs.Claims.{shown_value, value_beside, leads_to, stub_beside, stubs_beside, items_beside, in_order, nodes, claim_items}
use Rattle.proof_model.specs.SoundProofs.{LiesIn, AreSorted, ClaimItemsAreValid}
use Rattle.proof_model.proofs.ItemOrder.{in_order-of, in_order-in, in_order-IsOrdered}
use Rattle.proof_model.proofs.SortedPairs.{one_pair}

-- ---- what tells an item

-- the items of a proof before they are put in order
abbrev pub told_items : ℕ → Range → List Pair → List ProofNode → List Item
told_items w r es ns = map entry_item es ++ items_beside w r ns

-- one of them is the item of a pair, the value of a node beside the range, or a child beside it that leads to no node
pub data Told (w : ℕ) (r : Range) (es : List Pair) (ns : List ProofNode) (i : Item) : Type 0 where
  by_pair : (e : Pair) → Member es e → entry_item e ≡ i → Told w r es ns i
  by_value : (n : ProofNode) (d : List ℕ) → Member ns n → is_inside (key_place r n.key) ≡ false → n.digest ≡ Some d → Val n.key d ≡ i → Told w r es ns i
  by_child : (n : ProofNode) (c : ℕ × List ℕ) → Member ns n → Member n.children c → is_outside (slot_place r (n.key ++ bits_of w c.0)) ≡ true → leads_to (n.key ++ bits_of w c.0) ns ≡ false → Stub (n.key ++ bits_of w c.0) c.1 ≡ i → Told w r es ns i

-- the value that a node tells
value_beside-of : (r : Range) (n : ProofNode) (i : Item) → Member (value_beside r n) i → (is_inside (key_place r n.key) ≡ false) × ((d : List ℕ) × (n.digest ≡ Some d) × (Val n.key d ≡ i))
value_beside-of r n i m = go (is_inside (key_place r n.key)) refl n.digest refl m
  where
    go : (b : Bool) → is_inside (key_place r n.key) ≡ b → (o : Option (List ℕ)) → n.digest ≡ o → Member (cond b [] (shown_value n.key o)) i → (is_inside (key_place r n.key) ≡ false) × ((d : List ℕ) × (n.digest ≡ Some d) × (Val n.key d ≡ i))
    go true e o g m = absurd m
    go false e None g m = absurd m
    go false e (Some d) g (inl p) = (e, (d, g, p))
    go false e (Some d) g (inr m) = absurd m

-- the stub that a child is told as
stub_beside-of : (r : Range) (ns : List ProofNode) (s : List Bool) (x : List ℕ) (i : Item) → Member (stub_beside r ns s x) i → (is_outside (slot_place r s) ≡ true) × (leads_to s ns ≡ false) × (Stub s x ≡ i)
stub_beside-of r ns s x i m = go (is_outside (slot_place r s)) refl (leads_to s ns) refl m
  where
    go : (a : Bool) → is_outside (slot_place r s) ≡ a → (b : Bool) → leads_to s ns ≡ b → Member (cond a (cond b [] (Stub s x ∷ [])) []) i → (is_outside (slot_place r s) ≡ true) × (leads_to s ns ≡ false) × (Stub s x ≡ i)
    go false e b f m = absurd m
    go true e true f m = absurd m
    go true e false f (inl p) = (e, f, p)
    go true e false f (inr m) = absurd m

-- each item is told by one of these
pub told : (w : ℕ) (r : Range) (es : List Pair) (ns : List ProofNode) (i : Item) → Member (told_items w r es ns) i → Told w r es ns i
told w r es ns i m = elim (Member-append-of (map entry_item es) (items_beside w r ns) i m) [
  | inl n ↦ let x = Member-map-of entry_item es i n in by_pair x.0 x.1 x.2
  | inr n ↦
      let x = Member-flat-of (λ (n : ProofNode). value_beside r n ++ stubs_beside w r ns n) ns i n in
      beside x.0 x.1 (Member-append-of (value_beside r x.0) (stubs_beside w r ns x.0) i x.2)
]
  where
    beside : (n : ProofNode) → Member ns n → Member (value_beside r n) i ⊎ Member (stubs_beside w r ns n) i → Told w r es ns i
    beside n m (inl v) = let x = value_beside-of r n i v in by_value n x.1.0 m x.0 x.1.1 x.1.2
    beside n m (inr s) =
        let x = Member-flat-of (λ (c : ℕ × List ℕ). stub_beside r ns (n.key ++ bits_of w c.0) c.1) n.children i s in
        let y = stub_beside-of r ns (n.key ++ bits_of w x.0.0) x.0.1 i x.2 in by_child n x.0 m x.1 y.0 y.1 y.2

-- ---- slots

-- a slot that lies outside has all its keys outside
pub all_outside : (r : Range) (s k : List Bool) (p : Place) → is_outside p ≡ true → Says r s p → is_prefix s k ≡ true → is_inside (key_place r k) ≡ false
all_outside r s k Before o h b = ap is_inside (h k b)
all_outside r s k After o h b = ap is_inside (h k b)
all_outside r s k Inside o h b = absurd (cc)
all_outside r s k Straddles o h b = absurd (cc)

-- a slot begins the key of no node, where it leads to none
pub leads_to_none : (s : List Bool) (ns : List ProofNode) (n : ProofNode) → Member ns n → leads_to s ns ≡ false → is_prefix s n.key ≡ true → ⊥
leads_to_none s [] n m f b = m
leads_to_none s (x ∷ ns) n m f b = go (is_prefix s x.key) refl (λ m f. leads_to_none s ns n m f b) m f
  where
    go : (c : Bool) → is_prefix s x.key ≡ c → (Member ns n → leads_to s ns ≡ false → ⊥) → (x ≡ n) ⊎ Member ns n → cond c true (leads_to s ns) ≡ false → ⊥
    go true e ih m f = cc
    go false e ih (inl p) f = let g : is_prefix s x.key ≡ true = subst (λ n. is_prefix s n.key ≡ true) (sym p) b in cc
    go false e ih (inr m) f = ih m f

-- whole tokens, by their remainder
whole_key : (w n : ℕ) → 0 < w → n % w ≡ 0 → n ≡ w * (n / w)
whole_key w n pos e = omega arith

-- a slot that begins another begins the key in front of its last token, unless it is that slot
pub slot_in_slot : (w a b : ℕ) (s k t : List Bool) → length s ≡ w * a + w → length k ≡ w * b → length t ≡ w → is_prefix s (k ++ t) ≡ true → (is_prefix s k ≡ true) ⊎ (k ++ t ≡ s)
slot_in_slot w a b s k t e f g h =
    let whole : length (k ++ t) ≡ w * b + w = length-append k t ∙ omega (arith, f, g) in
    let short = length-is_prefix s (k ++ t) h in
    elim (whole_step w a b (omega (arith, short, whole, e))) [
      | inl l ↦ inr (is_prefix-all s (k ++ t) h (omega (arith, l, whole, e)))
      | inr l ↦ inl (subst (λ q. is_prefix s q ≡ true) (take-is_prefix k (k ++ t) (is_prefix-append k k t (is_prefix-itself k))) (prefix_of_take s (k ++ t) (length k) h (omega (arith, l, e, f))))
    ]

-- ---- the items of a claim, by what is known of ranges

module _ (slots : SlotsLieAsTheirKeys) (bits : BytesLieAsTheirBits) (l : Limits) (w : ℕ) (r : Range) (es : List Pair) (ns : List ProofNode) (ww : IsWidth w) (range : IsRange l r) (listed : AllByRecursion (LiesIn r) es) (shown : AllByRecursion (IsProofNode w) ns) where
  -- the bits of a pair's key lie in the range
  pub pair_inside : (e : Pair) → Member es e → is_inside (key_place r (bits_of_bytes e.0)) ≡ true
  pair_inside e m =
      let h = All-member (LiesIn r) es e listed m in
      sym (bits r e.0 range.start_bytes range.end_bytes h.bytes) ∙ h.inside

  outside : (s k : List Bool) → is_outside (slot_place r s) ≡ true → is_prefix s k ≡ true → is_inside (key_place r k) ≡ false
  outside s k o b = all_outside r s k (slot_place r s) o (slots l r s range) b

  node_whole : (n : ProofNode) → Member ns n → length n.key ≡ w * (length n.key / w)
  node_whole n m = whole_key w (length n.key) ww.0 (All-member (IsProofNode w) ns n shown m).whole

  slot_whole : (n : ProofNode) (t : ℕ) → Member ns n → length (n.key ++ bits_of w t) ≡ w * (length n.key / w) + w
  slot_whole n t m = length-append n.key (bits_of w t) ∙ omega (arith, node_whole n m, length-bits_of w t)

  -- each item has whole tokens
  whole : (i : Item) → Told w r es ns i → IsWholeItem w i
  whole i (by_pair e m p) = subst (IsWholeItem w) p (ww.1.0 * length e.0, length-bits_of_bytes e.0 ∙ ap (λ c. c * length e.0) ww.1.1 ∙ mul_assoc w ww.1.0 (length e.0))
  whole i (by_value n d m o g p) = subst (IsWholeItem w) p (length n.key / w, node_whole n m)
  whole i (by_child n c m k o f p) =
      let child = All-member (IsChild w) n.children c (All-member (IsProofNode w) ns n shown m).children k in
      subst (IsWholeItem w) p ((length n.key / w, slot_whole n c.0 m), child.1)

  -- what begins with the slot of such a child has that slot
  in_slot : (n : ProofNode) (t : ℕ) → Member ns n → is_outside (slot_place r (n.key ++ bits_of w t)) ≡ true → leads_to (n.key ++ bits_of w t) ns ≡ false → (i : Item) → Told w r es ns i → is_prefix (n.key ++ bits_of w t) (place_of i) ≡ true → place_of i ≡ n.key ++ bits_of w t
  in_slot n t m o f i (by_pair e k p) b =
      let x = pair_inside e k in
      let y = outside (n.key ++ bits_of w t) (bits_of_bytes e.0) o (subst (λ i. is_prefix (n.key ++ bits_of w t) (place_of i) ≡ true) (sym p) b) in absurd (cc)
  in_slot n t m o f i (by_value q d k u g p) b = absurd (leads_to_none (n.key ++ bits_of w t) ns q k f (subst (λ i. is_prefix (n.key ++ bits_of w t) (place_of i) ≡ true) (sym p) b))
  in_slot n t m o f i (by_child q c k v u g p) b =
      subst (λ i. place_of i ≡ n.key ++ bits_of w t) p
      (elim (slot_in_slot w (length n.key / w) (length q.key / w) (n.key ++ bits_of w t) q.key (bits_of w c.0) (slot_whole n t m) (node_whole q k) (length-bits_of w c.0)
      (subst (λ i. is_prefix (n.key ++ bits_of w t) (place_of i) ≡ true) (sym p) b)) [
        | inl x ↦ absurd (leads_to_none (n.key ++ bits_of w t) ns q k f x)
        | inr x ↦ x
      ])

  stub_alone : (p : List Bool) (x : List ℕ) (i : Item) → Told w r es ns (Stub p x) → Told w r es ns i → is_prefix p (place_of i) ≡ true → place_of i ≡ p
  stub_alone p x i (by_pair e m q) t b = absurd (cc)
  stub_alone p x i (by_value n d m o g q) t b = absurd (cc)
  stub_alone p x i (by_child n c m k o f q) t b =
      let same : n.key ++ bits_of w c.0 ≡ p = ap place_of q in
      subst (λ p. is_prefix p (place_of i) ≡ true → place_of i ≡ p) same (in_slot n c.0 m o f i t) b

  -- the items in their order are a valid list
  pub told_items-IsValid : IsValid w (in_order (told_items w r es ns))
  told_items-IsValid = record {
    whole = All-of (IsWholeItem w) (in_order (told_items w r es ns)) (λ i m. whole i (told w r es ns i (in_order-of (told_items w r es ns) i m)));
    ordered = in_order-IsOrdered (told_items w r es ns) (λ p x i m n b. stub_alone p x i (told w r es ns (Stub p x) m) (told w r es ns i n) b);
  }

  -- a value inside the range is that of a pair
  pub told_by_pair : (k : List Bool) (d : List ℕ) → is_inside (key_place r k) ≡ true → Told w r es ns (Val k d) → (e : Pair) × Member es e × (entry_item e ≡ Val k d)
  told_by_pair k d h (by_pair e m p) = (e, m, p)
  told_by_pair k d h (by_value n c m o g p) = let same : n.key ≡ k = ap place_of p in absurd (let x = subst (λ k. is_inside (key_place r k) ≡ false) same o in cc)
  told_by_pair k d h (by_child n c m v o f p) = absurd (cc)

  -- no key inside the range lies in the slot of a stub
  pub told_outside : (p : List Bool) (x : List ℕ) (k : List Bool) → Told w r es ns (Stub p x) → is_prefix p k ≡ true → is_inside (key_place r k) ≡ false
  told_outside p x k (by_pair e m q) b = absurd (cc)
  told_outside p x k (by_value n d m o g q) b = absurd (cc)
  told_outside p x k (by_child n c m v o f q) b = let same : n.key ++ bits_of w c.0 ≡ p = ap place_of q in outside p k (subst (λ p. is_outside (slot_place r p) ≡ true) same o) b

  -- each pair has its item
  module _ (sorted : AreSorted es) where
    one_place : (e : Pair) → Member es e → (i : Item) → Told w r es ns i → place_of i ≡ bits_of_bytes e.0 → i ≡ entry_item e
    one_place e m i (by_pair g n p) q =
        let a = All-member (LiesIn r) es e listed m in
        let b = All-member (LiesIn r) es g listed n in
        sym p ∙ ap entry_item (one_pair es g e sorted n m (bytes-injective g.0 e.0 b.bytes a.bytes (ap place_of p ∙ q)))
    one_place e m i (by_value n d k o g p) q =
        let x = pair_inside e m in
        let y = subst (λ k. is_inside (key_place r k) ≡ false) (ap place_of p ∙ q) o in absurd (cc)
    one_place e m i (by_child n c k v o f p) q =
        let x = pair_inside e m in
        let same : n.key ++ bits_of w c.0 ≡ bits_of_bytes e.0 = ap place_of p ∙ q in
        let y = outside (bits_of_bytes e.0) (bits_of_bytes e.0) (subst (λ s. is_outside (slot_place r s) ≡ true) same o) (is_prefix-itself (bits_of_bytes e.0)) in absurd (cc)

    pub pair_told : (e : Pair) → Member es e → Member (in_order (told_items w r es ns)) (entry_item e)
    pair_told e m =
        in_order-in (told_items w r es ns) (entry_item e) (Member-append-left (map entry_item es) (items_beside w r ns) (entry_item e) (Member-map-in entry_item es e m))
        (λ i n q. one_place e m i (told w r es ns i n) q)

-- ---- claims

pub claim_items_are_valid : SlotsLieAsTheirKeys → BytesLieAsTheirBits → ClaimItemsAreValid
unfolding claim_items
claim_items_are_valid slots bits l w c ww h = told_items-IsValid slots bits l w c.reached c.pairs (nodes c) ww h.range h.listed h.shown
