-- The items of a proof that is made from values: they are an item list that describes the values, and their stubs
-- stand at node keys.
use Rattle.std.proofs.Common.{◌≡◌, ◌≢◌, ℕ, suc, ◌+◌, ◌-◌, ◌*◌, ◌^◌, ◌<◌, Bool, true, false, List, [], ◌∷◌, ◌++◌, length, take, map, refl, sym, ap, ◌∙◌, arith, subst, ◌⊎◌, inl, inr, Some, length-append}
use Rattle.sha2.proofs.Facts256.{length-sha256}
use Rattle.base_model.specs.Member.{Member}
use Rattle.base_model.proofs.Bits.{length-bits_of}
use Rattle.trie_model.specs.Bits.{bits_of, bits_of_bytes, is_prefix}
use Rattle.trie_model.specs.Hashing.{hash_length}
use Rattle.trie_model.specs.Ids.{digest_at, below, id}
use Rattle.trie_model.specs.Items.{Item, Val, Stub, position, place_of, places, IsItemList, AreValues}
use Rattle.trie_model.specs.Laws.{Describes}
use Rattle.trie_model.specs.Maps.{Limits, entry_item}
use Rattle.trie_model.specs.Table.{node_keys}
use Rattle.trie_model.proofs.KeySets.{Member-map-in, Member-map-of}
use Rattle.trie_model.proofs.Lists.{Member-append-left, Member-append-right, Member-filter-in}
use Rattle.trie_model.proofs.Lookups.{digest_at-of, digest_at-is}
use Rattle.trie_model.proofs.NodeKeys.{node_keys-in}
use Rattle.trie_model.proofs.Prefixes.{is_prefix-itself, is_prefix-append, is_prefix-all, length-is_prefix, take-is_prefix, branches, whole_step, common_itself}
use Rattle.trie_model.proofs.Unfold.{id_unfolds}
use Rattle.range_model.specs.Laws.{SlotsLieAsTheirKeys}
use Rattle.range_model.specs.Ranges.{Range, IsRange, key_place, slot_place, is_inside, is_outside}
use Rattle.proof_model.specs.Paths.{ProofNode}
use Rattle.proof_model.specs.Proofs.{Pair}
use Rattle.proof_model.specs.Claims.{leads_to, items_beside, in_order}
use Rattle.proof_model.specs.TrueClaims.{StubsStandAtNodes}
use Rattle.proof_model.proofs.ItemOrder.{in_order-of, in_order-in}
use Rattle.proof_model.proofs.ClaimItems.{Told, by_pair, by_value, by_child, told, told_items, all_outside, leads_to_none, slot_in_slot}
use Rattle.proof_model.proofs.DescribedValues.{Drawn}
use Rattle.proof_model.proofs.PathKeys.{Least, AreNodeKeys}
use Rattle.proof_model.proofs.TruePaths.{node_keys-AreNodeKeys, shown}
use Rattle.proof_model.proofs.ShownNodes.{child_shown, slot_shown, digest_shown, value_told, child_told, leads_to-of, Longest, longest}
use Rattle.proof_model.proofs.RangeBounds.{IsBound, has_bound, astride}

-- ---- true items
-- the keys of nodes that are shown for a range: each is a node key, and so are those above it; where the range has a
-- bound, the first of all is among them, and the child in each slot that begins the bound, of a node key that does
pub record IsShown (w : ℕ) (ks : List (List Bool)) (r : Range) (cs : List (List Bool)) : Type 0 where
  pub of : (c : List Bool) → Member cs c → Member ks c
  pub closed : (d c : List Bool) → Member cs d → Member ks c → is_prefix c d ≡ true → Member cs c
  pub root : (b : List ℕ) → IsBound r b → (q : Least ks []) → Member cs q.key
  pub child : (b : List ℕ) → IsBound r b → (c s : List Bool) → Member ks c → is_prefix c s ≡ true → length s ≡ length c + w → is_prefix s (bits_of_bytes b) ≡ true → (q : Least ks s) → Member cs q.key

-- pairs that are all that some values have in a range
pub record AreAllInside (r : Range) (es : List Pair) (is : List Item) : Type 0 where
  pub of : (e : Pair) → Member es e → Member is (entry_item e) × (is_inside (key_place r (bits_of_bytes e.0)) ≡ true)
  pub all : (k : List Bool) (d : List ℕ) → Member is (Val k d) → is_inside (key_place r k) ≡ true → Member (map entry_item es) (Val k d)

module _ (slots : SlotsLieAsTheirKeys) (l : Limits) (w : ℕ) (is : List Item) (r : Range) (es : List Pair) (cs : List (List Bool)) (v : AreValues w is) (u : IsItemList w is) (range : IsRange l r)
    (inside : AreAllInside r es is) (s : IsShown w (node_keys w (places is)) r cs) where
  -- all node keys
  abbrev ks : List (List Bool)
  ks = node_keys w (places is)

  -- the nodes that are shown
  abbrev ns : List ProofNode
  ns = map (shown w is) cs

  keys : AreNodeKeys w ks
  keys = node_keys-AreNodeKeys w is v

  node_of : (n : ProofNode) → Member ns n → (c : List Bool) × Member cs c × (shown w is c ≡ n)
  node_of n m = Member-map-of (shown w is) cs n m

  -- ---- what each item is
  -- a value is one of the values
  val_of : (k : List Bool) (d : List ℕ) → Told w r es ns (Val k d) → Member is (Val k d)
  val_of k d (by_pair e m p) = subst (Member is) p (inside.of e m).0
  val_of k d (by_value n x m o g p) =
      let c = node_of n m in
      subst (Member is) (ap (λ (n : ProofNode). Val n.key x) c.2 ∙ p) (digest_at-of c.0 is x (sym (digest_shown w is v c.0) ∙ ap (λ (n : ProofNode). n.digest) c.2 ∙ g))
  val_of k d (by_child n x m k' o f p) = absurd cc

  -- a stub stands at a shown node, has the ID of the values in its slot, and lies beside the range
  record IsBeside (p : List Bool) (x : List ℕ) : Type 0 where
    key : List Bool
    member : Member cs key
    token : ℕ
    slot : key ++ bits_of w token ≡ p
    outside : is_outside (slot_place r p) ≡ true
    apart : leads_to p ns ≡ false
    id : x ≡ id w (below w p is)
    some : below w p is ≢ []

  stub_of : (p : List Bool) (x : List ℕ) → Told w r es ns (Stub p x) → IsBeside p x
  stub_of p x (by_pair e m q) = absurd cc
  stub_of p x (by_value n d m o g q) = absurd cc
  stub_of p x (by_child n y m k o f q) =
      let c = node_of n m in
      let whole = keys.whole c.0 (s.of c.0 c.1) in
      let shows = child_shown w is v whole.0 c.0 y whole.1 (subst (λ (n : ProofNode). Member n.children y) (sym c.2) k) in
      let same : n.key ++ bits_of w y.0 ≡ p = ap place_of q in
      let one : y.1 ≡ x = cc in
      let slot : c.0 ++ bits_of w y.0 ≡ p = ap (λ (n : ProofNode). n.key ++ bits_of w y.0) c.2 ∙ same in
      record {
        key = c.0;
        member = c.1;
        token = y.0;
        slot = slot;
        outside = subst (λ p. is_outside (slot_place r p) ≡ true) same o;
        apart = subst (λ p. leads_to p ns ≡ false) same f;
        id = sym one ∙ shows.id ∙ ap (λ p. id w (below w p is)) slot;
        some = subst (λ p. below w p is ≢ []) slot shows.some;
      }

  key_whole : (p : List Bool) (x : List ℕ) (b : IsBeside p x) → (n : ℕ) × (length b.key ≡ w * n)
  key_whole p x b = keys.whole b.key (s.of b.key b.member)

  slot_whole : (p : List Bool) (x : List ℕ) (b : IsBeside p x) → length p ≡ w * (key_whole p x b).0 + w
  slot_whole p x b = ap length (sym b.slot) ∙ length-append b.key (bits_of w b.token) ∙ omega (arith, (key_whole p x b).1, length-bits_of w b.token)

  -- what begins with the slot of a stub is that stub
  alone : (p : List Bool) (x : List ℕ) (i : Item) → IsBeside p x → Told w r es ns i → is_prefix p (place_of i) ≡ true → i ≡ Stub p x
  alone p x i b (by_pair e m q) h =
      let here = (inside.of e m).1 in
      let there = all_outside r p (bits_of_bytes e.0) (slot_place r p) b.outside (slots l r p range) (subst (λ i. is_prefix p (place_of i) ≡ true) (sym q) h) in absurd cc
  alone p x i b (by_value n d m o g q) h = absurd (leads_to_none p ns n m b.apart (subst (λ i. is_prefix p (place_of i) ≡ true) (sym q) h))
  alone p x i b (by_child n y m k o f q) h =
      let t = n.key ++ bits_of w y.0 in
      let c = stub_of t y.1 (by_child n y m k o f refl) in
      let front : is_prefix p t ≡ true = subst (λ i. is_prefix p (place_of i) ≡ true) (sym q) h in
      elim (slot_in_slot w (key_whole p x b).0 (key_whole t y.1 c).0 p c.key (bits_of w c.token) (slot_whole p x b) (key_whole t y.1 c).1 (length-bits_of w c.token) (subst (λ t. is_prefix p t ≡ true) (sym c.slot) front)) [
        | inl z ↦ absurd (leads_to_none p ns (shown w is c.key) (Member-map-in (shown w is) cs c.key c.member) b.apart z)
        | inr z ↦
            let same : t ≡ p = sym c.slot ∙ z in
            sym q ∙ ap (λ p. Stub p y.1) same ∙ ap (Stub p) (c.id ∙ ap (λ p. id w (below w p is)) same ∙ sym b.id)
      ]

  -- items at one place are one
  one_at : (i j : Item) → Told w r es ns i → Told w r es ns j → place_of i ≡ place_of j → i ≡ j
  one_at (Val k d) (Val l e) p q h = ap (λ k. Val k d) h ∙ ap (Val l) (u.val_one l d e (subst (λ k. Member is (Val k d)) h (val_of k d p)) (val_of l e q))
  one_at (Val k d) (Stub t x) p q h = alone t x (Val k d) (stub_of t x q) p (subst (λ k. is_prefix t k ≡ true) (sym h) (is_prefix-itself t))
  one_at (Stub t x) j p q h = sym (alone t x j (stub_of t x p) q (subst (λ k. is_prefix t k ≡ true) h (is_prefix-itself t)))

  -- ---- the items in their order
  abbrev items : List Item
  items = in_order (told_items w r es ns)

  told_of : (i : Item) → Member items i → Told w r es ns i
  told_of i m = told w r es ns i (in_order-of (told_items w r es ns) i m)

  item_in : (i : Item) → Member (told_items w r es ns) i → Member items i
  item_in i m = in_order-in (told_items w r es ns) i m (λ j n e. one_at j i (told w r es ns j n) (told w r es ns i m) e)

  -- they are an item list
  list : IsItemList w items
  list = record {
    val_whole = λ k d m. u.val_whole k d (val_of k d (told_of (Val k d) m));
    val_one = λ k d e m n. u.val_one k d e (val_of k d (told_of (Val k d) m)) (val_of k e (told_of (Val k e) n));
    stub_whole = λ p x m. let b = stub_of p x (told_of (Stub p x) m) in ((key_whole p x b).0, slot_whole p x b);
    stub_alone = λ p x i m n h. alone p x i (stub_of p x (told_of (Stub p x) m)) (told_of i n) h;
    stub_32 = λ p x m. let b = stub_of p x (told_of (Stub p x) m) in ap length b.id ∙ long (below w p is) b.some;
  }
    where
      long : (gs : List Item) → gs ≢ [] → length (id w gs) ≡ hash_length
      long [] n = absurd (n refl)
      long (i ∷ gs) n = ap length (id_unfolds w i gs v.pos) ∙ length-sha256 _

  -- ---- nothing is left out
  -- a key of the values is a node key
  own_key : (k : List Bool) (d : List ℕ) → Member is (Val k d) → Member ks k
  own_key k d h =
      let n = u.val_whole k d h in
      let m = Member-map-in place_of is (Val k d) h in
      node_keys-in w (places is) k (record { a = k; b = k; in_a = m; in_b = m; same = sym (common_itself w n.0 k v.pos n.1) })

  -- a value is told, or lies in the slot of a stub
  abbrev ToldOrCovered : List Bool → List ℕ → Type 0
  ToldOrCovered k d = Member (told_items w r es ns) (Val k d) ⊎ ((p : List Bool) × (x : List ℕ) × Member (told_items w r es ns) (Stub p x) × (is_prefix p k ≡ true))

  -- a value beside the range, and the node m that is shown deepest over its key
  module _ (k : List Bool) (d : List ℕ) (h : Member is (Val k d)) (out : is_inside (key_place r k) ≡ false) (m : Longest cs k) where
    -- the node is that of the key itself
    own : (c : List Bool) → Member cs c → k ≡ c → ToldOrCovered k d
    own c n e =
        let found : digest_at c is ≡ Some d = ap (λ k. digest_at k is) (sym e) ∙ digest_at-is w k is d u h in
        let there = value_told w r ns (shown w is c) d (Member-map-in (shown w is) cs c n) (subst (λ k. is_inside (key_place r k) ≡ false) e out) (digest_shown w is v c ∙ found) in
        inl (Member-append-right (map entry_item es) (items_beside w r ns) (Val k d) (subst (λ k. Member (items_beside w r ns) (Val k d)) (sym e) there))

    -- the key lies in the node's slot of token t
    module _ (n t : ℕ) (whole : length m.key ≡ w * n) (small : t < 2 ^ w) (front : is_prefix (m.key ++ bits_of w t) k ≡ true) where
      abbrev slot : List Bool
      slot = m.key ++ bits_of w t

      tall : length slot ≡ length m.key + w
      tall = length-append m.key (bits_of w t) ∙ ap (λ l. length m.key + l) (length-bits_of w t)

      least : Least ks slot
      least = keys.least (suc n) slot k (omega (arith, tall, whole)) (own_key k d h) front

      -- the child is not shown, since it is deeper
      unseen : Member cs least.key → ⊥
      unseen n =
          let a = m.longest least.key n (least.each k (own_key k d h) front) in
          let b = length-is_prefix slot least.key least.begins in omega (arith, v.pos, a, b, tall)

      some : below w slot is ≢ []
      some e = subst (λ gs. Member gs (Val k d)) e (Member-filter-in (λ j. is_prefix slot (position w j)) is (Val k d) h front)

      -- so a stub stands there: its child is shown where the slot begins a bound or leads to a node
      covered : ToldOrCovered k d
      covered = which (is_outside (slot_place r slot)) refl (leads_to slot ns) refl
        where
          which : (o : Bool) → is_outside (slot_place r slot) ≡ o → (b : Bool) → leads_to slot ns ≡ b → ToldOrCovered k d
          which false o b e =
              let x = astride slots l r slot k range o front out in
              absurd (unseen (s.child x.0 x.1 m.key slot (s.of m.key m.member) (is_prefix-append m.key m.key (bits_of w t) (is_prefix-itself m.key)) tall x.2 least))
          which true o true e =
              let x = leads_to-of slot ns e in
              let c = node_of x.0 x.1 in
              let p : is_prefix slot c.0 ≡ true = subst (λ (n : ProofNode). is_prefix slot n.key ≡ true) (sym c.2) x.2 in
              absurd (unseen (s.closed c.0 least.key c.1 least.member (least.each c.0 (s.of c.0 c.1) p)))
          which true o false e =
              let x = slot_shown w is v n t m.key whole small some in
              inr (
                slot,
                x.0,
                Member-append-right (map entry_item es) (items_beside w r ns) (Stub slot x.0)
                    (child_told w r ns (shown w is m.key) (t, x.0) (Member-map-in (shown w is) cs m.key m.member) x.1 o e),
                front,
              )

    -- the node tells the value, or has it in a slot
    beside_node : ToldOrCovered k d
    beside_node =
        let a = keys.whole m.key (s.of m.key m.member) in
        let e = u.val_whole k d h in
        let short = length-is_prefix m.key k m.begins in
        elim (whole_step w a.0 e.0 (omega (arith, short, a.1, e.1))) [
          | inl z ↦ own m.key m.member (is_prefix-all m.key k m.begins (omega (arith, z, a.1, e.1)))
          | inr z ↦ let t = branches w m.key k m.begins (omega (arith, z, a.1, e.1)) in covered a.0 t.0 a.1 t.1 t.2
        ]

  -- so each value beside the range is told, or covered
  beside_range : (k : List Bool) (d : List ℕ) → Member is (Val k d) → is_inside (key_place r k) ≡ false → ToldOrCovered k d
  beside_range k d h out =
      let b = has_bound r k out in
      let m = own_key k d h in
      let q = keys.least 0 [] k (omega arith) m refl in
      elim (longest cs k) [
        | inl f ↦ absurd (f q.key (s.root b.0 b.1 q) (q.each k m refl))
        | inr x ↦ beside_node k d h out x
      ]

  -- so the items describe the values
  describes : Describes w items is
  describes = record {
    val = λ k d m. val_of k d (told_of (Val k d) m);
    only = λ k d h. go k d h (is_inside (key_place r k)) refl;
    stub = λ p x m. let b = stub_of p x (told_of (Stub p x) m) in (b.id, b.some);
  }
    where
      go : (k : List Bool) (d : List ℕ) → Member is (Val k d) → (b : Bool) → is_inside (key_place r k) ≡ b → Member items (Val k d) ⊎ ((p : List Bool) × (x : List ℕ) × Member items (Stub p x) × (is_prefix p k ≡ true))
      go k d h true e = inl (item_in (Val k d) (Member-append-left (map entry_item es) (items_beside w r ns) (Val k d) (inside.all k d h e)))
      go k d h false e = elim (beside_range k d h e) [
        | inl m ↦ inl (item_in (Val k d) m)
        | inr m ↦ inr (m.0, m.1, item_in (Stub m.0 m.1) m.2, m.3)
      ]

  -- and their stubs stand at node keys
  stands : StubsStandAtNodes w items is
  stands p x m =
      let b = stub_of p x (told_of (Stub p x) m) in
      let room : length p - w ≡ length b.key = omega (arith, slot_whole p x b, (key_whole p x b).1) in
      let place : take (length p - w) p ≡ b.key =
      ap (λ n. take n p) room ∙ take-is_prefix b.key p (subst (λ p. is_prefix b.key p ≡ true) b.slot (is_prefix-append b.key b.key (bits_of w b.token) (is_prefix-itself b.key))) in
      subst (Member ks) (sym place) (s.of b.key b.member)

  pub items-Drawn : Drawn w items is
  items-Drawn = record { list = list; one = u; values = v; says = describes; stands = stands }
