-- The children that a node keeps: each comes of the values in its slot, and has a row of its own.
use Rattle.std.proofs.Common.{◌≡◌, ℕ, suc, ◌+◌, ◌*◌, ◌^◌, ◌<◌, Bool, List, [], ◌∷◌, ◌++◌, length, drop, refl, sym, ap, ◌∙◌, arith, subst, inl, inr, length-append, append_assoc}
use Rattle.base_model.specs.Member.{Member}
use Rattle.trie_model.specs.Bits.{bits_of, is_prefix}
use Rattle.trie_model.specs.Ids.{node_key, digest_at, below, numbers_from, id}
use Rattle.trie_model.specs.Items.{Item, IsWhole, places, AreValues}
use Rattle.trie_model.specs.Laws.{HasRow, ValueChildIdsAreHashes, ChildIdsAreHashes}
use Rattle.trie_model.specs.Maps.{map_items}
use Rattle.trie_model.specs.StoredNode.{StoredChild, StoredNode}
use Rattle.trie_model.specs.Table.{Row, node_keys, is_some, table_node, row_at, items_table, node_id, first_id}
use Rattle.trie_model.proofs.Prefixes.{split_prefix}
use Rattle.base_model.proofs.Bits.{length-bits_of}
use Rattle.trie_model.proofs.KeySets.{Member-flat-of, Member-map-in, Member-map-of, Member-numbers-of}
use Rattle.trie_model.proofs.Lists.{Member-filter-of}
use Rattle.trie_model.proofs.NodeKeys.{Met-whole, node_keys-below, node_keys-in, node_keys-of}
use Rattle.trie_model.proofs.Tables.{AreValues-below, AreValues-map_items, places-below, digest-below, root_met, slot_begins, slot_length, group_child, group_children, table_node-is, table_node-below, table-unfold, first_id-is}

-- ---- rows
-- a row of a table is that of a node key, which is of whole tokens
pub row_of : (w : ℕ) (is : List Item) (r : Row) → AreValues w is → Member (items_table w is) r → (k : List Bool) × Member (node_keys w (places is)) k × IsWhole w k × (row_at w is k ≡ r)
unfolding items_table
row_of w is r v m =
    let x = Member-map-of (row_at w is) (node_keys w (places is)) r m in
    (x.0, x.1, Met-whole w (places is) x.0 v.pos (node_keys-of w (places is) x.0 v.pos v.whole x.1), x.2)

-- a node key has its row
pub row_in : (w : ℕ) (is : List Item) (k : List Bool) → Member (node_keys w (places is)) k → Member (items_table w is) (row_at w is k)
unfolding items_table
row_in w is k m = Member-map-in (row_at w is) (node_keys w (places is)) k m

-- ---- children
-- what a node with key k keeps at a token, and the values i ∷ is that lie in that slot
pub record Kept (w : ℕ) (k : List Bool) (all : List Item) (c : StoredChild) : Type 0 where
  pub token : ℕ
  pub small : token < 2 ^ w
  pub i : Item
  pub is : List Item
  pub slot : below w (k ++ bits_of w token) all ≡ i ∷ is
  pub child : record { index = token; rest = drop (length k + w) (node_key w (i ∷ is)); id = id w (i ∷ is); has_value = is_some (digest_at (node_key w (i ∷ is)) (i ∷ is)) } ≡ c

-- each child comes of such values
pub group_children-Kept : (w : ℕ) (k : List Bool) (is : List Item) (c : StoredChild) → Member (group_children w k is) c → Kept w k is c
unfolding group_children
group_children-Kept w k is c m =
    let r = Member-flat-of (λ t. group_child w k t (below w (k ++ bits_of w t) is)) (numbers_from 0 (2 ^ w)) c m in
    go r.0 (omega (arith, (Member-numbers-of 0 (2 ^ w) r.0 r.1).1)) (below w (k ++ bits_of w r.0) is) refl r.2
  where
    go : (t : ℕ) → t < 2 ^ w → (gs : List Item) → below w (k ++ bits_of w t) is ≡ gs → Member (group_child w k t gs) c → Kept w k is c
    go t l [] e m = absurd m
    go t l (i ∷ gs) e (inl x) = record { token = t; small = l; i = i; is = gs; slot = e; child = x }
    go t l (i ∷ gs) e (inr x) = absurd x

module _ (w n : ℕ) (s : List Bool) (all : List Item) (i : Item) (is : List Item) (v : AreValues w all) (whole : length s ≡ w * n) (slot : below w s all ≡ i ∷ is) where
  -- what lies in a slot are values too
  pub slot-AreValues : AreValues w (i ∷ is)
  slot-AreValues = subst (AreValues w) slot (AreValues-below w s all v)

  -- the root node of a slot is a row of the table
  pub slot_row : Member (items_table w all) (row_at w all (node_key w (i ∷ is)))
  slot_row =
      let m = node_keys-in w (places (i ∷ is)) (node_key w (i ∷ is)) (root_met w i is slot-AreValues) in
      let same : node_keys w (places (i ∷ is)) ≡ _ = ap (λ l. node_keys w (places l)) (sym slot) ∙ ap (node_keys w) (places-below w s all v.values) ∙ sym (node_keys-below w n s (places all) v.pos whole v.whole) in
      row_in w all (node_key w (i ∷ is)) (Member-filter-of (is_prefix s) (node_keys w (places all)) (node_key w (i ∷ is)) (subst (λ ks. Member ks (node_key w (i ∷ is))) same m)).0

  -- and its hash is the ID of the slot
  pub slot_id : id w (i ∷ is) ≡ node_id (row_at w all (node_key w (i ∷ is)))
  slot_id =
      let k = node_key w (i ∷ is) in
      let met = Met-whole w (places (i ∷ is)) k v.pos (root_met w i is slot-AreValues) in
      sym (first_id-is w (i ∷ is) slot-AreValues) ∙ ap first_id (table-unfold w i is slot-AreValues)
      ∙ ap (λ r. node_id (k, r)) (sym (table_node-is w met.0 k (i ∷ is) slot-AreValues met.1) ∙ ap (λ is. table_node w is k) (sym slot) ∙ table_node-below w met.0 s k all v met.1 (slot_begins w n s all i is slot-AreValues whole slot))

  -- with the digest that is found below
  pub slot_digest : digest_at (node_key w (i ∷ is)) (i ∷ is) ≡ (table_node w all (node_key w (i ∷ is))).digest
  unfolding table_node
  slot_digest = ap (digest_at (node_key w (i ∷ is))) (sym slot) ∙ digest-below w s (node_key w (i ∷ is)) all v.values (slot_begins w n s all i is slot-AreValues whole slot)

-- a child of a node at a key of whole tokens has its row
pub child-HasRow : (w n : ℕ) (k : List Bool) (is : List Item) (c : StoredChild) → AreValues w is → length k ≡ w * n → Member (table_node w is k).children c → HasRow w (items_table w is) k c
child-HasRow w n k is c v e m =
    let x = group_children-Kept w k is c (subst (λ (r : StoredNode). Member r.children c) (table_node-is w n k is v e) m) in
    subst (HasRow w (items_table w is) k) x.child (at x.token x.i x.is x.slot)
  where
    at : (t : ℕ) (i : Item) (gs : List Item) → below w (k ++ bits_of w t) is ≡ i ∷ gs → HasRow w (items_table w is) k (record { index = t; rest = drop (length k + w) (node_key w (i ∷ gs)); id = id w (i ∷ gs); has_value = is_some (digest_at (node_key w (i ∷ gs)) (i ∷ gs)) })
    at t i gs b =
        let s = k ++ bits_of w t in
        let q = node_key w (i ∷ gs) in
        let whole = slot_length w n t k e in
        let values = slot-AreValues w (suc n) s is i gs v whole b in
        let key : q ≡ k ++ (bits_of w t ++ drop (length k + w) q) =
        split_prefix s q (slot_begins w (suc n) s is i gs values whole b)
        ∙ ap (λ l. s ++ drop l q) (length-append k (bits_of w t) ∙ ap (λ l. length k + l) (length-bits_of w t))
        ∙ append_assoc k (bits_of w t) (drop (length k + w) q) in
        record {
          node = table_node w is q;
          row = subst (λ p. Member (items_table w is) (p, table_node w is q)) key (slot_row w (suc n) s is i gs v whole b);
          id = slot_id w (suc n) s is i gs v whole b ∙ ap (λ p. node_id (p, table_node w is q)) key;
          has_value = ap is_some (slot_digest w (suc n) s is i gs v whole b);
        }

-- the IDs that rows keep of children are the hashes of these children's rows
pub value_child_ids_are_hashes : ValueChildIdsAreHashes
value_child_ids_are_hashes w is v r c m n =
    let x = row_of w is r v m in
    subst (λ (r : Row). HasRow w (items_table w is) r.0 c) x.3 (child-HasRow w x.2.0 x.0 is c v x.2.1 (subst (λ (r : Row). Member r.1.children c) (sym x.3) n))

pub child_ids_are_hashes : ChildIdsAreHashes
child_ids_are_hashes l w m ww h = value_child_ids_are_hashes w (map_items m) (AreValues-map_items l w m ww h)
