-- The rows of a table are in the grammar of stored nodes.
use Rattle.std.proofs.Common.{◌≡◌, ℕ, zero, suc, ◌+◌, ◌-◌, ◌*◌, ◌%◌, ◌^◌, ◌≤◌, Bool, List, [], ◌∷◌, ◌++◌, length, drop, refl, sym, ap, ◌∙◌, arith, subst, inl, Option, Some, None, length-drop}
use Rattle.std.specs.Prelude.{IfSome}
use Rattle.std.specs.List.{flat_map}
use Rattle.std.specs.FinMap.{entries}
use Rattle.std.proofs.Math.Nat.{mul-mod_right, mul-sub}
use Rattle.sha2.proofs.Facts256.{length-sha256}
use Rattle.base_model.specs.Member.{Member}
use Rattle.trie_model.specs.Bits.{bits_of, bits_of_bytes}
use Rattle.trie_model.specs.Hashing.{hash_length, value_digest}
use Rattle.trie_model.specs.Ids.{digest_at, below, node_key, numbers_from}
use Rattle.trie_model.specs.Items.{Item, Val, Stub, place_of, places, AreValues}
use Rattle.trie_model.specs.Laws.{AreShort, ValueRowsAreStored, RowsAreStored}
use Rattle.trie_model.specs.Maps.{Map, Limits, IsMap, IsPair, map_items, entry_item}
use Rattle.trie_model.specs.StoredNode.{StoredChild, IsStoredChild, AreRising, IsStored, rest_limit}
use Rattle.trie_model.specs.Table.{Row, table_node, items_table}
use Rattle.trie_model.proofs.Digests.{length-value_digest}
use Rattle.trie_model.proofs.Prefixes.{length-is_prefix}
use Rattle.trie_model.proofs.Lookups.{digest_at-of}
use Rattle.base_model.proofs.PackedBits.{length-bits_of_bytes}
use Rattle.trie_model.proofs.KeySets.{All-of, Member-map-of}
use Rattle.trie_model.proofs.Lists.{All-member, Member-filter-of}
use Rattle.trie_model.proofs.NodeKeys.{Met-whole}
use Rattle.trie_model.proofs.Slots.{row_of, Kept, group_children-Kept, slot-AreValues}
use Rattle.trie_model.proofs.Tables.{AreValues-map_items, group_child, group_children, slot_length, table_node-is, root_met, root_begins}
use Rattle.trie_model.proofs.Unfold.{id_unfolds}

-- the indices of children rise
groups_rise : (w : ℕ) (k : List Bool) (is : List Item) (low a m : ℕ) → low ≤ a → AreRising low (flat_map (λ t. group_child w k t (below w (k ++ bits_of w t) is)) (numbers_from a m))
groups_rise w k is low a zero l = tt
groups_rise w k is low a (suc m) l = go (below w (k ++ bits_of w a) is) (groups_rise w k is low (suc a) m (omega (arith, l))) (groups_rise w k is (suc a) (suc a) m (omega arith))
  where
    go : (gs : List Item) → AreRising low (flat_map (λ t. group_child w k t (below w (k ++ bits_of w t) is)) (numbers_from (suc a) m)) → AreRising (suc a) (flat_map (λ t. group_child w k t (below w (k ++ bits_of w t) is)) (numbers_from (suc a) m)) →
        AreRising low (group_child w k a gs ++ flat_map (λ t. group_child w k t (below w (k ++ bits_of w t) is)) (numbers_from (suc a) m))
    go [] h g = h
    go (i ∷ gs) h g = (l, g)

pub group_children-AreRising : (w : ℕ) (k : List Bool) (is : List Item) → AreRising 0 (group_children w k is)
unfolding group_children
group_children-AreRising w k is = groups_rise w k is 0 0 (2 ^ w) (omega arith)

-- the rest of a key of whole tokens behind whole tokens
rest_is_whole : (w x y n : ℕ) → n ≡ w * x → (n - (w * y + w)) % w ≡ 0
rest_is_whole w x y n e =
    let step : w * y + w ≡ w * suc y = omega arith in
    let s : n - (w * y + w) ≡ w * (x - suc y) = ap (λ n. n - (w * y + w)) e ∙ ap (λ z. w * x - z) step ∙ sym (mul-sub w x (suc y)) in
    ap (λ z. z % w) s ∙ mul-mod_right w (x - suc y)

module _ (l : Limits) (w n : ℕ) (k : List Bool) (is : List Item) (v : AreValues w is) (short : AreShort l is) (e : length k ≡ w * n) where
  -- a place is that of a value, which is within the limits
  place_short : (j : Item) → Member is j → length (place_of j) ≤ rest_limit l
  place_short (Val q d) m = (short q d m).0
  place_short (Stub q x) m = absurd (v.values q x m)

  -- a child that is kept
  kept_child-IsStored : (c : StoredChild) → Kept w k is c → IsStoredChild l w c
  kept_child-IsStored c x = subst (IsStoredChild l w) x.child (record { index = x.small; rest_whole = whole; rest_short = fits; id = ap length (id_unfolds w x.i x.is v.pos) ∙ length-sha256 _ })
    where
      values : AreValues w (x.i ∷ x.is)
      values = slot-AreValues w (suc n) (k ++ bits_of w x.token) is x.i x.is v (slot_length w n x.token k e) x.slot

      whole : length (drop (length k + w) (node_key w (x.i ∷ x.is))) % w ≡ 0
      whole =
          let c = Met-whole w (places (x.i ∷ x.is)) (node_key w (x.i ∷ x.is)) v.pos (root_met w x.i x.is values) in
          ap (λ z. z % w) (length-drop (length k + w) (node_key w (x.i ∷ x.is)) ∙ ap (λ z. length (node_key w (x.i ∷ x.is)) - (z + w)) e)
          ∙ rest_is_whole w c.0 n (length (node_key w (x.i ∷ x.is))) c.1

      fits : length (drop (length k + w) (node_key w (x.i ∷ x.is))) ≤ rest_limit l
      fits =
          let m = (Member-filter-of _ is x.i (subst (λ is. Member is x.i) (sym x.slot) (inl refl))).0 in
          omega (arith, length-drop (length k + w) (node_key w (x.i ∷ x.is)), length-is_prefix (node_key w (x.i ∷ x.is)) (place_of x.i) (root_begins w (x.i ∷ x.is) values.values (place_of x.i) (inl refl)), place_short x.i m)

  -- the node at a key of whole tokens, whether the table has a row there or not
  pub table_node-IsStored : IsStored l w (table_node w is k)
  table_node-IsStored = subst (IsStored l w) (sym (table_node-is w n k is v e)) (record {
    digest = few (digest_at k is) refl;
    children = All-of (IsStoredChild l w) (group_children w k is) (λ c m. kept_child-IsStored c (group_children-Kept w k is c m));
    rising = group_children-AreRising w k is;
  })
    where
      few : (o : Option (List ℕ)) → digest_at k is ≡ o → IfSome (digest_at k is) (λ d. length d ≤ hash_length)
      few None f = subst (λ o. IfSome o (λ d. length d ≤ hash_length)) (sym f) tt
      few (Some d) f = subst (λ o. IfSome o (λ d. length d ≤ hash_length)) (sym f) (short k d (digest_at-of k is d f)).1

-- each row of the table of values
pub value_rows_are_stored : ValueRowsAreStored
value_rows_are_stored l w is v short = All-of (λ (r : Row). IsStored l w r.1) (items_table w is) (λ r m.
    let x = row_of w is r v m in
    subst (λ (r : Row). IsStored l w r.1) x.3 (table_node-IsStored l w x.2.0 x.0 is v short x.2.1))

-- the items of a map are short
map_items-AreShort : (l : Limits) (m : Map) → IsMap l m → AreShort l (map_items m)
map_items-AreShort l m h k d n =
    let r = Member-map-of entry_item (entries m) (Val k d) n in
    let pair : IsPair l r.0 = All-member (IsPair l) (entries m) r.0 h r.1 in
    let a : bits_of_bytes r.0.0 ≡ k = cc in
    let b : value_digest r.0.1 ≡ d = cc in
    (omega (arith, sym (ap length a), length-bits_of_bytes r.0.0, pair.key_short), subst (λ d. length d ≤ hash_length) b (length-value_digest r.0.1))

pub rows_are_stored : RowsAreStored
rows_are_stored l w m ww h = value_rows_are_stored l w (map_items m) (AreValues-map_items l w m ww h) (map_items-AreShort l m h)
