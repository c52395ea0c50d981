-- The table of values, group by group, and its root.
use Rattle.std.proofs.Common.{◌≡◌, ℕ, suc, ◌+◌, ◌*◌, ◌^◌, Less, Bool, true, false, cond, List, [], ◌∷◌, ◌++◌, length, drop, map, refl, sym, ap, ◌∙◌, arith, subst, inl, inr, Option, Some, None, length-append}
use Rattle.std.specs.List.{flat_map, AllByRecursion}
use Rattle.std.proofs.lemmas.List.{map-append}
use Rattle.sha2.specs.Sha256.{sha256}
use Rattle.base_model.specs.Member.{Member}
use Rattle.trie_model.specs.Bits.{bits_of, is_prefix, common, whole_tokens, same_key, IsRising}
use Rattle.trie_model.specs.Hashing.{hashed_string}
use Rattle.trie_model.specs.Items.{Item, Val, Stub, position, place_of, NoStubs}
use Rattle.trie_model.specs.Ids.{node_key, digest_at, stub_at, below, numbers_from, children, child_of, id, id_within}
use Rattle.std.specs.FinMap.{entries}
use Rattle.trie_model.specs.Bits.{key_cmp, IsWidth}
use Rattle.trie_model.specs.Items.{IsWholeItem, Follows, IsOrdered}
use Rattle.trie_model.specs.Items.{places, AreValues}
use Rattle.trie_model.specs.Laws.{TableRoot}
use Rattle.trie_model.specs.Maps.{Map, Limits, IsMap, map_items}
use Rattle.trie_model.specs.StoredNode.{StoredChild}
use Rattle.trie_model.specs.Table.{Row, node_keys, shortest, child_key, is_some, kept_child, table_node, row_at, items_table, hashed_child, first_id}
use Rattle.trie_model.proofs.Lookups.{no_stub_at, NoStubs-below}
use Rattle.trie_model.proofs.Positions.{node_key-is_prefix}
use Rattle.trie_model.proofs.Prefixes.{prefix_of_common, is_prefix-through, same_key-is, is_prefix-append}
use Rattle.base_model.proofs.Bits.{length-bits_of}
use Rattle.trie_model.proofs.KeySets.{Member-map-of}
use Rattle.trie_model.proofs.Lists.{Member-filter-of, filter-filter}
use Rattle.trie_model.proofs.NodeKeys.{AreTokens, AreTokens-filter, Met, Met-whole, node_keys-of, node_keys-below, node_keys-unfold, no_node_keys, shortest_is, keys_below}
use Rattle.trie_model.proofs.KeySets.{IsRising-filter}
use Rattle.trie_model.proofs.Rising.{common_prefix_ends, last_of}
use Rattle.trie_model.proofs.Valid.{map_items-IsValid, no_stubs}
use Rattle.trie_model.proofs.Unfold.{flat_same, id_unfolds}

-- ---- the keys of values
-- a value stands at its key
pub places-positions : (w : ℕ) (is : List Item) → NoStubs is → map (position w) is ≡ places is
places-positions w [] h = refl
places-positions w (Val k d ∷ is) h = ap (λ r. k ∷ r) (places-positions w is (λ p x m. h p x (inr m)))
places-positions w (Stub p x ∷ is) h = absurd (h p x (inl refl))

-- the keys below a slot
pub places-below : (w : ℕ) (s : List Bool) (is : List Item) → NoStubs is → places (below w s is) ≡ keys_below s (places is)
places-below w s [] h = refl
places-below w s (Val k d ∷ is) h = go (is_prefix s k) (places-below w s is (λ p x m. h p x (inr m)))
  where
    go : (b : Bool) → places (below w s is) ≡ keys_below s (places is) → places (cond b (Val k d ∷ below w s is) (below w s is)) ≡ cond b (k ∷ keys_below s (places is)) (keys_below s (places is))
    go true e = ap (λ r. k ∷ r) e
    go false e = e
places-below w s (Stub p x ∷ is) h = absurd (h p x (inl refl))

-- what lies below a slot of plain values is plain
pub AreValues-below : (w : ℕ) (s : List Bool) (is : List Item) → AreValues w is → AreValues w (below w s is)
AreValues-below w s is p = record {
  pos = p.pos;
  values = NoStubs-below w s is p.values;
  whole = subst (AreTokens w) (sym (places-below w s is p.values)) (AreTokens-filter w (is_prefix s) (places is) p.whole);
  rises = subst IsRising (sym (places-below w s is p.values)) (IsRising-filter (is_prefix s) (places is) p.rises);
}

-- what lies below a slot of what lies below a shorter slot
pub below-below : (w : ℕ) (p s : List Bool) (is : List Item) → is_prefix p s ≡ true → below w s (below w p is) ≡ below w s is
below-below w p s is h = filter-filter (λ i. is_prefix s (position w i)) (λ i. is_prefix p (position w i)) is (λ i e. is_prefix-through p s (position w i) h e)

-- the digest at a key is found below each of its prefixes
pub digest-below : (w : ℕ) (s n : List Bool) (is : List Item) → NoStubs is → is_prefix s n ≡ true → digest_at n (below w s is) ≡ digest_at n is
digest-below w s n [] h e = refl
digest-below w s n (Val k d ∷ is) h e = go (is_prefix s k) refl (same_key n k) refl (digest-below w s n is (λ p x m. h p x (inr m)) e)
  where
    go : (b : Bool) → is_prefix s k ≡ b → (c : Bool) → same_key n k ≡ c → digest_at n (below w s is) ≡ digest_at n is →
        digest_at n (cond b (Val k d ∷ below w s is) (below w s is)) ≡ cond c (Some d) (digest_at n is)
    go true f c g ih = rw g (ap (λ r. cond c (Some d) r) ih)
    go false f true g ih = absurd (let q : is_prefix s k ≡ true = subst (λ x. is_prefix s x ≡ true) (same_key-is n k g) e in cc)
    go false f false g ih = ih
digest-below w s n (Stub p x ∷ is) h e = absurd (h p x (inl refl))

-- ---- the key of the root node
-- what the keys of some values have in common
pub run_of : (w : ℕ) (is : List Item) → NoStubs is → node_key w is ≡ common w (places is)
run_of w is h = ap (common w) (places-positions w is h)

-- the last key is one of the keys
last_in : (k : List Bool) (ks : List (List Bool)) → Member (k ∷ ks) (last_of k ks)
last_in k [] = inl refl
last_in k (l ∷ ks) = inr (last_in l ks)

-- the root node's key is the common run of the first and the last key
pub root_met : (w : ℕ) (i : Item) (is : List Item) → AreValues w (i ∷ is) → Met w (places (i ∷ is)) (node_key w (i ∷ is))
root_met w i is p = record {
  a = place_of i;
  b = last_of (place_of i) (places is);
  in_a = inl refl;
  in_b = last_in (place_of i) (places is);
  same = run_of w (i ∷ is) p.values ∙ ap (whole_tokens w) (common_prefix_ends (place_of i) (places is) p.rises);
}

-- the root node's key begins each key
pub root_begins : (w : ℕ) (is : List Item) → NoStubs is → (k : List Bool) → Member (places is) k → is_prefix (node_key w is) k ≡ true
root_begins w is h k m =
    let q = Member-map-of (position w) is k (subst (λ l. Member l k) (sym (places-positions w is h)) m) in
    subst (λ k. is_prefix (node_key w is) k ≡ true) q.2 (node_key-is_prefix w is q.0 q.1)

-- ---- the child in a slot
-- what a node with key k keeps of the values below a token
abbrev pub group_child : ℕ → List Bool → ℕ → List Item → List StoredChild
group_child w k t [] = []
group_child w k t (i ∷ is) = record { index = t; rest = drop (length k + w) (node_key w (i ∷ is)); id = id w (i ∷ is); has_value = is_some (digest_at (node_key w (i ∷ is)) (i ∷ is)) } ∷ []

-- the children of a node with key k, group by group
unfoldable pub group_children : ℕ → List Bool → List Item → List StoredChild
group_children w k is = flat_map (λ t. group_child w k t (below w (k ++ bits_of w t) is)) (numbers_from 0 (2 ^ w))

-- the child in a slot has the key of the node of what lies there
child_key-is : (w n : ℕ) (s : List Bool) (is : List Item) → AreValues w is → length s ≡ w * n → child_key w (places is) s ≡ shortest (node_keys w (places (below w s is)))
child_key-is w n s is p e = ap shortest (node_keys-below w n s (places is) p.pos e p.whole ∙ ap (node_keys w) (sym (places-below w s is p.values)))

-- it is the shortest node key
pub root_shortest : (w : ℕ) (i : Item) (is : List Item) → AreValues w (i ∷ is) → shortest (node_keys w (places (i ∷ is))) ≡ Some (node_key w (i ∷ is))
root_shortest w i is p = shortest_is w (node_key w (i ∷ is)) (places (i ∷ is)) p.pos p.whole (root_met w i is p) (root_begins w (i ∷ is) p.values)

-- what a list below a slot begins with
below-begins : (w : ℕ) (s : List Bool) (is : List Item) (i : Item) → Member (below w s is) i → is_prefix s (position w i) ≡ true
below-begins w s is i m = (Member-filter-of (λ i. is_prefix s (position w i)) is i m).1

-- the slot begins the key of the node of what lies there
pub slot_begins : (w n : ℕ) (s : List Bool) (is : List Item) (i : Item) (gs : List Item) → AreValues w (i ∷ gs) → length s ≡ w * n → below w s is ≡ i ∷ gs → is_prefix s (node_key w (i ∷ gs)) ≡ true
slot_begins w n s is i gs p e b =
    let r = root_met w i gs p in
    let a = Member-map-of place_of (i ∷ gs) r.a r.in_a in
    let c = Member-map-of place_of (i ∷ gs) r.b r.in_b in
    subst (λ k. is_prefix s k ≡ true) (sym r.same) (prefix_of_common w n s r.a r.b p.pos e (begins r.a r.in_a) (begins r.b r.in_b))
  where
    begins : (k : List Bool) → Member (places (i ∷ gs)) k → is_prefix s k ≡ true
    begins k m =
        let q = Member-map-of (position w) (i ∷ gs) k (subst (λ l. Member l k) (sym (places-positions w (i ∷ gs) p.values)) m) in
        subst (λ k. is_prefix s k ≡ true) q.2 (below-begins w s is q.0 (subst (λ l. Member l q.0) (sym b) q.1))

-- so what a node keeps of a child depends on what lies in its slot alone
kept-is : (w n t : ℕ) (k s : List Bool) (is : List Item) → AreValues w is → length s ≡ w * n → kept_child w (length k) t s (child_key w (places is) s) is ≡ group_child w k t (below w s is)
kept-is w n t k s is p e = ap (λ o. kept_child w (length k) t s o is) (child_key-is w n s is p e) ∙ go (below w s is) refl (AreValues-below w s is p)
  where
    go : (gs : List Item) → below w s is ≡ gs → AreValues w gs → kept_child w (length k) t s (shortest (node_keys w (places gs))) is ≡ group_child w k t gs
    go [] b q = ap (λ ks. kept_child w (length k) t s (shortest ks) is) (no_node_keys w)
    go (i ∷ gs) b q =
        let c = node_key w (i ∷ gs) in
        ap (λ o. kept_child w (length k) t s o is) (root_shortest w i gs q)
        ∙ ap (λ gs. record { index = t; rest = drop (length k + w) c; id = id w gs; has_value = is_some (digest_at c is) } ∷ []) b
        ∙ ap (λ d. record { index = t; rest = drop (length k + w) c; id = id w (i ∷ gs); has_value = is_some d } ∷ [])
        (sym (digest-below w s c is p.values (slot_begins w n s is i gs q e b)) ∙ ap (digest_at c) b)

-- a slot is a token longer than the node it is below
pub slot_length : (w n t : ℕ) (k : List Bool) → length k ≡ w * n → length (k ++ bits_of w t) ≡ w * suc n
slot_length w n t k e = length-append k (bits_of w t) ∙ omega (arith, e, length-bits_of w t)

-- a node of the table, group by group
pub table_node-is : (w n : ℕ) (k : List Bool) (is : List Item) → AreValues w is → length k ≡ w * n → table_node w is k ≡ record { digest = digest_at k is; children = group_children w k is }
unfolding table_node group_children
table_node-is w n k is p e = ap (λ cs. record { digest = digest_at k is; children = cs })
    (flat_same _ _ (numbers_from 0 (2 ^ w)) (λ t. kept-is w (suc n) t k (k ++ bits_of w t) is p (slot_length w n t k e)))

-- a node is that of what lies below any slot in which its key lies
pub table_node-below : (w n : ℕ) (p k : List Bool) (is : List Item) → AreValues w is → length k ≡ w * n → is_prefix p k ≡ true → table_node w (below w p is) k ≡ table_node w is k
unfolding group_children
table_node-below w n p k is h e f =
    table_node-is w n k (below w p is) (AreValues-below w p is h) e
    ∙ ap (λ d. record { digest = d; children = group_children w k (below w p is) }) (digest-below w p k is h.values f)
    ∙ ap (λ cs. record { digest = digest_at k is; children = cs }) (flat_same _ _ (numbers_from 0 (2 ^ w)) (λ t. ap (group_child w k t) (below-below w p (k ++ bits_of w t) is (is_prefix-append p k (bits_of w t) f))))
    ∙ sym (table_node-is w n k is h e)

-- ---- the table group by group
-- the rows below a node with key k
unfoldable pub rows_below : ℕ → List Bool → List Item → List Row
rows_below w k is = flat_map (λ t. items_table w (below w (k ++ bits_of w t) is)) (numbers_from 0 (2 ^ w))

-- functions that agree on the members make the same of a list
pub map_same : {A B : Type 0} (f g : A → B) (xs : List A) → ((x : A) → Member xs x → f x ≡ g x) → map f xs ≡ map g xs
map_same f g [] h = refl
map_same f g (x ∷ xs) h = rw (h x (inl refl)) (ap (λ r. g x ∷ r) (map_same f g xs (λ y m. h y (inr m))))

-- a function of lists end to end
map_flat : {A B C : Type 0} (f : B → C) (g : A → List B) (xs : List A) → map f (flat_map g xs) ≡ flat_map (λ x. map f (g x)) xs
map_flat f g [] = refl
map_flat f g (x ∷ xs) = map-append f (g x) (flat_map g xs) ∙ ap (λ r. map f (g x) ++ r) (map_flat f g xs)

-- no values have no nodes
pub no_table : (w : ℕ) → items_table w [] ≡ []
unfolding items_table
no_table w = ap (map (row_at w [])) (no_node_keys w)

-- the root node comes first, and then the rows of each group
pub table-unfold : (w : ℕ) (i : Item) (is : List Item) → AreValues w (i ∷ is) →
    items_table w (i ∷ is) ≡ (node_key w (i ∷ is), record { digest = digest_at (node_key w (i ∷ is)) (i ∷ is); children = group_children w (node_key w (i ∷ is)) (i ∷ is) }) ∷ rows_below w (node_key w (i ∷ is)) (i ∷ is)
unfolding items_table rows_below
table-unfold w i is p =
    let k = node_key w (i ∷ is) in
    let met = root_met w i is p in
    let whole = Met-whole w (places (i ∷ is)) k p.pos met in
    ap (map (row_at w (i ∷ is))) (node_keys-unfold w k (places (i ∷ is)) p.pos p.whole met (root_begins w (i ∷ is) p.values))
    ∙ ap (λ d. (k, d) ∷ map (row_at w (i ∷ is)) (flat_map (λ t. node_keys w (keys_below (k ++ bits_of w t) (places (i ∷ is)))) (numbers_from 0 (2 ^ w)))) (table_node-is w whole.0 k (i ∷ is) p whole.1)
    ∙ ap (λ r. (k, record { digest = digest_at k (i ∷ is); children = group_children w k (i ∷ is) }) ∷ r)
    (map_flat (row_at w (i ∷ is)) (λ t. node_keys w (keys_below (k ++ bits_of w t) (places (i ∷ is)))) (numbers_from 0 (2 ^ w))
    ∙ flat_same _ _ (numbers_from 0 (2 ^ w)) (λ t. group w (k ++ bits_of w t) (i ∷ is) p (suc whole.0) (slot_length w whole.0 t k whole.1)))
  where
    -- the rows of the node keys below a slot
    group : (w : ℕ) (s : List Bool) (is : List Item) → AreValues w is → (n : ℕ) → length s ≡ w * n → map (row_at w is) (node_keys w (keys_below s (places is))) ≡ map (row_at w (below w s is)) (node_keys w (places (below w s is)))
    group w s is p n e =
        ap (λ ks. map (row_at w is) (node_keys w ks)) (sym (places-below w s is p.values))
        ∙ map_same _ _ (node_keys w (places (below w s is))) (λ c m.
        let q = AreValues-below w s is p in
        let l = Met-whole w (places (below w s is)) c p.pos (node_keys-of w (places (below w s is)) c p.pos q.whole m) in
        let f = Member-filter-of (is_prefix s) (node_keys w (places is)) c (subst (λ l. Member l c) (ap (node_keys w) (places-below w s is p.values) ∙ sym (node_keys-below w n s (places is) p.pos e p.whole)) m) in
        ap (λ d. (c, d)) (sym (table_node-below w l.0 s c is p l.1 f.1)))

-- ---- the root
-- what a node's string has of its children
hashed-group : (w t : ℕ) (k : List Bool) (o : Option (List ℕ)) (is : List Item) → o ≡ None → map hashed_child (group_child w k t is) ≡ child_of (id w) t o is
hashed-group w t k o [] e = ap (λ o. child_of (id w) t o []) (sym e)
hashed-group w t k o (i ∷ is) e = ap (λ o. child_of (id w) t o (i ∷ is)) (sym e)

-- the children that a node keeps are those of its string
pub hashed_children : (w : ℕ) (k : List Bool) (is : List Item) → NoStubs is → map hashed_child (group_children w k is) ≡ children (id w) w k is
unfolding group_children children
hashed_children w k is h =
    map_flat hashed_child (λ t. group_child w k t (below w (k ++ bits_of w t) is)) (numbers_from 0 (2 ^ w))
    ∙ flat_same _ _ (numbers_from 0 (2 ^ w)) (λ t. hashed-group w t k (stub_at (k ++ bits_of w t) is) (below w (k ++ bits_of w t) is) (no_stub_at (k ++ bits_of w t) is h))

-- the ID of the first node is that of the values
pub first_id-is : (w : ℕ) (is : List Item) → AreValues w is → first_id (items_table w is) ≡ id w is
unfolding id id_within
first_id-is w [] p = ap first_id (no_table w)
first_id-is w (i ∷ is) p =
    let k = node_key w (i ∷ is) in
    ap first_id (table-unfold w i is p)
    ∙ ap (λ cs. sha256 (hashed_string k (digest_at k (i ∷ is)) cs)) (hashed_children w k (i ∷ is) p.values)
    ∙ sym (id_unfolds w i is p.pos)

-- ---- maps
-- the keys of whole items are of whole tokens
whole_places : (w : ℕ) (is : List Item) → NoStubs is → AllByRecursion (IsWholeItem w) is → AreTokens w (places is)
whole_places w [] h v = tt
whole_places w (Val k d ∷ is) h v = (v.0, whole_places w is (λ p x m. h p x (inr m)) v.1)
whole_places w (Stub p x ∷ is) h v = absurd (h p x (inl refl))

-- the keys of ordered items rise
rising_places : (is : List Item) → IsOrdered is → IsRising (places is)
rising_places [] o = tt
rising_places (i ∷ is) o = (above i is o.0, rising_places is o.1)
  where
    above : (i : Item) (is : List Item) → AllByRecursion (Follows i) is → AllByRecursion (λ l. key_cmp (place_of i) l ≡ Less) (places is)
    above i [] f = tt
    above i (j ∷ is) f = (f.0.greater, above i is f.1)

-- the items of a map are values with rising keys of whole tokens
pub AreValues-map_items : (l : Limits) (w : ℕ) (m : Map) → IsWidth w → IsMap l m → AreValues w (map_items m)
AreValues-map_items l w m ww h =
    let v = map_items-IsValid l w m ww h in
    record { pos = ww.0; values = no_stubs (entries m); whole = whole_places w (map_items m) (no_stubs (entries m)) v.whole; rises = rising_places (map_items m) v.ordered }

-- the root of a map is the ID of the first node of its table
pub table_root : TableRoot
table_root l w m ww h = first_id-is w (map_items m) (AreValues-map_items l w m ww h)
