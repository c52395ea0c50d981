-- The paths of values: each node is that of a node key, their keys extend each other, and no two of them disagree.
use Rattle.std.proofs.Common.{◌≡◌, ℕ, suc, ◌+◌, ◌*◌, ◌<◌, Bool, true, false, cond, ltb, ◌&&◌, ◌==◌, List, [], ◌∷◌, ◌++◌, length, take, map, refl, sym, ap, ◌∙◌, arith, subst, Option, Some, None}
use Rattle.std.specs.List.{filter}
use Rattle.std.specs.Ordering.{is_eq}
use Rattle.std.specs.Cmp.{tied_itself}
use Rattle.std.proofs.lemmas.Bool.Decides.{nat_tests}
use Rattle.std.proofs.lemmas.Cmp.{nat_list_cmp_total}
use Rattle.std.proofs.lemmas.List.{map-append}
use Rattle.base_model.specs.Member.{Member}
use Rattle.trie_model.specs.Bits.{is_prefix, same_key}
use Rattle.trie_model.specs.Ids.{node_key, below}
use Rattle.trie_model.specs.Items.{Item, places, AreValues}
use Rattle.trie_model.specs.Table.{Row, node_keys, shortest, row_at, items_table}
use Rattle.trie_model.proofs.Lists.{Member-filter-of, Member-filter-in}
use Rattle.trie_model.proofs.NodeKeys.{Met-whole, node_keys-of, node_keys-in, node_keys-below, node_keys-rise, no_node_keys, shortest_is}
use Rattle.trie_model.proofs.Prefixes.{prefix_of_common, same_key-is}
use Rattle.trie_model.proofs.Tables.{AreValues-below, places-below, root_met, root_begins}
use Rattle.proof_model.specs.Paths.{ProofNode, shown_row, rows_at, rows_in, deepest, child_toward, with_child, path_rows}
use Rattle.proof_model.specs.Refusals.{Refusal, first_place, first_break, same_bytes, extends, same_digest, same_children, disagree, disagrees_with, path_refusal}
use Rattle.proof_model.proofs.PathKeys.{Least, AreNodeKeys, IsChain, keys_at, keys_in, key_toward, with_key_toward, last_key_of, way, path_keys}

-- ---- the node keys of values
module _ (w : ℕ) (is : List Item) (v : AreValues w is) where
  -- the node keys that begin with a slot are those of what lies in it
  in_slot : (n : ℕ) (s : List Bool) → length s ≡ w * n → filter (is_prefix s) (node_keys w (places is)) ≡ node_keys w (places (below w s is))
  in_slot n s e = node_keys-below w n s (places is) v.pos e v.whole ∙ ap (node_keys w) (sym (places-below w s is v.values))

  -- a slot that begins a node key has a least one, the key of the root node of what lies in it
  least_of : (n : ℕ) (s c : List Bool) → length s ≡ w * n → Member (node_keys w (places is)) c → is_prefix s c ≡ true → Least (node_keys w (places is)) s
  least_of n s c e m b = go (below w s is) refl
    where
      into : (d : List Bool) (gs : List Item) → below w s is ≡ gs → Member (node_keys w (places is)) d → is_prefix s d ≡ true → Member (node_keys w (places gs)) d
      into d gs f o b = subst (λ ks. Member ks d) (in_slot n s e ∙ ap (λ gs. node_keys w (places gs)) f) (Member-filter-in (is_prefix s) (node_keys w (places is)) d o b)

      go : (gs : List Item) → below w s is ≡ gs → Least (node_keys w (places is)) s
      go [] f = absurd (subst (λ ks. Member ks c) (no_node_keys w) (into c [] f m b))
      go (i ∷ gs) f =
          let u = subst (AreValues w) f (AreValues-below w s is v) in
          let q = node_key w (i ∷ gs) in
          let met = root_met w i gs u in
          let whole = Met-whole w (places (i ∷ gs)) q v.pos met in
          let there = Member-filter-of (is_prefix s) (node_keys w (places is)) q (subst (λ ks. Member ks q) (sym (in_slot n s e ∙ ap (λ gs. node_keys w (places gs)) f)) (node_keys-in w (places (i ∷ gs)) q met)) in
          record {
            key = q;
            found = ap shortest (in_slot n s e ∙ ap (λ gs. node_keys w (places gs)) f) ∙ shortest_is w q (places (i ∷ gs)) v.pos u.whole met (root_begins w (i ∷ gs) u.values);
            member = there.0;
            begins = there.1;
            each = λ d n b.
                let r = node_keys-of w (places (i ∷ gs)) d v.pos u.whole (into d (i ∷ gs) f n b) in
                subst (λ d. is_prefix q d ≡ true) (sym r.same)
                (prefix_of_common w whole.0 q r.a r.b v.pos whole.1 (root_begins w (i ∷ gs) u.values r.a r.in_a) (root_begins w (i ∷ gs) u.values r.b r.in_b));
          }

  pub node_keys-AreNodeKeys : AreNodeKeys w (node_keys w (places is))
  node_keys-AreNodeKeys = record {
    pos = v.pos;
    rises = node_keys-rise w (places is);
    whole = λ c m. Met-whole w (places is) c v.pos (node_keys-of w (places is) c v.pos v.whole m);
    least = least_of;
  }

-- ---- what is the same as itself
pub same_bytes-itself : (a : List ℕ) → same_bytes a a ≡ true
same_bytes-itself a = ap is_eq (tied_itself nat_list_cmp_total a)

same_digest-itself : (d : Option (List ℕ)) → same_digest d d ≡ true
same_digest-itself None = refl
same_digest-itself (Some d) = same_bytes-itself d

same_children-itself : (cs : List (ℕ × List ℕ)) → same_children cs cs ≡ true
same_children-itself [] = refl
same_children-itself (c ∷ cs) = rw (same_number c.0, same_bytes-itself c.1, same_children-itself cs) refl
  where
    same_number : (n : ℕ) → (n == n) ≡ true
    same_number n = grind (arith, nat_tests)

-- ---- the rows of a path
-- a filter of what is made of a list
filter-map : {A B : Type 0} (f : A → B) (p : B → Bool) (xs : List A) → filter p (map f xs) ≡ map f (filter (λ x. p (f x)) xs)
filter-map f p [] = refl
filter-map f p (x ∷ xs) = go (p (f x)) (filter-map f p xs)
  where
    go : (b : Bool) → filter p (map f xs) ≡ map f (filter (λ x. p (f x)) xs) → cond b (f x ∷ filter p (map f xs)) (filter p (map f xs)) ≡ map f (cond b (x ∷ filter (λ x. p (f x)) xs) (filter (λ x. p (f x)) xs))
    go true e = ap (λ r. f x ∷ r) e
    go false e = e

module _ (w : ℕ) (is : List Item) where
  -- the keys of the rows
  keys_of_rows : (ks : List (List Bool)) → map (λ (r : Row). r.0) (map (row_at w is) ks) ≡ ks
  keys_of_rows [] = refl
  keys_of_rows (k ∷ ks) = ap (λ r. k ∷ r) (keys_of_rows ks)

  rows_at-keys : (o : Option (List Bool)) (ks : List (List Bool)) → rows_at o (map (row_at w is) ks) ≡ map (row_at w is) (keys_at o ks)
  rows_at-keys None ks = refl
  rows_at-keys (Some k) ks = filter-map (row_at w is) (λ (r : Row). same_key k r.0) ks

  rows_in-keys : (s : List Bool) (ks : List (List Bool)) → rows_in s (map (row_at w is) ks) ≡ map (row_at w is) (keys_in s ks)
  rows_in-keys s ks = ap (λ ls. rows_at (shortest (filter (is_prefix s) ls)) (map (row_at w is) ks)) (keys_of_rows ks) ∙ rows_at-keys (shortest (filter (is_prefix s) ks)) ks

  deepest-key : (c : List Bool) (cs : List (List Bool)) → (deepest (row_at w is c) (map (row_at w is) cs)).0 ≡ last_key_of c cs
  deepest-key c [] = refl
  deepest-key c (d ∷ ds) = deepest-key d ds

  child_toward-keys : (k n : List Bool) (ks : List (List Bool)) → child_toward w k n (map (row_at w is) ks) ≡ map (row_at w is) (key_toward w k n ks)
  child_toward-keys k n ks = go (ltb (length n) (length k))
    where
      go : (b : Bool) → cond b (rows_in (take (length n + w) k) (map (row_at w is) ks)) [] ≡ map (row_at w is) (cond b (keys_in (take (length n + w) k) ks) [])
      go true = rows_in-keys (take (length n + w) k) ks
      go false = refl

  with_child-keys : (k : List Bool) (ks cs : List (List Bool)) → with_child w k (map (row_at w is) ks) (map (row_at w is) cs) ≡ map (row_at w is) (with_key_toward w k ks cs)
  with_child-keys k ks [] = first ks
    where
      first : (ks : List (List Bool)) → take 1 (map (row_at w is) ks) ≡ map (row_at w is) (take 1 ks)
      first [] = refl
      first (c ∷ cs) = refl
  with_child-keys k ks (c ∷ cs) =
      ap (λ n. map (row_at w is) (c ∷ cs) ++ child_toward w k n (map (row_at w is) ks)) (deepest-key c cs)
      ∙ ap (λ r. map (row_at w is) (c ∷ cs) ++ r) (child_toward-keys k (last_key_of c cs) ks)
      ∙ sym (map-append (row_at w is) (c ∷ cs) (key_toward w k (last_key_of c cs) ks))

  -- they are those of its keys
  pub path_rows-keys : (k : List Bool) → path_rows w k (items_table w is) ≡ map (row_at w is) (path_keys w k (node_keys w (places is)))
  unfolding path_rows path_keys items_table
  path_rows-keys k =
      ap (with_child w k (map (row_at w is) (node_keys w (places is)))) (filter-map (row_at w is) (λ (r : Row). is_prefix r.0 k) (node_keys w (places is)))
      ∙ with_child-keys k (node_keys w (places is)) (way k (node_keys w (places is)))

  -- ---- nodes as a path shows them
  -- the node at a key
  abbrev pub shown : List Bool → ProofNode
  shown c = shown_row (row_at w is c)

  -- keys that extend each other have no break
  pub no_break : (n : ℕ) (cs : List (List Bool)) → IsChain cs → first_break extends n (map shown cs) ≡ None
  no_break n [] h = refl
  no_break n (c ∷ []) h = refl
  no_break n (c ∷ d ∷ ds) h = go (is_prefix c d) h.0.0 (ltb (length c) (length d)) (less (length c) (length d) h.0.1) (no_break (suc n) (d ∷ ds) h.1)
    where
      less : (a b : ℕ) → a < b → ltb a b ≡ true
      less a b l = grind (arith, nat_tests)

      go : (p : Bool) → p ≡ true → (l : Bool) → l ≡ true → first_break extends (suc n) (shown d ∷ map shown ds) ≡ None → cond (p && l) (first_break extends (suc n) (shown d ∷ map shown ds)) (Some (suc n)) ≡ None
      go true e true f ih = ih
      go true e false f ih = absurd cc
      go false e l f ih = absurd cc

  -- ---- no two of them disagree
  agree : (c d : List Bool) → disagree (shown c) (shown d) ≡ false
  agree c d = go (same_key c d) refl
    where
      one : (b : Bool) → cond b (cond (same_digest (shown c).digest (shown c).digest && same_children (shown c).children (shown c).children) false true) false ≡ false
      one true = rw (same_digest-itself (shown c).digest, same_children-itself (shown c).children) refl
      one false = refl

      go : (b : Bool) → same_key c d ≡ b → disagree (shown c) (shown d) ≡ false
      go true e = subst (λ d. disagree (shown c) (shown d) ≡ false) (same_key-is c d e) (one (same_key c c))
      go false e = rw e refl

  none_disagrees : (cs : List (List Bool)) (d : List Bool) → disagrees_with (map shown cs) (shown d) ≡ false
  none_disagrees [] d = refl
  none_disagrees (c ∷ cs) d = rw (agree c d) (none_disagrees cs d)

  pub none_differ : (n : ℕ) (cs ds : List (List Bool)) → first_place (disagrees_with (map shown cs)) n (map shown ds) ≡ None
  none_differ n cs [] = refl
  none_differ n cs (d ∷ ds) = rw (none_disagrees cs d) (none_differ (suc n) cs ds)

  -- so such paths are not refused
  pub no_path_refusal : (cs ds : List (List Bool)) (next : Option Refusal) → IsChain cs → IsChain ds → path_refusal (map shown cs) (map shown ds) next ≡ next
  unfolding path_refusal
  no_path_refusal cs ds next p q = rw (no_break 0 cs p, no_break (length (map shown cs)) ds q, none_differ (length (map shown cs)) cs ds) refl
