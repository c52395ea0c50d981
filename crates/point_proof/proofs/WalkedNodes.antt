-- The nodes of a table that are met on the way down to a key are those of its path.
use Rattle.std.proofs.Common.{◌≡◌, ◌≢◌, ℕ, zero, suc, ◌+◌, ◌*◌, ◌/◌, ◌^◌, ◌<◌, ◌≤◌, Bool, true, false, cond, leb, ◌&&◌, eqb, List, [], ◌∷◌, ◌++◌, length, take, drop, map, refl, sym, ap, ◌∙◌, arith, subst, ◌⊎◌, inl, inr, length-drop, Option, Some, None}
use Rattle.std.specs.List.{filter, flat_map}
use Rattle.std.specs.FinMap.{entries}
use Rattle.std.proofs.Math.Nat.{mul_assoc}
use Rattle.std.proofs.Math.Seq.{take-add}
use Rattle.std.proofs.lemmas.Bool.{cases_lt}
use Rattle.std.proofs.lemmas.Bool.Decides.{nat_tests}
use Rattle.std.proofs.lemmas.List.{length-take-le}
use Rattle.base_model.specs.Member.{Member}
use Rattle.base_model.proofs.Bits.{number-small, bits_of-number_of}
use Rattle.base_model.proofs.PackedBits.{length-bits_of_bytes}
use Rattle.trie_model.specs.Bits.{bits_of, bits_of_bytes, number_of, is_prefix, same_key, token_at, IsRising, IsWidth}
use Rattle.trie_model.specs.Ids.{numbers_from, digest_at, below, id}
use Rattle.trie_model.specs.Items.{Item, Val, places, AreValues, NoStubs}
use Rattle.trie_model.specs.Maps.{Map, map_items, entry_item}
use Rattle.trie_model.specs.StoredNode.{StoredChild}
use Rattle.trie_model.specs.Table.{in_order, node_keys, shortest, child_key, is_some, kept_child, table_node, row_at, items_table, table}
use Rattle.trie_model.proofs.KeySets.{in_order-of, in_order-in, in_order-rises, one_order, All-of}
use Rattle.trie_model.proofs.Lists.{All-member, Member-filter-of}
use Rattle.trie_model.proofs.NodeKeys.{AreTokens, node_keys-of, node_keys-in, node_keys-rise}
use Rattle.trie_model.proofs.Prefixes.{same_key-is, same_key-itself, split_prefix, take-is_prefix, length_whole, whole_of_whole}
use Rattle.trie_items.specs.Shown.{child_at, child_named, rest_of}
use Rattle.trie_items.specs.Sources.{first_key, row_of}
use Rattle.proof_model.specs.Paths.{ProofNode, shown_row, path_rows, path}
use Rattle.proof_model.proofs.PathKeys.{AreNodeKeys, path_keys, shortest_in}
use Rattle.proof_model.proofs.TruePaths.{node_keys-AreNodeKeys, path_rows-keys}
use Rattle.point_proof.specs.WaysDown.{key_in_slot, goes_on, next_on_way, with_node, go_on, way, whole_way}
use Rattle.point_proof.proofs.WalkedKeys.{next_key_on, walk, first_of, walked_whole}

-- ---- node keys of any keys of whole tokens

plain : List Bool → Item
plain k = Val k []

plain_places : (ks : List (List Bool)) → places (map plain ks) ≡ ks
unfolding plain
plain_places [] = refl
plain_places (k ∷ ks) = ap (λ r. k ∷ r) (plain_places ks)

plain_values : (ks : List (List Bool)) → NoStubs (map plain ks)
unfolding plain
plain_values [] p x m = m
plain_values (k ∷ ks) p x (inl e) = absurd cc
plain_values (k ∷ ks) p x (inr m) = plain_values ks p x m

-- keys in their order have the node keys of the keys
same_keys : (w : ℕ) (ks : List (List Bool)) → 0 < w → AreTokens w ks → AreTokens w (in_order ks) → node_keys w (in_order ks) ≡ node_keys w ks
same_keys w ks pos h g = one_order (node_keys w (in_order ks)) (node_keys w ks) (node_keys-rise w (in_order ks)) (node_keys-rise w ks)
    (λ c m. let r = node_keys-of w (in_order ks) c pos g m in node_keys-in w ks c (record { a = r.a; b = r.b; in_a = in_order-of ks r.a r.in_a; in_b = in_order-of ks r.b r.in_b; same = r.same }))
    (λ c m. let r = node_keys-of w ks c pos h m in node_keys-in w (in_order ks) c (record { a = r.a; b = r.b; in_a = in_order-in ks r.a r.in_a; in_b = in_order-in ks r.b r.in_b; same = r.same }))

are_node_keys : (w : ℕ) (ks : List (List Bool)) → 0 < w → AreTokens w ks → AreNodeKeys w (node_keys w ks)
are_node_keys w ks pos h =
    let g : AreTokens w (in_order ks) = All-of (λ (k : List Bool). (n : ℕ) × (length k ≡ w * n)) (in_order ks) (λ k m. All-member (λ (k : List Bool). (n : ℕ) × (length k ≡ w * n)) ks k h (in_order-of ks k m)) in
    let v : AreValues w (map plain (in_order ks)) = record {
      pos = pos;
      values = plain_values (in_order ks);
      whole = subst (AreTokens w) (sym (plain_places (in_order ks))) g;
      rises = subst IsRising (sym (plain_places (in_order ks))) (in_order-rises ks);
    } in
    subst (AreNodeKeys w) (ap (node_keys w) (plain_places (in_order ks)) ∙ same_keys w ks pos h g) (node_keys-AreNodeKeys w (map plain (in_order ks)) v)

-- ---- the child at a token

same_number : (n : ℕ) → eqb n n ≡ true
same_number n = grind (arith, nat_tests)

other_number : (m n : ℕ) → m ≢ n → eqb m n ≡ false
other_number m n h = grind (arith, nat_tests)

module _ (w : ℕ) (n : List Bool) (is : List Item) (slot : ℕ → List Bool) (key : ℕ → Option (List Bool)) where
  -- what is kept at each token
  abbrev kept : ℕ → List StoredChild
  kept t = kept_child w (length n) t (slot t) (key t) is

  abbrev made : ℕ → List Bool → StoredChild
  made t c = record { index = t; rest = drop (length n + w) c; id = id w (below w (slot t) is); has_value = is_some (digest_at c is) }

  -- none is kept at a lower token
  none_below : (a m t : ℕ) → t < a → child_at t (flat_map kept (numbers_from a m)) ≡ None
  none_below a zero t l = refl
  none_below a (suc m) t l = go (key a) (none_below (suc a) m t (omega arith))
    where
      go : (o : Option (List Bool)) → child_at t (flat_map kept (numbers_from (suc a) m)) ≡ None → child_at t (kept_child w (length n) a (slot a) o is ++ flat_map kept (numbers_from (suc a) m)) ≡ None
      go None ih = ih
      go (Some c) ih = ap (λ b. cond b (Some (made a c)) (child_at t (flat_map kept (numbers_from (suc a) m)))) (other_number a t (λ e. omega (arith, e, l))) ∙ ih

  -- what is kept at a token is found there
  pub child_at-kept : (a m t : ℕ) → a ≤ t → t < a + m → child_at t (flat_map kept (numbers_from a m)) ≡ child_at t (kept t)
  child_at-kept a zero t l h = absurd (omega arith)
  child_at-kept a (suc m) t l h = which (cases_lt a t) (λ p. child_at-kept (suc a) m t p (omega arith))
    where
      later : (o : Option (List Bool)) → a < t → child_at t (flat_map kept (numbers_from (suc a) m)) ≡ child_at t (kept t) → child_at t (kept_child w (length n) a (slot a) o is ++ flat_map kept (numbers_from (suc a) m)) ≡ child_at t (kept t)
      later None p ih = ih
      later (Some c) p ih = ap (λ b. cond b (Some (made a c)) (child_at t (flat_map kept (numbers_from (suc a) m)))) (other_number a t (λ e. omega (arith, e, p))) ∙ ih

      here : (o : Option (List Bool)) → child_at a (kept_child w (length n) a (slot a) o is ++ flat_map kept (numbers_from (suc a) m)) ≡ child_at a (kept_child w (length n) a (slot a) o is)
      here None = none_below (suc a) m a (omega arith)
      here (Some c) = ap (λ b. cond b (Some (made a c)) (child_at a (flat_map kept (numbers_from (suc a) m)))) (same_number a) ∙ sym (ap (λ b. cond b (Some (made a c)) None) (same_number a))

      which : (a < t) ⊎ (t ≤ a) → (suc a ≤ t → child_at t (flat_map kept (numbers_from (suc a) m)) ≡ child_at t (kept t)) → child_at t (flat_map kept (numbers_from a (suc m))) ≡ child_at t (kept t)
      which (inl p) ih = later (key a) p (ih (omega arith))
      which (inr p) ih = subst (λ t. child_at t (flat_map kept (numbers_from a (suc m))) ≡ child_at t (kept t)) (omega arith) (here (key a))

-- ---- the next node

module _ (w : ℕ) (is : List Item) where
  abbrev keys : List (List Bool)
  keys = node_keys w (places is)

  -- a node key has its node
  row_of-key : (ks : List (List Bool)) (c : List Bool) → Member ks c → row_of c (map (row_at w is) ks) ≡ Some (table_node w is c)
  row_of-key [] c m = absurd m
  row_of-key (k ∷ ks) c m = go (same_key c k) refl m (row_of-key ks c)
    where
      go : (b : Bool) → same_key c k ≡ b → Member (k ∷ ks) c → (Member ks c → row_of c (map (row_at w is) ks) ≡ Some (table_node w is c)) → cond b (Some (table_node w is k)) (row_of c (map (row_at w is) ks)) ≡ Some (table_node w is c)
      go true e m ih = ap (λ k. Some (table_node w is k)) (sym (same_key-is c k e))
      go false e (inl f) ih = absurd (let g : same_key c k ≡ true = subst (λ k. same_key c k ≡ true) (sym f) (same_key-itself c) in cc)
      go false e (inr m) ih = ih m

  first_key-is : (ks : List (List Bool)) → first_key (map (row_at w is) ks) ≡ first_of ks
  first_key-is [] = refl
  first_key-is (k ∷ ks) = refl

  -- the slot of n in which k lies, where n begins k
  slot_is : (k n : List Bool) → is_prefix n k ≡ true → length n + w ≤ length k → (b : List Bool) × (length b ≡ w) × (token_at w (length n) k ≡ number_of b) × (n ++ b ≡ take (length n + w) k)
  slot_is k n p l =
      let b = take w (drop (length n) k) in
      let size : length b ≡ w = length-take-le w (drop (length n) k) (omega (arith, l, length-drop (length n) k)) in
      (b, size, refl, ap (λ a. a ++ b) (sym (take-is_prefix n k p)) ∙ sym (take-add (length n) w k))

  -- the child that a node keeps at a token has the key of the child in the slot
  found : (k n : List Bool) (t : ℕ) → t < 2 ^ w → n ++ bits_of w t ≡ take (length n + w) k → length n + w ≤ length k
      → key_in_slot w k n (rest_of (child_at t (table_node w is n).children)) ≡ shortest (filter (is_prefix (take (length n + w) k)) keys)
  unfolding table_node
  found k n t small e l =
      ap (λ o. key_in_slot w k n (rest_of o)) (child_at-kept w n is (λ t. n ++ bits_of w t) (λ t. child_key w (places is) (n ++ bits_of w t)) 0 (2 ^ w) t (omega arith) (omega arith))
      ∙ go (child_key w (places is) (n ++ bits_of w t)) refl
      ∙ ap (λ s. shortest (filter (is_prefix s) keys)) e
    where
      go : (o : Option (List Bool)) → child_key w (places is) (n ++ bits_of w t) ≡ o → key_in_slot w k n (rest_of (child_at t (kept_child w (length n) t (n ++ bits_of w t) o is))) ≡ o
      go None f = refl
      go (Some c) f =
          let s = take (length n + w) k in
          let size : length s ≡ length n + w = length-take-le (length n + w) k l in
          let begins : is_prefix s c ≡ true = subst (λ s. is_prefix s c ≡ true) e (Member-filter-of (is_prefix (n ++ bits_of w t)) keys c (shortest_in (filter (is_prefix (n ++ bits_of w t)) keys) c f)).1 in
          ap (λ b. key_in_slot w k n (rest_of (cond b (Some (record { index = t; rest = drop (length n + w) c; id = id w (below w (n ++ bits_of w t) is); has_value = is_some (digest_at c is) })) None))) (same_number t)
          ∙ ap Some (ap (λ a. s ++ drop a c) (sym size) ∙ sym (split_prefix s c begins))

  -- so the next node is the one toward k
  next_is : (k n : List Bool) → 0 < w → (a : ℕ) × (length n ≡ w * a) → next_on_way w k n (table_node w is n) ≡ next_key_on w keys k n
  next_is k n pos whole = go (is_prefix n k) refl (leb (length n + w) (length k)) refl
    where
      toward : Bool → Bool → Option (List Bool)
      toward p q = cond (p && q) (key_in_slot w k n (rest_of (child_named (cond (p && q) (Some (token_at w (w * (length n / w)) k)) None) (table_node w is n).children))) None

      go : (p : Bool) → is_prefix n k ≡ p → (q : Bool) → leb (length n + w) (length k) ≡ q
          → toward p q ≡ cond (p && q) (shortest (filter (is_prefix (take (length n + w) k)) keys)) None
      go false e q f = refl
      go true e false f = refl
      go true e true f =
          let l : length n + w ≤ length k = fits (length n + w) (length k) f in
          let s = slot_is k n e l in
          let at : w * (length n / w) ≡ length n = sym (length_whole w n pos) ∙ ap length (whole_of_whole w whole.0 n pos whole.1) in
          let small = subst (λ m. number_of s.0 < 2 ^ m) s.1 (number-small s.0) in
          let bits : bits_of w (number_of s.0) ≡ s.0 = ap (λ m. bits_of m (number_of s.0)) (sym s.1) ∙ bits_of-number_of s.0 in
          ap (λ a. key_in_slot w k n (rest_of (child_at (token_at w a k) (table_node w is n).children))) at
          ∙ ap (λ t. key_in_slot w k n (rest_of (child_at t (table_node w is n).children))) s.2
          ∙ found k n (number_of s.0) small (ap (λ b. n ++ b) bits ∙ s.3) l
        where
          fits : (a b : ℕ) → leb a b ≡ true → a ≤ b
          fits a b h = grind (arith, nat_tests)

  -- ---- the way
  abbrev shown : List Bool → ProofNode
  shown c = shown_row (row_at w is c)

  module _ (v : AreNodeKeys w keys) (k : List Bool) where
    way-walk : (f : ℕ) (n : List Bool) → Member keys n → way w f (map (row_at w is) keys) k n ≡ map shown (walk w f keys k n)
    unfolding way walk
    way-walk zero n m = refl
    way-walk (suc f) n m =
        ap (λ o. with_node n o (λ x. go_on (next_on_way w k n x) (way w f (map (row_at w is) keys) k))) (row_of-key keys n m)
        ∙ ap (λ r. shown n ∷ r) (ap (λ o. go_on o (way w f (map (row_at w is) keys) k)) (next_is k n v.pos (v.whole n m)) ∙ go (next_key_on w keys k n) refl (way-walk f))
      where
        into : (c : List Bool) (b : Bool) → cond b (shortest (filter (is_prefix (take (length n + w) k)) keys)) None ≡ Some c → Member keys c
        into c true e = (Member-filter-of (is_prefix (take (length n + w) k)) keys c (shortest_in (filter (is_prefix (take (length n + w) k)) keys) c e)).0
        into c false e = absurd cc

        go : (o : Option (List Bool)) → next_key_on w keys k n ≡ o → ((c : List Bool) → Member keys c → way w f (map (row_at w is) keys) k c ≡ map shown (walk w f keys k c)) → go_on o (way w f (map (row_at w is) keys) k) ≡ map shown (go_on o (walk w f keys k))
        go None e ih = refl
        go (Some c) e ih = ih c (into c (goes_on w k n) e)

    whole_way-walk : (o : Option (List Bool)) → first_of keys ≡ o → go_on o (way w (suc (length k)) (map (row_at w is) keys) k) ≡ map shown (go_on o (walk w (suc (length k)) keys k))
    whole_way-walk None e = refl
    whole_way-walk (Some c) e = way-walk (suc (length k)) c (into keys e)
      where
        into : (ks : List (List Bool)) → first_of ks ≡ Some c → Member ks c
        into [] e = absurd cc
        into (d ∷ ds) e = inl cc

  shown_rows : (ks : List (List Bool)) → map shown_row (map (row_at w is) ks) ≡ map shown ks
  shown_rows [] = refl
  shown_rows (k ∷ ks) = ap (λ r. shown k ∷ r) (shown_rows ks)

  -- the whole way is the path
  pub whole_way-path : (k : List Bool) → 0 < w → AreTokens w (places is) → (n : ℕ) × (length k ≡ w * n) → whole_way w (items_table w is) k ≡ map shown_row (path_rows w k (items_table w is))
  unfolding items_table
  whole_way-path k pos h tall =
      let v = are_node_keys w (places is) pos h in
      ap (λ o. go_on o (way w (suc (length k)) (map (row_at w is) keys) k)) (first_key-is keys)
      ∙ whole_way-walk v k (first_of keys) refl
      ∙ ap (map shown) (walked_whole w keys v k tall)
      ∙ sym (shown_rows (path_keys w k keys))
      ∙ ap (map shown_row) (sym (path_rows-keys w is k))

-- ---- maps

whole_entries : (w : ℕ) (es : List (List ℕ × List ℕ)) → IsWidth w → AreTokens w (places (map entry_item es))
whole_entries w [] ww = tt
whole_entries w (e ∷ es) ww = ((ww.1.0 * length e.0, length-bits_of_bytes e.0 ∙ ap (λ c. c * length e.0) ww.1.1 ∙ mul_assoc w ww.1.0 (length e.0)), whole_entries w es ww)

-- the way down to a key of a map is its path
pub way-path : (w : ℕ) (m : Map) (key : List ℕ) → IsWidth w → whole_way w (table w m) (bits_of_bytes key) ≡ path w m key
way-path w m key ww =
    whole_way-path w (map_items m) (bits_of_bytes key) ww.0 (whole_entries w (entries m) ww)
    (ww.1.0 * length key, length-bits_of_bytes key ∙ ap (λ c. c * length key) ww.1.1 ∙ mul_assoc w ww.1.0 (length key))
