-- An item list that describes values, and whose stubs stand at their nodes, has the ID of the values.
use Rattle.std.proofs.Common.{◌≡◌, ℕ, zero, suc, ◌+◌, ◌-◌, ◌*◌, ◌/◌, ◌^◌, ◌<◌, ◌≤◌, ◌≢◌, Bool, true, List, [], ◌∷◌, ◌++◌, length, map, refl, sym, ap, ◌∙◌, arith, subst, inl, inr, Option, Some, None, length-append}
use Rattle.std.proofs.lemmas.List.{length-take-le}
use Rattle.sha2.specs.Sha256.{sha256}
use Rattle.base_model.specs.Member.{Member}
use Rattle.base_model.proofs.Bits.{length-bits_of}
use Rattle.trie_model.specs.Bits.{bits_of, is_prefix, common_prefix_all}
use Rattle.trie_model.specs.Hashing.{hashed_string}
use Rattle.trie_model.specs.Ids.{node_key, digest_at, stub_at, below, children, child_of, id}
use Rattle.trie_model.specs.Items.{Item, Val, Stub, position, places, IsItemList, AreValues}
use Rattle.trie_model.specs.Laws.{Describes}
use Rattle.trie_model.specs.Maps.{map_items}
use Rattle.trie_model.specs.Table.{node_keys}
use Rattle.trie_model.proofs.KeySets.{All-of}
use Rattle.trie_model.proofs.Lists.{Member-filter-of, Member-filter-in, flat_map-same}
use Rattle.trie_model.proofs.Lookups.{digest_at-of, digest_at-some, digest_at-is, stub_at-of, stub_at-some, no_stub_at}
use Rattle.trie_model.proofs.NodeKeys.{Met-whole, node_keys-of, node_keys-below}
use Rattle.trie_model.proofs.Positions.{node_key-is_prefix, is_prefix-common_prefix_all}
use Rattle.trie_model.proofs.Prefixes.{is_prefix-through, is_prefix-take, is_prefix-all, is_prefix-append, is_prefix-itself, length-is_prefix, length_whole, prefix_of_whole, prefix_of_common, whole_step}
use Rattle.trie_model.proofs.Tables.{AreValues-below, AreValues-map_items, below-below, places-below, root_met, root_begins}
use Rattle.trie_model.proofs.Unfold.{below_shrinks, id_unfolds}
use Rattle.trie_model.proofs.Valid.{valid_by_members, map_items-IsValid}
use Rattle.proof_model.proofs.PathKeys.{shorter_begins}
use Rattle.proof_model.specs.TrueClaims.{StubsStandAtNodes, DescribedHasTheRoot}

-- some items of an item list are one
pub IsItemList-part : (w : ℕ) (js is : List Item) → ((i : Item) → Member js i → Member is i) → IsItemList w is → IsItemList w js
IsItemList-part w js is of v = record {
  val_whole = λ k d h. v.val_whole k d (of (Val k d) h);
  val_one = λ k d e h g. v.val_one k d e (of (Val k d) h) (of (Val k e) g);
  stub_whole = λ p x h. v.stub_whole p x (of (Stub p x) h);
  stub_alone = λ p x i h g b. v.stub_alone p x i (of (Stub p x) h) (of i g) b;
  stub_32 = λ p x h. v.stub_32 p x (of (Stub p x) h);
}

-- a list, and the values that it describes
pub record Drawn (w : ℕ) (is ns : List Item) : Type 0 where
  pub list : IsItemList w is
  pub one : IsItemList w ns
  pub values : AreValues w ns
  pub says : Describes w is ns
  pub stands : StubsStandAtNodes w is ns

-- the items below a slot are among the items
below-of : (w : ℕ) (s : List Bool) (is : List Item) (i : Item) → Member (below w s is) i → Member is i
below-of w s is i m = (Member-filter-of (λ j. is_prefix s (position w j)) is i m).0

-- ---- stubs
module _ (w : ℕ) (is ns : List Item) (d : Drawn w is ns) (p : List Bool) (x : List ℕ) (h : Member is (Stub p x)) where
  -- a stub stands a token above its slot
  stub_length : length (position w (Stub p x)) + w ≡ length p
  stub_length = let n = d.list.stub_whole p x h in let l = length-take-le (length p - w) p (omega arith) in omega (arith, l, n.1)

  -- its slot begins with where it stands
  stub_begins : is_prefix (position w (Stub p x)) p ≡ true
  stub_begins = is_prefix-take (length p - w) p

-- ---- the root node
module _ (w : ℕ) (i : Item) (is : List Item) (j : Item) (ns : List Item) (d : Drawn w (i ∷ is) (j ∷ ns)) where
  root_whole : (n : ℕ) × (length (node_key w (j ∷ ns)) ≡ w * n)
  root_whole = Met-whole w (places (j ∷ ns)) (node_key w (j ∷ ns)) d.values.pos (root_met w j ns d.values)

  -- the key of the values' root node begins where each item stands
  root_of_values : (x : Item) → Member (i ∷ is) x → is_prefix (node_key w (j ∷ ns)) (position w x) ≡ true
  root_of_values (Val k c) m = node_key-is_prefix w (j ∷ ns) (Val k c) (d.says.val k c m)
  root_of_values (Stub p x) m =
      let r = node_keys-of w (places (j ∷ ns)) (position w (Stub p x)) d.values.pos d.values.whole (d.stands p x m) in
      subst (λ c. is_prefix (node_key w (j ∷ ns)) c ≡ true) (sym r.same)
      (prefix_of_common w root_whole.0 (node_key w (j ∷ ns)) r.a r.b d.values.pos root_whole.1 (root_begins w (j ∷ ns) d.values.values r.a r.in_a) (root_begins w (j ∷ ns) d.values.values r.b r.in_b))

  -- the key of the list's root node begins each key
  root_of_list : (y : Item) → Member (j ∷ ns) y → is_prefix (node_key w (i ∷ is)) (position w y) ≡ true
  root_of_list (Stub p x) m = absurd (d.values.values p x m)
  root_of_list (Val k c) m = elim (d.says.only k c m) [
    | inl g ↦ node_key-is_prefix w (i ∷ is) (Val k c) g
    | inr g ↦
        let s = node_key-is_prefix w (i ∷ is) (Stub g.0 g.1) g.2 in
        is_prefix-through (node_key w (i ∷ is)) (position w (Stub g.0 g.1)) k s
        (is_prefix-through (position w (Stub g.0 g.1)) g.0 k (stub_begins w (i ∷ is) (j ∷ ns) d g.0 g.1 g.2) g.3)
  ]

  -- so both have one key
  roots_agree : node_key w (i ∷ is) ≡ node_key w (j ∷ ns)
  roots_agree =
      let k = node_key w (i ∷ is) in
      let n = node_key w (j ∷ ns) in
      let up : is_prefix n k ≡ true = prefix_of_whole w root_whole.0 n (common_prefix_all (map (position w) (i ∷ is))) d.values.pos root_whole.1
      (is_prefix-common_prefix_all w n i is (All-of (λ x. is_prefix n (position w x) ≡ true) (i ∷ is) root_of_values)) in
      let down : is_prefix k n ≡ true = prefix_of_whole w (length (common_prefix_all (map (position w) (i ∷ is))) / w) k (common_prefix_all (map (position w) (j ∷ ns))) d.values.pos (length_whole w (common_prefix_all (map (position w) (i ∷ is))) d.values.pos)
      (is_prefix-common_prefix_all w k j ns (All-of (λ x. is_prefix k (position w x) ≡ true) (j ∷ ns) root_of_list)) in
      is_prefix-all n k up (length-is_prefix k n down)

  -- and one digest
  digests_agree : digest_at (node_key w (j ∷ ns)) (i ∷ is) ≡ digest_at (node_key w (j ∷ ns)) (j ∷ ns)
  digests_agree = go (digest_at n (i ∷ is)) refl (digest_at n (j ∷ ns)) refl
    where
      n : List Bool
      n = node_key w (j ∷ ns)

      go : (a : Option (List ℕ)) → digest_at n (i ∷ is) ≡ a → (b : Option (List ℕ)) → digest_at n (j ∷ ns) ≡ b → a ≡ b
      go a e (Some c) f = elim (d.says.only n c (digest_at-of n (j ∷ ns) c f)) [
        | inl g ↦ sym e ∙ digest_at-is w n (i ∷ is) c d.list g
        | inr g ↦ absurd (
            let a = length-is_prefix g.0 n g.3 in
            let b = length-is_prefix n (position w (Stub g.0 g.1)) (root_of_values (Stub g.0 g.1) g.2) in
            let c = stub_length w (i ∷ is) (j ∷ ns) d g.0 g.1 g.2 in
            omega (arith, d.values.pos, a, b, c))
      ]
      go None e None f = refl
      go (Some c) e None f = absurd (let s = digest_at-some n (j ∷ ns) c (d.says.val n c (digest_at-of n (i ∷ is) c e)) in let g : None ≡ Some s.0 = sym f ∙ s.1 in cc)

-- ---- the items below a token
module _ (w n : ℕ) (k s : List Bool) (is ns : List Item) (d : Drawn w is ns) (whole : length k ≡ w * n) (long : length s ≡ length k + w) (starts : is_prefix k s ≡ true)
    (begins : (x : Item) → Member is x → is_prefix k (position w x) ≡ true) (bare : stub_at s is ≡ None) where
  slot_whole : length s ≡ w * suc n
  slot_whole = omega (arith, long, whole)

  -- a stub whose slot lies as the token does stands below the token
  stub_below : (p : List Bool) (x : List ℕ) (l : List Bool) → Member is (Stub p x) → is_prefix p l ≡ true → is_prefix s l ≡ true → is_prefix s (position w (Stub p x)) ≡ true
  stub_below p x l m b c =
      let tall = stub_length w is ns d p x m in
      let front = stub_begins w is ns d p x m in
      let q = d.list.stub_whole p x m in
      let room = length-is_prefix k (position w (Stub p x)) (begins (Stub p x) m) in
      elim (whole_step w n q.0 (omega (arith, room, whole, tall, q.1))) [
        | inl e ↦
            let same : length p ≡ length s = omega (arith, e, tall, q.1, whole, long, room) in
            let g : p ≡ s = is_prefix-all s p (shorter_begins s p l c b (omega (arith, same))) (omega (arith, same)) in
            absurd (stub_at-some p is x m (ap (λ s. stub_at s is) g ∙ bare))
        | inr e ↦ shorter_begins s (position w (Stub p x)) l c (is_prefix-through (position w (Stub p x)) p l front b) (omega (arith, e, tall, q.1, whole, long))
      ]

  -- so the items below the token describe the values there
  says_below : Describes w (below w s is) (below w s ns)
  says_below = record {
    val = λ l c m. let f = Member-filter-of (λ j. is_prefix s (position w j)) is (Val l c) m in Member-filter-in (λ j. is_prefix s (position w j)) ns (Val l c) (d.says.val l c f.0) f.1;
    only = λ l c m.
        let f = Member-filter-of (λ j. is_prefix s (position w j)) ns (Val l c) m in
        elim (d.says.only l c f.0) [
          | inl g ↦ inl (Member-filter-in (λ j. is_prefix s (position w j)) is (Val l c) g f.1)
          | inr g ↦ inr (g.0, g.1, Member-filter-in (λ j. is_prefix s (position w j)) is (Stub g.0 g.1) g.2 (stub_below g.0 g.1 l g.2 g.3 f.1), g.3)
        ];
    stub = λ p x m.
        let f = Member-filter-of (λ j. is_prefix s (position w j)) is (Stub p x) m in
        let b = is_prefix-through s (position w (Stub p x)) p f.1 (stub_begins w is ns d p x f.0) in
        subst (λ r. (x ≡ id w r) × (r ≢ [])) (sym (below-below w s p ns b)) (d.says.stub p x f.0);
  }

  -- and its stubs stand at their nodes
  stands_below : StubsStandAtNodes w (below w s is) (below w s ns)
  stands_below p x m =
      let f = Member-filter-of (λ j. is_prefix s (position w j)) is (Stub p x) m in
      subst (λ ks. Member ks (position w (Stub p x))) (node_keys-below w (suc n) s (places ns) d.values.pos slot_whole d.values.whole ∙ ap (node_keys w) (sym (places-below w s ns d.values.values)))
      (Member-filter-in (is_prefix s) (node_keys w (places ns)) (position w (Stub p x)) (d.stands p x f.0) f.1)

  drawn_below : Drawn w (below w s is) (below w s ns)
  drawn_below = record {
    list = IsItemList-part w (below w s is) is (below-of w s is) d.list;
    one = IsItemList-part w (below w s ns) ns (below-of w s ns) d.one;
    values = AreValues-below w s ns d.values;
    says = says_below;
    stands = stands_below;
  }

-- ---- IDs
-- no items describe no values alone
none_of_none : (w : ℕ) (j : Item) (ns : List Item) → Drawn w [] (j ∷ ns) → ⊥
none_of_none w (Val k c) ns d = elim (d.says.only k c (inl refl)) [ inl g ↦ g | inr g ↦ g.2 ]
none_of_none w (Stub p x) ns d = d.values.values p x (inl refl)

-- and no values are described by none
some_of_none : (w : ℕ) (i : Item) (is : List Item) → Drawn w (i ∷ is) [] → ⊥
some_of_none w (Val k c) is d = d.says.val k c (inl refl)
some_of_none w (Stub p x) is d = (d.says.stub p x (inl refl)).1 refl

-- a token has the same child for the list and for its values, where what lies below it has one ID
child_agrees : (w t : ℕ) (s : List Bool) (o : Option (List ℕ)) (b c : List Item) → ((x : List ℕ) → o ≡ Some x → (x ≡ id w c) × (c ≢ [])) → (o ≡ None → Drawn w b c × (id w b ≡ id w c)) →
    child_of (id w) t o b ≡ child_of (id w) t None c
child_agrees w t s (Some x) b [] f g = absurd ((f x refl).1 refl)
child_agrees w t s (Some x) b (c ∷ cs) f g = ap (λ x. (t, x) ∷ []) (f x refl).0
child_agrees w t s None [] [] f g = refl
child_agrees w t s None [] (c ∷ cs) f g = absurd (none_of_none w c cs (g refl).0)
child_agrees w t s None (b ∷ bs) [] f g = absurd (some_of_none w b bs (g refl).0)
child_agrees w t s None (b ∷ bs) (c ∷ cs) f g = ap (λ x. (t, x) ∷ []) (g refl).1

-- the ID of a list of at most n items is that of the values
id_within-drawn : (n w : ℕ) (is ns : List Item) → length is ≤ n → Drawn w is ns → id w is ≡ id w ns
unfolding children
id_within-drawn n w [] [] l d = refl
id_within-drawn n w [] (j ∷ ns) l d = absurd (none_of_none w j ns d)
id_within-drawn n w (i ∷ is) [] l d = absurd (some_of_none w i is d)
id_within-drawn zero w (i ∷ is) (j ∷ ns) l d = absurd (omega arith)
id_within-drawn (suc n) w (i ∷ is) (j ∷ ns) l d =
    let k = node_key w (j ∷ ns) in
    let one = roots_agree w i is j ns d in
    let whole = root_whole w i is j ns d in
    id_unfolds w i is d.values.pos
    ∙ ap (λ k. sha256 (hashed_string k (digest_at k (i ∷ is)) (children (id w) w k (i ∷ is)))) one
    ∙ ap (λ c. sha256 (hashed_string k c (children (id w) w k (i ∷ is)))) (digests_agree w i is j ns d)
    ∙ ap (λ cs. sha256 (hashed_string k (digest_at k (j ∷ ns)) cs)) (flat_map-same
    (λ t. child_of (id w) t (stub_at (k ++ bits_of w t) (i ∷ is)) (below w (k ++ bits_of w t) (i ∷ is)))
    (λ t. child_of (id w) t (stub_at (k ++ bits_of w t) (j ∷ ns)) (below w (k ++ bits_of w t) (j ∷ ns)))
    0 (2 ^ w) (λ t a b.
    let s = k ++ bits_of w t in
    let fewer : length (below w s (i ∷ is)) < length (i ∷ is) = subst (λ k. length (below w (k ++ bits_of w t) (i ∷ is)) < length (i ∷ is)) one (below_shrinks w t i is d.values.pos) in
    child_agrees w t s (stub_at s (i ∷ is)) (below w s (i ∷ is)) (below w s (j ∷ ns)) (λ x e. d.says.stub s x (stub_at-of s (i ∷ is) x e)) (λ e.
    let below_it = drawn_below w whole.0 k s (i ∷ is) (j ∷ ns) d whole.1 (length-append k (bits_of w t) ∙ ap (λ l. length k + l) (length-bits_of w t)) (is_prefix-append k k (bits_of w t) (is_prefix-itself k)) (root_of_values w i is j ns d) e in
    (below_it, id_within-drawn n w (below w s (i ∷ is)) (below w s (j ∷ ns)) (omega (arith, fewer, l)) below_it))
    ∙ ap (λ o. child_of (id w) t o (below w s (j ∷ ns))) (sym (no_stub_at s (j ∷ ns) d.values.values))))
    ∙ sym (id_unfolds w j ns d.values.pos)

-- a list has the ID of the values that it describes
pub id-drawn : (w : ℕ) (is ns : List Item) → Drawn w is ns → id w is ≡ id w ns
id-drawn w is ns d = id_within-drawn (length is) w is ns (omega arith) d

pub described_has_the_root : DescribedHasTheRoot
described_has_the_root l w is m ww v h d s = id-drawn w is (map_items m) (record {
  list = valid_by_members w is v;
  one = valid_by_members w (map_items m) (map_items-IsValid l w m ww h);
  values = AreValues-map_items l w m ww h;
  says = d;
  stands = s;
})
