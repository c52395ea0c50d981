-- Soundness by the members of item lists: where a list and a list of values alone have
-- one ID, they agree token by token down to the leaves, or a break is found on the way.
use Rattle.std.proofs.Common.{◌≡◌, ◌≢◌, ℕ, zero, suc, ◌+◌, ◌-◌, ◌^◌, ◌<◌, ◌≤◌, Bool, true, List, [], ◌∷◌, ◌++◌, length, refl, sym, ap, ◌∙◌, arith, subst, length-append, ◌⊎◌, inl, inr, Option, Some, None}
use Rattle.std.specs.List.{flat_map}
use Rattle.sha2.proofs.Facts256.{length-sha256}
use Rattle.base_model.specs.Member.{Member}
use Rattle.trie_model.proofs.Prefixes.{is_prefix-through, is_prefix-take, is_prefix-all, branches}
use Rattle.base_model.proofs.Bits.{length-bits_of}
use Rattle.trie_model.proofs.HashedString.{hashed_string-apart}
use Rattle.trie_model.proofs.Lists.{Member-filter-of, Member-filter-in, filter-filter}
use Rattle.trie_model.proofs.Unfold.{below_shrinks, id_unfolds}
use Rattle.trie_model.specs.Bits.{bits_of, is_prefix}
use Rattle.trie_model.specs.Hashing.{hash_length, zero_id, Are32}
use Rattle.trie_model.specs.Ids.{node_key, digest_at, stub_at, below, children, child_of, numbers_from, id_within, id}
use Rattle.trie_model.specs.Items.{Item, Val, Stub, position, IsItemList, NoStubs}
use Rattle.trie_model.specs.Laws.{Describes}
use Rattle.trie_model.specs.Strings.{strings, Break, twins, zero_first, zero_second}
use Rattle.std.proofs.lemmas.Bool.{cases_lt}
use Rattle.std.proofs.lemmas.List.{length-take-le}
use Rattle.trie_model.proofs.Positions.{stands_at}
use Rattle.trie_model.proofs.Lookups.{digest_at-of, digest_at-is, stub_at-of, stub_at-some, no_stub_at, NoStubs-below}
use Rattle.trie_model.proofs.Strings.{Break-wider, bytes_same_or_not, root_string, strings_head, strings_child}

-- ---- a list below a slot
-- the items below a slot are an item list
IsItemList-below : (w : ℕ) (s : List Bool) (is : List Item) → IsItemList w is → IsItemList w (below w s is)
IsItemList-below w s is v = record {
  val_whole = λ k d h. v.val_whole k d (of (Val k d) h);
  val_one = λ k d e h g. v.val_one k d e (of (Val k d) h) (of (Val k e) g);
  stub_whole = λ p x h. v.stub_whole p x (of (Stub p x) h);
  stub_alone = λ p x i h g b. v.stub_alone p x i (of (Stub p x) h) (of i g) b;
  stub_32 = λ p x h. v.stub_32 p x (of (Stub p x) h);
}
  where
    of : (i : Item) → Member (below w s is) i → Member is i
    of i h = (Member-filter-of (λ j. is_prefix s (position w j)) is i h).0

-- ---- children, token by token
-- no child, or one with index t
data NoneOrOne (t : ℕ) (cs : List (ℕ × List ℕ)) : Type 0 where
  no : cs ≡ [] → NoneOrOne t cs
  yes : (x : List ℕ) → cs ≡ (t, x) ∷ [] → NoneOrOne t cs

-- a token has one child at most
child_of-NoneOrOne : (f : List Item → List ℕ) (t : ℕ) (o : Option (List ℕ)) (is : List Item) → NoneOrOne t (child_of f t o is)
child_of-NoneOrOne f t (Some x) is = yes x refl
child_of-NoneOrOne f t None [] = no refl
child_of-NoneOrOne f t None (i ∷ is) = yes (f (i ∷ is)) refl

-- the first child's index is no smaller than where the run begins
first_index : (F : ℕ → List (ℕ × List ℕ)) (a n u : ℕ) (x : List ℕ) (rest : List (ℕ × List ℕ)) → ((t : ℕ) → NoneOrOne t (F t)) → flat_map F (numbers_from a n) ≡ (u, x) ∷ rest → a ≤ u
first_index F a zero u x rest one e = absurd (cc)
first_index F a (suc n) u x rest one e = go (first_index F (suc a) n u x rest one) (one a)
  where
    go : (flat_map F (numbers_from (suc a) n) ≡ (u, x) ∷ rest → suc a ≤ u) → NoneOrOne a (F a) → a ≤ u
    go ih (no f) = let r = ih (sym (ap (λ h. h ++ flat_map F (numbers_from (suc a) n)) f) ∙ e) in omega arith
    go ih (yes y f) = let g : (a, y) ∷ flat_map F (numbers_from (suc a) n) ≡ (u, x) ∷ rest = sym (ap (λ h. h ++ flat_map F (numbers_from (suc a) n)) f) ∙ e in let c : ◌≡◌ {A = ℕ × List ℕ} (a, y) (u, x) = cc in let k : a ≡ u = ap (λ (c : ℕ × List ℕ). c.0) c in omega arith

-- two lists of children that are the same have the same child at each token, as its index tells them apart
child-of_children : (F G : ℕ → List (ℕ × List ℕ)) (a n : ℕ) → ((t : ℕ) → NoneOrOne t (F t)) → ((t : ℕ) → NoneOrOne t (G t)) → flat_map F (numbers_from a n) ≡ flat_map G (numbers_from a n) → (t : ℕ) → a ≤ t → t < a + n → F t ≡ G t
child-of_children F G a zero p q e t l m = absurd (omega arith)
child-of_children F G a (suc n) p q e t l m = go (λ h k. child-of_children F G (suc a) n p q h t k (omega arith)) (p a) (q a)
  where
    left : (cs : List (ℕ × List ℕ)) → F a ≡ cs → (ds : List (ℕ × List ℕ)) → G a ≡ ds → cs ++ flat_map F (numbers_from (suc a) n) ≡ ds ++ flat_map G (numbers_from (suc a) n)
    left cs f ds g = sym (ap (λ h. h ++ flat_map F (numbers_from (suc a) n)) f) ∙ e ∙ ap (λ h. h ++ flat_map G (numbers_from (suc a) n)) g

    at : F a ≡ G a → (flat_map F (numbers_from (suc a) n) ≡ flat_map G (numbers_from (suc a) n)) → (flat_map F (numbers_from (suc a) n) ≡ flat_map G (numbers_from (suc a) n) → suc a ≤ t → F t ≡ G t) → F t ≡ G t
    at here rest ih = elim (cases_lt a t) [
      | inl k ↦ ih rest k
      | inr k ↦ let f : a ≡ t = omega arith in subst (λ t. F t ≡ G t) f here
    ]

    joined : (x y : List ℕ) → F a ≡ (a, x) ∷ [] → G a ≡ (a, y) ∷ [] → x ≡ y → F a ≡ G a
    joined x y f g k = f ∙ ap (λ x. (a, x) ∷ []) k ∙ sym g

    go : (flat_map F (numbers_from (suc a) n) ≡ flat_map G (numbers_from (suc a) n) → suc a ≤ t → F t ≡ G t) → NoneOrOne a (F a) → NoneOrOne a (G a) → F t ≡ G t
    go ih (no f) (no g) = at (f ∙ sym g) (left [] f [] g) ih
    go ih (no f) (yes y g) = absurd (let h = first_index F (suc a) n a y (flat_map G (numbers_from (suc a) n)) p (left [] f ((a, y) ∷ []) g) in omega arith)
    go ih (yes x f) (no g) = absurd (let h = first_index G (suc a) n a x (flat_map F (numbers_from (suc a) n)) q (sym (left ((a, x) ∷ []) f [] g)) in omega arith)
    go ih (yes x f) (yes y g) = let h : (a, x) ∷ flat_map F (numbers_from (suc a) n) ≡ (a, y) ∷ flat_map G (numbers_from (suc a) n) = left ((a, x) ∷ []) f ((a, y) ∷ []) g in
        let c : ◌≡◌ {A = ℕ × List ℕ} (a, x) (a, y) = cc in let k : x ≡ y = ap (λ (c : ℕ × List ℕ). c.1) c in let l : flat_map F (numbers_from (suc a) n) ≡ flat_map G (numbers_from (suc a) n) = cc in
        at (joined x y f g k) l ih

-- ---- IDs have 32 bytes
-- the ID of a list that is not empty has 32 bytes
id-32 : (w : ℕ) (i : Item) (is : List Item) → 0 < w → length (id w (i ∷ is)) ≡ hash_length
id-32 w i is pos = ap length (id_unfolds w i is pos) ∙ length-sha256 _

-- children with IDs of 32 bytes, end to end
Are32-append : (cs ds : List (ℕ × List ℕ)) → Are32 cs → Are32 ds → Are32 (cs ++ ds)
Are32-append [] ds p q = q
Are32-append (c ∷ cs) ds p q = (p.0, Are32-append cs ds p.1 q)

-- many lists of such children, end to end
Are32-flat_map : (F : ℕ → List (ℕ × List ℕ)) (ts : List ℕ) → ((t : ℕ) → Are32 (F t)) → Are32 (flat_map F ts)
Are32-flat_map F [] h = tt
Are32-flat_map F (t ∷ ts) h = Are32-append (F t) (flat_map F ts) (h t) (Are32-flat_map F ts h)

-- the child of a token has an ID of 32 bytes, where each stub has one
child-32 : (w t : ℕ) (o : Option (List ℕ)) (is : List Item) → 0 < w → ((x : List ℕ) → o ≡ Some x → length x ≡ hash_length) → Are32 (child_of (id w) t o is)
child-32 w t (Some x) is pos h = (h x refl, tt)
child-32 w t None [] pos h = tt
child-32 w t None (i ∷ is) pos h = (id-32 w i is pos, tt)

-- the children of an item list have IDs of 32 bytes
children-32 : (w : ℕ) (k : List Bool) (is : List Item) → 0 < w → IsItemList w is → Are32 (children (id w) w k is)
unfolding children
children-32 w k is pos v = Are32-flat_map _ (numbers_from 0 (2 ^ w)) (λ t. child-32 w t (stub_at (k ++ bits_of w t) is) (below w (k ++ bits_of w t) is) pos (λ x e. v.stub_32 (k ++ bits_of w t) x (stub_at-of (k ++ bits_of w t) is x e)))

-- where two nodes have one key and the same children, they have the same child at each token
child_at : (w : ℕ) (k l : List Bool) (is ns : List Item) → k ≡ l → children (id w) w k is ≡ children (id w) w l ns → (t : ℕ) → t < 2 ^ w →
    child_of (id w) t (stub_at (k ++ bits_of w t) is) (below w (k ++ bits_of w t) is) ≡ child_of (id w) t (stub_at (k ++ bits_of w t) ns) (below w (k ++ bits_of w t) ns)
unfolding children
child_at w k l is ns e h t m = child-of_children
    (λ t. child_of (id w) t (stub_at (k ++ bits_of w t) is) (below w (k ++ bits_of w t) is))
    (λ t. child_of (id w) t (stub_at (k ++ bits_of w t) ns) (below w (k ++ bits_of w t) ns))
    0 (2 ^ w)
    (λ t. child_of-NoneOrOne (id w) t (stub_at (k ++ bits_of w t) is) (below w (k ++ bits_of w t) is))
    (λ t. child_of-NoneOrOne (id w) t (stub_at (k ++ bits_of w t) ns) (below w (k ++ bits_of w t) ns))
    (h ∙ ap (λ k. flat_map (λ t. child_of (id w) t (stub_at (k ++ bits_of w t) ns) (below w (k ++ bits_of w t) ns)) (numbers_from 0 (2 ^ w))) (sym e))
    t (omega arith) (omega arith)

-- ---- what a token says
-- what the same child at a token means for a list (o: the ID of its stub in the slot, b: its items below it) and
-- a list of values alone (c: its items below the slot): the stub has their ID, or both lists below have one ID
data ChildCase (w : ℕ) (o : Option (List ℕ)) (b c : List Item) : Type 0 where
  at_stub : (x : List ℕ) → o ≡ Some x → x ≡ id w c → c ≢ [] → ChildCase w o b c
  at_list : o ≡ None → id w b ≡ id w c → ChildCase w o b c

-- one of the two holds
child_case : (w t : ℕ) (o : Option (List ℕ)) (b c : List Item) → child_of (id w) t o b ≡ child_of (id w) t None c → ChildCase w o b c
child_case w t (Some x) b [] e = absurd (cc)
child_case w t (Some x) b (c ∷ cs) e = at_stub x refl (let h : ◌≡◌ {A = ℕ × List ℕ} (t, x) (t, id w (c ∷ cs)) = cc in ap (λ (c : ℕ × List ℕ). c.1) h) (λ g. cc)
child_case w t None [] [] e = at_list refl refl
child_case w t None [] (c ∷ cs) e = absurd (cc)
child_case w t None (b ∷ bs) [] e = absurd (cc)
child_case w t None (b ∷ bs) (c ∷ cs) e = at_list refl (let h : ◌≡◌ {A = ℕ × List ℕ} (t, id w (b ∷ bs)) (t, id w (c ∷ cs)) = cc in ap (λ (c : ℕ × List ℕ). c.1) h)

-- what is known of a token's slot s, once its child is the same in both lists
data Token (w : ℕ) (is ns : List Item) (s : List Bool) : Type 0 where
  stubbed : (x : List ℕ) → Member is (Stub s x) → below w s ns ≢ [] → x ≡ id w (below w s ns) → Token w is ns s
  described : stub_at s is ≡ None → Describes w (below w s is) (below w s ns) → Token w is ns s

-- something else at one of n numbers, or a fact at all of them
each_or : {B : Type 0} (P : ℕ → Type 0) (n : ℕ) → ((t : ℕ) → t < n → B ⊎ P t) → B ⊎ ((t : ℕ) → t < n → P t)
each_or P zero f = inr (λ t h. absurd (omega arith))
each_or {B = B} P (suc n) f = go (each_or P n (λ t h. f t (omega arith))) (f n (omega arith))
  where
    go : B ⊎ ((t : ℕ) → t < n → P t) → B ⊎ P n → B ⊎ ((t : ℕ) → t < suc n → P t)
    go (inl b) q = inl b
    go (inr p) (inl b) = inl b
    go (inr p) (inr q) = inr (λ t h. elim (cases_lt t n) [ inl l ↦ p t l | inr l ↦ let e : n ≡ t = omega arith in subst P e q ])

-- ---- from the tokens to the lists: same key, same digest at the key, and what the tokens say
module _ (w : ℕ) (is ns : List Item) (pos : 0 < w) (v : IsItemList w is) (u : IsItemList w ns) (none : NoStubs ns)
    (keys : node_key w is ≡ node_key w ns) (digests : digest_at (node_key w is) is ≡ digest_at (node_key w ns) ns)
    (tokens : (t : ℕ) → t < 2 ^ w → Token w is ns (node_key w is ++ bits_of w t)) where
  -- a value of the list is one of the values
  describes_val : (l : List Bool) (d : List ℕ) → Member is (Val l d) → Member ns (Val l d)
  describes_val l d h = elim (stands_at w is (Val l d) pos v h) [
    | inl e ↦ subst (λ k. Member ns (Val k d)) (sym (e ∙ keys)) (digest_at-of (node_key w ns) ns d (sym digests ∙ ap (λ k. digest_at k is) (sym e) ∙ digest_at-is w l is d v h))
    | inr q ↦ at (tokens q.0 q.1) q.2
  ]
    where
      at : {s : List Bool} → Token w is ns s → is_prefix s l ≡ true → Member ns (Val l d)
      at (stubbed x m n e) b = absurd (let g : Val l d ≡ Stub _ x = v.stub_alone _ x (Val l d) m h b in cc)
      at (described e a) b = (Member-filter-of _ ns _ (a.val l d (Member-filter-in _ is _ h b))).0

  -- each of the values is in the list or below one of its stubs
  describes_only : (l : List Bool) (d : List ℕ) → Member ns (Val l d) → Member is (Val l d) ⊎ ((p : List Bool) × (x : List ℕ) × Member is (Stub p x) × (is_prefix p l ≡ true))
  describes_only l d h = elim (stands_at w ns (Val l d) pos u h) [
    | inl e ↦ inl (subst (λ k. Member is (Val k d)) (keys ∙ sym e) (digest_at-of (node_key w is) is d (digests ∙ ap (λ k. digest_at k ns) (sym e) ∙ digest_at-is w l ns d u h)))
    | inr q ↦ at (tokens q.0 q.1) (subst (λ k. is_prefix (k ++ bits_of w q.0) l ≡ true) (sym keys) q.2)
  ]
    where
      at : {s : List Bool} → Token w is ns s → is_prefix s l ≡ true → Member is (Val l d) ⊎ ((p : List Bool) × (x : List ℕ) × Member is (Stub p x) × (is_prefix p l ≡ true))
      at {s} (stubbed x m n e) b = inr (s, x, m, b)
      at (described e a) b = elim (a.only l d (Member-filter-in _ ns _ h b)) [
        | inl g ↦ inl (Member-filter-of _ is _ g).0
        | inr g ↦ inr (g.0, g.1, (Member-filter-of _ is _ g.2).0, g.3)
      ]

  -- a stub has the ID of the values in its slot, and there are some
  describes_stub : (p : List Bool) (x : List ℕ) → Member is (Stub p x) → (x ≡ id w (below w p ns)) × (below w p ns ≢ [])
  describes_stub p x h = elim (stands_at w is (Stub p x) pos v h) [
    | inl e ↦ let b = branches w (node_key w is) p (above e) (room e) in here e b.0 b.2 (tokens b.0 b.1)
    | inr q ↦ below_it (is_prefix-through (node_key w is ++ bits_of w q.0) (position w (Stub p x)) p q.2 (is_prefix-take (length p - w) p)) q.2 (tokens q.0 q.1)
  ]
    where
      tall : length (position w (Stub p x)) + w ≡ length p
      tall = let n = v.stub_whole p x h in let l = length-take-le (length p - w) p (omega arith) in omega (arith, l, n.1)

      above : position w (Stub p x) ≡ node_key w is → is_prefix (node_key w is) p ≡ true
      above e = subst (λ k. is_prefix k p ≡ true) e (is_prefix-take (length p - w) p)

      room : position w (Stub p x) ≡ node_key w is → length (node_key w is) + w ≤ length p
      room e = omega (arith, ap length e, tall)

      met : (s : List Bool) → (y : List ℕ) → Member is (Stub s y) → below w s ns ≢ [] → y ≡ id w (below w s ns) → is_prefix s p ≡ true → (x ≡ id w (below w p ns)) × (below w p ns ≢ [])
      met s y m n e b =
          let g : Stub p x ≡ Stub s y = v.stub_alone s y (Stub p x) m h b in
          let a : s ≡ p = cc in let c : x ≡ y = cc in
          subst (λ s. (x ≡ id w (below w s ns)) × (below w s ns ≢ [])) a (c ∙ e, n)

      here : position w (Stub p x) ≡ node_key w is → (t : ℕ) → is_prefix (node_key w is ++ bits_of w t) p ≡ true → Token w is ns (node_key w is ++ bits_of w t) → (x ≡ id w (below w p ns)) × (below w p ns ≢ [])
      here e t b (stubbed y m n f) = met (node_key w is ++ bits_of w t) y m n f b
      here e t b (described f a) =
          let g : p ≡ node_key w is ++ bits_of w t = is_prefix-all (node_key w is ++ bits_of w t) p b (omega (arith, length-append (node_key w is) (bits_of w t), length-bits_of w t, ap length e, tall)) in
          absurd (stub_at-some p is x h (ap (λ s. stub_at s is) g ∙ f))

      below_it : {s : List Bool} → is_prefix s p ≡ true → is_prefix s (position w (Stub p x)) ≡ true → Token w is ns s → (x ≡ id w (below w p ns)) × (below w p ns ≢ [])
      below_it {s} b c (stubbed y m n f) = met s y m n f b
      below_it {s} b c (described f a) =
          let r = a.stub p x (Member-filter-in (λ j. is_prefix s (position w j)) is (Stub p x) h c) in
          subst (λ r. (x ≡ id w r) × (r ≢ [])) (filter-filter (λ j. is_prefix p (position w j)) (λ j. is_prefix s (position w j)) ns (λ j q. is_prefix-through s p (position w j) b q)) r

  -- so the list describes the values
  describes : Describes w is ns
  describes = record { val = describes_val; only = describes_only; stub = describes_stub }

-- ---- the induction
-- the ID of the empty list
id-nil : (w : ℕ) → id w [] ≡ zero_id
unfolding id id_within
id-nil w = refl

-- what is hashed for a child, where the node's key is k
strings_at : (w t : ℕ) (i : Item) (is : List Item) (k : List Bool) → k ≡ node_key w (i ∷ is) → 0 < w → t < 2 ^ w → stub_at (k ++ bits_of w t) (i ∷ is) ≡ None →
    (a : List ℕ) → Member (strings w (below w (k ++ bits_of w t) (i ∷ is))) a → Member (strings w (i ∷ is)) a
strings_at w t i is k e pos l f a h = strings_child w t i is pos l (ap (λ k. stub_at (k ++ bits_of w t) (i ∷ is)) (sym e) ∙ f) a (subst (λ k. Member (strings w (below w (k ++ bits_of w t) (i ∷ is))) a) e h)

-- what a token says, from what is known of the two lists below it
token_step : (w t : ℕ) (i : Item) (is : List Item) (j : Item) (ns : List Item) → 0 < w → t < 2 ^ w → NoStubs (j ∷ ns) → (s : List Bool) → s ≡ node_key w (i ∷ is) ++ bits_of w t → node_key w (i ∷ is) ≡ node_key w (j ∷ ns) →
    child_of (id w) t (stub_at s (i ∷ is)) (below w s (i ∷ is)) ≡ child_of (id w) t (stub_at s (j ∷ ns)) (below w s (j ∷ ns)) →
    (id w (below w s (i ∷ is)) ≡ id w (below w s (j ∷ ns)) → Break (strings w (below w s (i ∷ is))) (strings w (below w s (j ∷ ns))) ⊎ Describes w (below w s (i ∷ is)) (below w s (j ∷ ns))) →
    Break (strings w (i ∷ is)) (strings w (j ∷ ns)) ⊎ Token w (i ∷ is) (j ∷ ns) s
token_step w t i is j ns pos m none s es keys e ih = go (child_case w t (stub_at s (i ∷ is)) (below w s (i ∷ is)) (below w s (j ∷ ns)) (e ∙ ap (λ o. child_of (id w) t o (below w s (j ∷ ns))) no))
  where
    no : stub_at s (j ∷ ns) ≡ None
    no = no_stub_at s (j ∷ ns) none

    back : stub_at s (i ∷ is) ≡ None → Break (strings w (below w s (i ∷ is))) (strings w (below w s (j ∷ ns))) → Break (strings w (i ∷ is)) (strings w (j ∷ ns))
    back o = Break-wider (strings w (below w s (i ∷ is))) (strings w (below w s (j ∷ ns))) (strings w (i ∷ is)) (strings w (j ∷ ns))
        (λ a h. strings_at w t i is (node_key w (i ∷ is)) refl pos m (ap (λ s. stub_at s (i ∷ is)) (sym es) ∙ o) a (subst (λ s. Member (strings w (below w s (i ∷ is))) a) es h))
        (λ a h. strings_at w t j ns (node_key w (i ∷ is)) keys pos m (ap (λ s. stub_at s (j ∷ ns)) (sym es) ∙ no) a (subst (λ s. Member (strings w (below w s (j ∷ ns))) a) es h))

    go : ChildCase w (stub_at s (i ∷ is)) (below w s (i ∷ is)) (below w s (j ∷ ns)) → Break (strings w (i ∷ is)) (strings w (j ∷ ns)) ⊎ Token w (i ∷ is) (j ∷ ns) s
    go (at_stub x o f n) = inr (stubbed x (stub_at-of s (i ∷ is) x o) n f)
    go (at_list o f) = elim (ih f) [ inl b ↦ inl (back o b) | inr a ↦ inr (described o a) ]

-- soundness for lists of at most n items: a difference in the root nodes' strings is a break, and else the tokens say it
sound_within : (n w : ℕ) (is ns : List Item) → 0 < w → length is ≤ n → IsItemList w is → IsItemList w ns → NoStubs ns → id w is ≡ id w ns → Break (strings w is) (strings w ns) ⊎ Describes w is ns
unfolding root_string
sound_within n w [] [] pos l v u none e = inr (record { val = λ k d h. absurd h; only = λ k d h. absurd h; stub = λ p x h. absurd h })
sound_within n w [] (j ∷ ns) pos l v u none e = inl (zero_second (root_string w (j ∷ ns)) (strings_head w j ns) (sym (id_unfolds w j ns pos) ∙ sym e ∙ id-nil w))
sound_within n w (i ∷ is) [] pos l v u none e = inl (zero_first (root_string w (i ∷ is)) (strings_head w i is) (sym (id_unfolds w i is pos) ∙ e ∙ id-nil w))
sound_within zero w (i ∷ is) (j ∷ ns) pos l v u none e = absurd (omega arith)
sound_within (suc n) w (i ∷ is) (j ∷ ns) pos l v u none e = elim (bytes_same_or_not (root_string w (i ∷ is)) (root_string w (j ∷ ns))) [
  | inr d ↦ inl (twins (root_string w (i ∷ is)) (root_string w (j ∷ ns)) (strings_head w i is) (strings_head w j ns) d (sym (id_unfolds w i is pos) ∙ e ∙ id_unfolds w j ns pos))
  | inl d ↦
      let k = hashed_string-apart _ _ _ _ _ _ (children-32 w (node_key w (i ∷ is)) (i ∷ is) pos v) (children-32 w (node_key w (j ∷ ns)) (j ∷ ns) pos u) d in
      elim (each_or (λ t. Token w (i ∷ is) (j ∷ ns) (node_key w (i ∷ is) ++ bits_of w t)) (2 ^ w) (λ t m.
      let s = below_shrinks w t i is pos in
      token_step w t i is j ns pos m none (node_key w (i ∷ is) ++ bits_of w t) refl k.0 (child_at w (node_key w (i ∷ is)) (node_key w (j ∷ ns)) (i ∷ is) (j ∷ ns) k.0 k.2 t m)
      (λ f. sound_within n w (below w (node_key w (i ∷ is) ++ bits_of w t) (i ∷ is)) (below w (node_key w (i ∷ is) ++ bits_of w t) (j ∷ ns)) pos (omega arith)
      (IsItemList-below w _ (i ∷ is) v) (IsItemList-below w _ (j ∷ ns) u) (NoStubs-below w _ (j ∷ ns) none) f))) [
        | inl b ↦ inl b
        | inr tokens ↦ inr (describes w (i ∷ is) (j ∷ ns) pos v u none k.0 k.1 tokens)
      ]
]

-- a list with the ID of a list of values describes it, or there is a break
pub sound : (w : ℕ) (is ns : List Item) → 0 < w → IsItemList w is → IsItemList w ns → NoStubs ns → id w is ≡ id w ns → Break (strings w is) (strings w ns) ⊎ Describes w is ns
sound w is ns pos v u none e = sound_within (length is) w is ns pos (omega arith) v u none e
