-- What the nodes of values show, and what is told of the values by them.
use Rattle.std.proofs.Common.{◌≡◌, ◌≢◌, ℕ, ◌+◌, ◌*◌, ◌^◌, ◌<◌, ◌≤◌, Bool, true, false, cond, List, [], ◌∷◌, ◌++◌, length, drop, map, refl, sym, ap, ◌∙◌, arith, subst, ◌⊎◌, inl, inr, Option, Some, None}
use Rattle.std.proofs.lemmas.Bool.{cases_lt}
use Rattle.base_model.specs.Member.{Member}
use Rattle.trie_model.specs.Bits.{bits_of, is_prefix}
use Rattle.trie_model.specs.Ids.{node_key, digest_at, below, numbers_from, id}
use Rattle.trie_model.specs.Items.{Item, Val, Stub, AreValues}
use Rattle.trie_model.specs.StoredNode.{StoredChild, StoredNode}
use Rattle.trie_model.specs.Table.{is_some, hashed_child, table_node}
use Rattle.trie_model.proofs.KeySets.{Member-map-in, Member-map-of, Member-flat-in, Member-numbers-in}
use Rattle.trie_model.proofs.Lists.{Member-append-left, Member-append-right}
use Rattle.trie_model.proofs.Slots.{group_children-Kept}
use Rattle.trie_model.proofs.Tables.{group_child, group_children, table_node-is}
use Rattle.range_model.specs.Ranges.{Range, key_place, slot_place, is_inside, is_outside}
use Rattle.proof_model.specs.Paths.{ProofNode}
use Rattle.proof_model.specs.Claims.{shown_value, value_beside, leads_to, stub_beside, stubs_beside, items_beside}
use Rattle.proof_model.proofs.TruePaths.{shown}

-- ---- nodes of values
module _ (w : ℕ) (is : List Item) (v : AreValues w is) where
  -- a child that a node shows: its ID is that of the values in its slot, and there are some
  pub record ShowsChild (c : List Bool) (x : ℕ × List ℕ) : Type 0 where
    pub small : x.0 < 2 ^ w
    pub id : x.1 ≡ id w (below w (c ++ bits_of w x.0) is)
    pub some : below w (c ++ bits_of w x.0) is ≢ []

  pub child_shown : (n : ℕ) (c : List Bool) (x : ℕ × List ℕ) → length c ≡ w * n → Member (shown w is c).children x → ShowsChild c x
  child_shown n c x e m =
      let g = Member-map-of hashed_child (group_children w c is) x (subst (λ (r : StoredNode). Member (map hashed_child r.children) x) (table_node-is w n c is v e) m) in
      let k = group_children-Kept w c is g.0 g.1 in
      let token : k.token ≡ x.0 = ap (λ (c : StoredChild). c.index) k.child ∙ ap (λ (c : ℕ × List ℕ). c.0) g.2 in
      let same : id w (k.i ∷ k.is) ≡ x.1 = ap (λ (c : StoredChild). c.id) k.child ∙ ap (λ (c : ℕ × List ℕ). c.1) g.2 in
      let slot : below w (c ++ bits_of w x.0) is ≡ k.i ∷ k.is = ap (λ t. below w (c ++ bits_of w t) is) (sym token) ∙ k.slot in
      record {
        small = subst (λ t. t < 2 ^ w) token k.small;
        id = sym same ∙ ap (id w) (sym slot);
        some = λ none. let f : k.i ∷ k.is ≡ [] = sym slot ∙ none in cc;
      }

  -- the child of what lies in a slot
  slot_child : (t : ℕ) (c : List Bool) (i : Item) (gs : List Item) → (k : StoredChild) × Member (group_child w c t (i ∷ gs)) k × (hashed_child k ≡ (t, id w (i ∷ gs)))
  slot_child t c i gs = (
    record { index = t; rest = drop (length c + w) (node_key w (i ∷ gs)); id = id w (i ∷ gs); has_value = is_some (digest_at (node_key w (i ∷ gs)) (i ∷ gs)) },
    inl refl,
    refl,
  )

  -- a slot in which values lie has a child
  pub slot_shown : (n t : ℕ) (c : List Bool) → length c ≡ w * n → t < 2 ^ w → below w (c ++ bits_of w t) is ≢ [] → (x : List ℕ) × Member (shown w is c).children (t, x)
  unfolding group_children
  slot_shown n t c e small some = go (below w (c ++ bits_of w t) is) refl
    where
      go : (gs : List Item) → below w (c ++ bits_of w t) is ≡ gs → (x : List ℕ) × Member (shown w is c).children (t, x)
      go [] f = absurd (some f)
      go (i ∷ gs) f =
          let k = slot_child t c i gs in
          let slot = Member-flat-in (λ t. group_child w c t (below w (c ++ bits_of w t) is)) (numbers_from 0 (2 ^ w)) t k.0 (Member-numbers-in 0 (2 ^ w) t (omega arith) (omega (arith, small))) (subst (λ gs. Member (group_child w c t gs) k.0) (sym f) k.1) in
          let there = subst (Member (map hashed_child (group_children w c is))) k.2 (Member-map-in hashed_child (group_children w c is) k.0 slot) in
          (id w (i ∷ gs), subst (λ (r : StoredNode). Member (map hashed_child r.children) (t, id w (i ∷ gs))) (sym (table_node-is w n c is v e)) there)

  -- the digest that a node shows
  pub digest_shown : (c : List Bool) → (shown w is c).digest ≡ digest_at c is
  unfolding table_node
  digest_shown c = refl

-- ---- what nodes tell
-- a node with a digest tells its value, where that lies beside the range
pub value_told : (w : ℕ) (r : Range) (ns : List ProofNode) (n : ProofNode) (d : List ℕ) → Member ns n → is_inside (key_place r n.key) ≡ false → n.digest ≡ Some d → Member (items_beside w r ns) (Val n.key d)
value_told w r ns n d m o e =
    Member-flat-in (λ (n : ProofNode). value_beside r n ++ stubs_beside w r ns n) ns n (Val n.key d) m
    (Member-append-left (value_beside r n) (stubs_beside w r ns n) (Val n.key d) (go (is_inside (key_place r n.key)) o n.digest e))
  where
    go : (b : Bool) → b ≡ false → (o : Option (List ℕ)) → o ≡ Some d → Member (cond b [] (shown_value n.key o)) (Val n.key d)
    go true f o g = absurd cc
    go false f None g = absurd cc
    go false f (Some x) g = inl (let h : x ≡ d = cc in ap (Val n.key) h)

-- and a stub for each child whose slot lies beside the range and leads to no node
pub child_told : (w : ℕ) (r : Range) (ns : List ProofNode) (n : ProofNode) (x : ℕ × List ℕ) → Member ns n → Member n.children x → is_outside (slot_place r (n.key ++ bits_of w x.0)) ≡ true → leads_to (n.key ++ bits_of w x.0) ns ≡ false →
    Member (items_beside w r ns) (Stub (n.key ++ bits_of w x.0) x.1)
child_told w r ns n x m k o e =
    Member-flat-in (λ (n : ProofNode). value_beside r n ++ stubs_beside w r ns n) ns n (Stub (n.key ++ bits_of w x.0) x.1) m
    (Member-append-right (value_beside r n) (stubs_beside w r ns n) (Stub (n.key ++ bits_of w x.0) x.1)
    (Member-flat-in (λ (c : ℕ × List ℕ). stub_beside r ns (n.key ++ bits_of w c.0) c.1) n.children x (Stub (n.key ++ bits_of w x.0) x.1) k
    (go (is_outside (slot_place r (n.key ++ bits_of w x.0))) o (leads_to (n.key ++ bits_of w x.0) ns) e)))
  where
    go : (a : Bool) → a ≡ true → (b : Bool) → b ≡ false → Member (cond a (cond b [] (Stub (n.key ++ bits_of w x.0) x.1 ∷ [])) []) (Stub (n.key ++ bits_of w x.0) x.1)
    go true f false g = inl refl
    go true f true g = absurd cc
    go false f b g = absurd cc

-- where a slot leads to a node, it begins its key
pub leads_to-of : (s : List Bool) (ns : List ProofNode) → leads_to s ns ≡ true → (n : ProofNode) × Member ns n × (is_prefix s n.key ≡ true)
leads_to-of s [] e = absurd cc
leads_to-of s (n ∷ ns) e = go (is_prefix s n.key) refl (leads_to-of s ns) e
  where
    go : (b : Bool) → is_prefix s n.key ≡ b → (leads_to s ns ≡ true → (n : ProofNode) × Member ns n × (is_prefix s n.key ≡ true)) → cond b true (leads_to s ns) ≡ true → (m : ProofNode) × Member (n ∷ ns) m × (is_prefix s m.key ≡ true)
    go true f ih e = (n, inl refl, f)
    go false f ih e = let r = ih e in (r.0, inr r.1, r.2)

-- ---- the longest key of some that begins another
pub record Longest (cs : List (List Bool)) (k : List Bool) : Type 0 where
  pub key : List Bool
  pub member : Member cs key
  pub begins : is_prefix key k ≡ true
  pub longest : (d : List Bool) → Member cs d → is_prefix d k ≡ true → length d ≤ length key

pub longest : (cs : List (List Bool)) (k : List Bool) → ((d : List Bool) → Member cs d → is_prefix d k ≡ true → ⊥) ⊎ Longest cs k
longest [] k = inl (λ d m b. m)
longest (c ∷ cs) k = go (is_prefix c k) refl (longest cs k)
  where
    go : (b : Bool) → is_prefix c k ≡ b → ((d : List Bool) → Member cs d → is_prefix d k ≡ true → ⊥) ⊎ Longest cs k → ((d : List Bool) → Member (c ∷ cs) d → is_prefix d k ≡ true → ⊥) ⊎ Longest (c ∷ cs) k
    go false e (inl f) = inl (λ d m b. elim m [ inl g ↦ (let h : is_prefix c k ≡ true = subst (λ d. is_prefix d k ≡ true) (sym g) b in cc) | inr n ↦ f d n b ])
    go false e (inr q) = inr (record {
      key = q.key;
      member = inr q.member;
      begins = q.begins;
      longest = λ d m b. elim m [ inl g ↦ absurd (let h : is_prefix c k ≡ true = subst (λ d. is_prefix d k ≡ true) (sym g) b in cc) | inr n ↦ q.longest d n b ];
    })
    go true e (inl f) = inr (record {
      key = c;
      member = inl refl;
      begins = e;
      longest = λ d m b. elim m [ inl g ↦ (let h = ap length g in omega (arith, h)) | inr n ↦ absurd (f d n b) ];
    })
    go true e (inr q) = elim (cases_lt (length q.key) (length c)) [
      | inl l ↦ inr (record {
        key = c;
        member = inl refl;
        begins = e;
        longest = λ d m b. elim m [ inl g ↦ (let h = ap length g in omega (arith, h)) | inr n ↦ (let h = q.longest d n b in omega (arith, h, l)) ];
      })
      | inr l ↦ inr (record {
        key = q.key;
        member = inr q.member;
        begins = q.begins;
        longest = λ d m b. elim m [ inl g ↦ (let h = ap length g in omega (arith, h, l)) | inr n ↦ q.longest d n b ];
      })
    ]
