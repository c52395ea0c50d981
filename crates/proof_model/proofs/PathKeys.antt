-- The keys of the nodes of a path: each strictly extends the one before it, each node on the way to one of them is
-- among them, and so is the child in each slot that leads to the key.
use Rattle.std.proofs.Common.{◌≡◌, ℕ, suc, ◌+◌, ◌*◌, ◌<◌, ◌≤◌, Less, Bool, true, false, cond, leb, ltb, List, [], ◌∷◌, ◌++◌, length, take, refl, sym, ap, ◌∙◌, arith, subst, ◌⊎◌, inl, inr, Option, Some, None, nat_lt, if◌then◌else◌, append-nil}
use Rattle.std.specs.List.{filter, AllByRecursion}
use Rattle.std.proofs.lemmas.Bool.{cases_lt}
use Rattle.std.proofs.lemmas.Bool.Decides.{nat_tests}
use Rattle.std.proofs.lemmas.List.{length-take-le}
use Rattle.base_model.specs.Member.{Member}
use Rattle.trie_model.specs.Bits.{is_prefix, same_key, key_cmp, IsRising}
use Rattle.trie_model.specs.Table.{shortest, shorter}
use Rattle.trie_model.proofs.KeySets.{Member-append-of, IsRising-filter, not_itself}
use Rattle.trie_model.proofs.Lists.{All-member, Member-append-left, Member-append-right, Member-filter-of, Member-filter-in}
use Rattle.trie_model.proofs.Prefixes.{is_prefix-itself, is_prefix-all, is_prefix-through, length-is_prefix, prefix_of_take, take-is_prefix, same_key-is, same_key-itself, whole_step}
use Rattle.trie_model.proofs.Rising.{not_after}

-- ---- the keys
-- the key that was found, where there is one
abbrev pub keys_at : Option (List Bool) → List (List Bool) → List (List Bool)
keys_at None ks = []
keys_at (Some k) ks = filter (same_key k) ks

-- the key of the child in a slot
abbrev pub keys_in : List Bool → List (List Bool) → List (List Bool)
keys_in s ks = keys_at (shortest (filter (is_prefix s) ks)) ks

-- the last of some keys
abbrev pub last_key_of : List Bool → List (List Bool) → List Bool
last_key_of c [] = c
last_key_of c (d ∷ ds) = last_key_of d ds

abbrev pub key_toward : ℕ → List Bool → List Bool → List (List Bool) → List (List Bool)
key_toward w k n ks = if nat_lt (length n) (length k) then keys_in (take (length n + w) k) ks else []

abbrev pub with_key_toward : ℕ → List Bool → List (List Bool) → List (List Bool) → List (List Bool)
with_key_toward w k ks [] = take 1 ks
with_key_toward w k ks (c ∷ cs) = (c ∷ cs) ++ key_toward w k (last_key_of c cs) ks

-- the keys of the nodes on the way to k
abbrev pub way : List Bool → List (List Bool) → List (List Bool)
way k ks = filter (λ c. is_prefix c k) ks

-- the keys of the path of k
unfoldable pub path_keys : ℕ → List Bool → List (List Bool) → List (List Bool)
path_keys w k ks = with_key_toward w k ks (way k ks)

-- the least key of a slot: it begins each key that the slot begins
pub record Least (ks : List (List Bool)) (s : List Bool) : Type 0 where
  pub key : List Bool
  pub found : shortest (filter (is_prefix s) ks) ≡ Some key
  pub member : Member ks key
  pub begins : is_prefix s key ≡ true
  pub each : (c : List Bool) → Member ks c → is_prefix s c ≡ true → is_prefix key c ≡ true

-- rising keys of whole tokens, where each slot that begins one has a least key
pub record AreNodeKeys (w : ℕ) (ks : List (List Bool)) : Type 0 where
  pub pos : 0 < w
  pub rises : IsRising ks
  pub whole : (c : List Bool) → Member ks c → (n : ℕ) × (length c ≡ w * n)
  pub least : (n : ℕ) (s c : List Bool) → length s ≡ w * n → Member ks c → is_prefix s c ≡ true → Least ks s

-- ---- prefixes of one key
-- of two prefixes of one key the lower begins the other, and is shorter
pub below_begins : (a b k : List Bool) → is_prefix a k ≡ true → is_prefix b k ≡ true → key_cmp a b ≡ Less → (is_prefix a b ≡ true) × (length a < length b)
below_begins [] [] k p q h = absurd cc
below_begins [] (y ∷ b) k p q h = (refl, omega arith)
below_begins (x ∷ a) [] k p q h = absurd cc
below_begins (x ∷ a) (y ∷ b) [] p q h = absurd cc
below_begins (true ∷ a) (true ∷ b) (true ∷ k) p q h = let r = below_begins a b k p q h in (r.0, omega (arith, r.1))
below_begins (false ∷ a) (false ∷ b) (false ∷ k) p q h = let r = below_begins a b k p q h in (r.0, omega (arith, r.1))
below_begins (x ∷ a) (y ∷ b) (true ∷ k) p q h = absurd cc
below_begins (x ∷ a) (y ∷ b) (false ∷ k) p q h = absurd cc

-- of two prefixes of one key the shorter begins the other
pub shorter_begins : (a b k : List Bool) → is_prefix a k ≡ true → is_prefix b k ≡ true → length a ≤ length b → is_prefix a b ≡ true
shorter_begins a b k p q l = subst (λ c. is_prefix a c ≡ true) (take-is_prefix b k q) (prefix_of_take a k (length b) p l)

-- ---- keys that strictly extend each other
-- a key strictly extends another
abbrev pub Extends : List Bool → List Bool → Type 0
Extends a b = (is_prefix a b ≡ true) × (length a < length b)

abbrev pub IsChain : List (List Bool) → Type 0
IsChain [] = Unit {0}
IsChain (c ∷ []) = Unit {0}
IsChain (c ∷ d ∷ ds) = Extends c d × IsChain (d ∷ ds)

-- rising prefixes of one key are a chain
chain_of_rising : (k : List Bool) (cs : List (List Bool)) → IsRising cs → ((c : List Bool) → Member cs c → is_prefix c k ≡ true) → IsChain cs
chain_of_rising k [] r f = tt
chain_of_rising k (c ∷ []) r f = tt
chain_of_rising k (c ∷ d ∷ ds) r f = (below_begins c d k (f c (inl refl)) (f d (inr (inl refl))) r.0.0, chain_of_rising k (d ∷ ds) r.1 (λ e m. f e (inr m)))

-- each key of a chain begins the last
last_begins : (c : List Bool) (cs : List (List Bool)) → IsChain (c ∷ cs) → (d : List Bool) → Member (c ∷ cs) d → is_prefix d (last_key_of c cs) ≡ true
last_begins c [] h d (inl e) = subst (λ d. is_prefix d c ≡ true) e (is_prefix-itself c)
last_begins c [] h d (inr m) = absurd m
last_begins c (e ∷ es) h d (inl q) = subst (λ d. is_prefix d (last_key_of e es) ≡ true) q (is_prefix-through c e (last_key_of e es) h.0.0 (last_begins e es h.1 e (inl refl)))
last_begins c (e ∷ es) h d (inr m) = last_begins e es h.1 d m

-- the last is one of them
last_member : (c : List Bool) (cs : List (List Bool)) → Member (c ∷ cs) (last_key_of c cs)
last_member c [] = inl refl
last_member c (d ∷ ds) = inr (last_member d ds)

-- a chain with one key more
chain_longer : (c : List Bool) (cs : List (List Bool)) (q : List Bool) → IsChain (c ∷ cs) → Extends (last_key_of c cs) q → IsChain (c ∷ cs ++ q ∷ [])
chain_longer c [] q h e = (e, tt)
chain_longer c (d ∷ ds) q h e = (h.0, chain_longer d ds q h.1 e)

-- ---- the child in a slot
-- the shortest of keys is one of them
pub shortest_in : (cs : List (List Bool)) (q : List Bool) → shortest cs ≡ Some q → Member cs q
shortest_in [] q e = absurd cc
shortest_in (c ∷ cs) q e = go (shortest cs) refl (shortest_in cs) e
  where
    go : (o : Option (List Bool)) → shortest cs ≡ o → ((x : List Bool) → shortest cs ≡ Some x → Member cs x) → Some (shorter c o) ≡ Some q → Member (c ∷ cs) q
    go None f ih e = inl cc
    go (Some x) f ih e = which (leb (length c) (length x)) e
      where
        which : (b : Bool) → Some (cond b c x) ≡ Some q → Member (c ∷ cs) q
        which true e = inl cc
        which false e = let g : x ≡ q = cc in inr (subst (Member cs) g (ih x f))

-- one of rising keys stands there once
pub one_key : (q : List Bool) (cs : List (List Bool)) → IsRising cs → Member cs q → filter (same_key q) cs ≡ q ∷ []
one_key q [] r m = absurd m
one_key q (c ∷ cs) r m = go (same_key q c) refl m (one_key q cs r.1) (nothing cs)
  where
    nothing : (ds : List (List Bool)) → q ≡ c → AllByRecursion (λ d. key_cmp c d ≡ Less) ds → filter (same_key q) ds ≡ []
    nothing [] e f = refl
    nothing (d ∷ ds) e f = which (same_key q d) refl (nothing ds e f.1)
      where
        which : (b : Bool) → same_key q d ≡ b → filter (same_key q) ds ≡ [] → cond b (d ∷ filter (same_key q) ds) (filter (same_key q) ds) ≡ []
        which true g ih = absurd (not_itself c (subst (λ d. key_cmp c d ≡ Less) (sym (same_key-is q d g) ∙ e) f.0))
        which false g ih = ih

    go : (b : Bool) → same_key q c ≡ b → Member (c ∷ cs) q → (Member cs q → filter (same_key q) cs ≡ q ∷ []) → (q ≡ c → AllByRecursion (λ d. key_cmp c d ≡ Less) cs → filter (same_key q) cs ≡ []) →
        cond b (c ∷ filter (same_key q) cs) (filter (same_key q) cs) ≡ q ∷ []
    go true e m ih none = let g = same_key-is q c e in ap (λ r. c ∷ r) (none g r.0) ∙ ap (λ c. c ∷ []) (sym g)
    go false e (inl f) ih none = absurd (let g : same_key q c ≡ true = subst (λ c. same_key q c ≡ true) (sym f) (same_key-itself q) in cc)
    go false e (inr m) ih none = ih m

module _ (w : ℕ) (ks : List (List Bool)) (v : AreNodeKeys w ks) where
  -- a slot has no child, or its least key
  data Child (s : List Bool) : Type 0 where
    bare : keys_in s ks ≡ [] → Child s
    leads : (q : Least ks s) → keys_in s ks ≡ q.key ∷ [] → Child s

  child_in : (n : ℕ) (s : List Bool) → length s ≡ w * n → Child s
  child_in n s e = go (shortest (filter (is_prefix s) ks)) refl
    where
      go : (o : Option (List Bool)) → shortest (filter (is_prefix s) ks) ≡ o → Child s
      go None f = bare (ap (λ o. keys_at o ks) f)
      go (Some x) f =
          let m = Member-filter-of (is_prefix s) ks x (shortest_in (filter (is_prefix s) ks) x f) in
          let q = v.least n s x e m.0 m.1 in
          leads q (ap (λ o. keys_at o ks) q.found ∙ one_key q.key ks v.rises q.member)

  -- where it begins a key, it has its least
  least_in : (s : List Bool) (q : Least ks s) → keys_in s ks ≡ q.key ∷ []
  least_in s q = ap (λ o. keys_at o ks) q.found ∙ one_key q.key ks v.rises q.member

  -- the first key is the least of all
  first_is : (q : Least ks []) → take 1 ks ≡ q.key ∷ []
  first_is q = go ks v.rises q.member q.each
    where
      go : (cs : List (List Bool)) → IsRising cs → Member cs q.key → ((c : List Bool) → Member cs c → is_prefix [] c ≡ true → is_prefix q.key c ≡ true) → take 1 cs ≡ q.key ∷ []
      go [] r m f = absurd m
      go (c ∷ cs) r (inl e) f = ap (λ c. c ∷ []) e
      go (c ∷ cs) r (inr m) f = absurd (not_after q.key c (f c (inl refl) refl) (All-member (λ d. key_cmp c d ≡ Less) cs q.key r.0 m))

  -- ---- the shape of a path
  module _ (k : List Bool) (tall : (n : ℕ) × (length k ≡ w * n)) where
    -- the first bits of k, as far as the slot of n in which it lies
    abbrev toward : List Bool → List Bool
    toward n = take (length n + w) k

    -- no key begins k, and the path is the first key alone; the keys that begin k; or these and a child of the last
    data Shape (cs : List (List Bool)) : Type 0 where
      empty : cs ≡ [] → ks ≡ [] → Shape cs
      alone : (q : Least ks []) → cs ≡ q.key ∷ [] → way k ks ≡ [] → Shape cs
      ended : (c : List Bool) (ds : List (List Bool)) → way k ks ≡ c ∷ ds → cs ≡ c ∷ ds → (length k ≤ length (last_key_of c ds)) ⊎ (keys_in (toward (last_key_of c ds)) ks ≡ []) → Shape cs
      forked : (c : List Bool) (ds : List (List Bool)) (q : Least ks (toward (last_key_of c ds))) → way k ks ≡ c ∷ ds → cs ≡ c ∷ ds ++ q.key ∷ [] → length (last_key_of c ds) + w ≤ length k → Shape cs

    -- where n is shorter than k, by a token at least
    room : (n : List Bool) → Member ks n → length n < length k → length n + w ≤ length k
    room n m l = let a = v.whole n m in elim (whole_step w a.0 tall.0 (omega (arith, l, a.1, tall.1))) [
      | inl e ↦ absurd (omega (arith, e, l, a.1, tall.1))
      | inr e ↦ omega (arith, e, a.1, tall.1)
    ]

    -- the slot in which k lies is of whole tokens
    toward_whole : (n : List Bool) → Member ks n → length n + w ≤ length k → (a : ℕ) × (length (toward n) ≡ w * a)
    toward_whole n m l = let a = v.whole n m in (suc a.0, length-take-le (length n + w) k l ∙ omega (arith, a.1))

    -- a key on the way is a key, and begins k
    on_way : (c : List Bool) (ds : List (List Bool)) → way k ks ≡ c ∷ ds → (d : List Bool) → Member (c ∷ ds) d → Member ks d × (is_prefix d k ≡ true)
    on_way c ds e d m = Member-filter-of (λ c. is_prefix c k) ks d (subst (λ l. Member l d) (sym e) m)

    -- the path has that shape
    shape : Shape (path_keys w k ks)
    unfolding path_keys
    shape = go (way k ks) refl
      where
        first : (cs : List (List Bool)) → ks ≡ cs → way k ks ≡ [] → Shape (take 1 ks)
        first [] e f = empty (ap (take 1) e) e
        first (c ∷ cs) e f = let q = v.least 0 [] c (omega arith) (subst (λ l. Member l c) (sym e) (inl refl)) refl in alone q (first_is q) f

        behind : (c : List Bool) (ds : List (List Bool)) → way k ks ≡ c ∷ ds → (b : Bool) → ltb (length (last_key_of c ds)) (length k) ≡ b → Shape (c ∷ ds ++ cond b (keys_in (toward (last_key_of c ds)) ks) [])
        behind c ds e false f = ended c ds e (append-nil (c ∷ ds)) (inl (no_longer (length (last_key_of c ds)) (length k) f))
          where
            no_longer : (a b : ℕ) → ltb a b ≡ false → b ≤ a
            no_longer a b h = grind (arith, nat_tests)
        behind c ds e true f =
            let n = last_key_of c ds in
            let m = (on_way c ds e n (last_member c ds)).0 in
            let l = room n m (shorter_by (length n) (length k) f) in
            let a = toward_whole n m l in
            elim (child_in a.0 (toward n) a.1) [
              | bare x ↦ ended c ds e (ap (λ r. c ∷ (ds ++ r)) x ∙ append-nil (c ∷ ds)) (inr x)
              | leads q x ↦ forked c ds q e (ap (λ r. c ∷ (ds ++ r)) x) l
            ]
          where
            shorter_by : (a b : ℕ) → ltb a b ≡ true → a < b
            shorter_by a b h = grind (arith, nat_tests)

        go : (cs : List (List Bool)) → way k ks ≡ cs → Shape (with_key_toward w k ks cs)
        go [] e = first ks refl e
        go (c ∷ ds) e = behind c ds e (ltb (length (last_key_of c ds)) (length k)) refl

    -- ---- its keys
    -- the keys on the way are a chain
    way_chain : (c : List Bool) (ds : List (List Bool)) → way k ks ≡ c ∷ ds → IsChain (c ∷ ds)
    way_chain c ds e = chain_of_rising k (c ∷ ds) (subst IsRising e (IsRising-filter (λ c. is_prefix c k) ks v.rises)) (λ d m. (on_way c ds e d m).1)

    -- each key strictly extends the one before it
    pub path_keys-IsChain : IsChain (path_keys w k ks)
    path_keys-IsChain = elim shape [
      | empty e f ↦ subst IsChain (sym e) tt
      | alone q e f ↦ subst IsChain (sym e) tt
      | ended c ds f e n ↦ subst IsChain (sym e) (way_chain c ds f)
      | forked c ds q f e l ↦
          let n = last_key_of c ds in
          let b = (on_way c ds f n (last_member c ds)).1 in
          let t = length-is_prefix (toward n) q.key q.begins in
          subst IsChain (sym e) (chain_longer c ds q.key (way_chain c ds f) (
            is_prefix-through n (toward n) q.key (prefix_of_take n k (length n + w) b (omega arith)) q.begins,
            omega (arith, v.pos, t, length-take-le (length n + w) k l),
          ))
    ]

    -- each is one of all keys
    pub path_keys-of : (c : List Bool) → Member (path_keys w k ks) c → Member ks c
    path_keys-of c m = elim shape [
      | empty e f ↦ absurd (subst (λ l. Member l c) e m)
      | alone q e f ↦ elim (subst (λ l. Member l c) e m) [ inl g ↦ subst (Member ks) g q.member | inr g ↦ absurd g ]
      | ended d ds f e n ↦ (on_way d ds f c (subst (λ l. Member l c) e m)).0
      | forked d ds q f e l ↦ elim (Member-append-of (d ∷ ds) (q.key ∷ []) c (subst (λ l. Member l c) e m)) [
        | inl g ↦ (on_way d ds f c g).0
        | inr g ↦ elim g [ inl g ↦ subst (Member ks) g q.member | inr g ↦ absurd g ]
      ]
    ]

    -- each key that begins k is on the path
    way_in : (c : List Bool) → Member ks c → is_prefix c k ≡ true → Member (path_keys w k ks) c
    way_in c m b =
        let g = Member-filter-in (λ c. is_prefix c k) ks c m b in
        elim shape [
          | empty e f ↦ absurd (subst (λ l. Member l c) f m)
          | alone q e f ↦ absurd (subst (λ l. Member l c) f g)
          | ended d ds f e n ↦ subst (λ l. Member l c) (f ∙ sym e) g
          | forked d ds q f e l ↦ subst (λ l. Member l c) (sym e) (Member-append-left (d ∷ ds) (q.key ∷ []) c (subst (λ l. Member l c) f g))
        ]

    -- so is the first key of all
    pub path_keys-root : (q : Least ks []) → Member (path_keys w k ks) q.key
    path_keys-root q = elim shape [
      | empty e f ↦ absurd (subst (λ l. Member l q.key) f q.member)
      | alone r e f ↦ subst (λ l. Member l q.key) (sym e) (inl (let g : Some r.key ≡ Some q.key = sym r.found ∙ q.found in cc))
      | ended d ds f e n ↦ begun d (on_way d ds f d (inl refl))
      | forked d ds r f e l ↦ begun d (on_way d ds f d (inl refl))
    ]
      where
        begun : (d : List Bool) → Member ks d × (is_prefix d k ≡ true) → Member (path_keys w k ks) q.key
        begun d m = way_in q.key q.member (is_prefix-through q.key d k (q.each d m.0 refl) m.1)

    -- and each key that begins one of the path
    pub path_keys-closed : (d c : List Bool) → Member (path_keys w k ks) d → Member ks c → is_prefix c d ≡ true → Member (path_keys w k ks) c
    path_keys-closed d c m n b = elim shape [
      | empty e f ↦ absurd (subst (λ l. Member l d) e m)
      | alone q e f ↦ elim (subst (λ l. Member l d) e m) [
        | inl g ↦ subst (Member (path_keys w k ks)) (same q.key (q.each c n refl) g) m
        | inr g ↦ absurd g
      ]
      | ended a ends f e x ↦ way_in c n (is_prefix-through c d k b (on_way a ends f d (subst (λ l. Member l d) e m)).1)
      | forked a ends q f e l ↦ elim (Member-append-of (a ∷ ends) (q.key ∷ []) d (subst (λ l. Member l d) e m)) [
        | inl g ↦ way_in c n (is_prefix-through c d k b (on_way a ends f d g).1)
        | inr g ↦ elim g [ inl g ↦ behind (last_key_of a ends) (on_way a ends f (last_key_of a ends) (last_member a ends)) q l g | inr g ↦ absurd g ]
      ]
    ]
      where
        same : (q : List Bool) → is_prefix q c ≡ true → q ≡ d → d ≡ c
        same q p g = let p : is_prefix d c ≡ true = subst (λ q. is_prefix q c ≡ true) g p in is_prefix-all c d b (length-is_prefix d c p)

        behind : (a : List Bool) → Member ks a × (is_prefix a k ≡ true) → (q : Least ks (toward a)) → length a + w ≤ length k → q.key ≡ d → Member (path_keys w k ks) c
        behind a h q l g =
            let bits = length-take-le (length a + w) k l in
            let front : is_prefix (toward a) d ≡ true = subst (λ d. is_prefix (toward a) d ≡ true) g q.begins in
            elim (cases_lt (length a) (length c)) [
              | inr s ↦ way_in c n (is_prefix-through c a k (shorter_begins c a d b (is_prefix-through a (toward a) d (prefix_of_take a k (length a + w) h.1 (omega arith)) front) s) h.1)
              | inl s ↦
                  let x = v.whole a h.0 in
                  let y = v.whole c n in
                  elim (whole_step w x.0 y.0 (omega (arith, s, x.1, y.1))) [
                    | inl z ↦ absurd (omega (arith, s, z, x.1, y.1))
                    | inr z ↦ subst (Member (path_keys w k ks)) (same q.key (q.each c n (shorter_begins (toward a) c d front b (omega (arith, bits, z, x.1, y.1)))) g) m
                  ]
            ]

    -- and the child in each slot that begins k, of a key that does
    pub path_keys-child : (c s : List Bool) → Member ks c → is_prefix c s ≡ true → length s ≡ length c + w → is_prefix s k ≡ true → (q : Least ks s) → Member (path_keys w k ks) q.key
    path_keys-child c s m a e b q = go (is_prefix q.key k) refl
      where
        front : is_prefix c k ≡ true
        front = is_prefix-through c s k a b

        -- c is the last key on the way
        last : is_prefix q.key k ≡ false → (d : List Bool) (ds : List (List Bool)) → way k ks ≡ d ∷ ds → (s ≡ toward (last_key_of d ds)) × (length (last_key_of d ds) + w ≡ length s)
        last off d ds f =
            let n = last_key_of d ds in
            let h = on_way d ds f n (last_member d ds) in
            let p = last_begins d ds (way_chain d ds f) c (subst (λ l. Member l c) f (Member-filter-in (λ c. is_prefix c k) ks c m front)) in
            let x = v.whole c m in
            let y = v.whole n h.0 in
            let l = length-is_prefix c n p in
            elim (whole_step w x.0 y.0 (omega (arith, l, x.1, y.1))) [
              | inl z ↦
                  let t : length n + w ≡ length s = omega (arith, l, z, x.1, y.1, e) in
                  (sym (take-is_prefix s k b) ∙ ap (λ l. take l k) (sym t), t)
              | inr z ↦ absurd (
                  let g = shorter_begins s n k b h.1 (omega (arith, z, x.1, y.1, e)) in
                  let g : is_prefix q.key k ≡ true = is_prefix-through q.key n k (q.each n h.0 g) h.1 in cc)
            ]

        go : (t : Bool) → is_prefix q.key k ≡ t → Member (path_keys w k ks) q.key
        go true t = way_in q.key q.member t
        go false t = elim shape [
          | empty g f ↦ absurd (subst (λ l. Member l c) f m)
          | alone r g f ↦ absurd (subst (λ l. Member l c) f (Member-filter-in (λ c. is_prefix c k) ks c m front))
          | ended d ds f g x ↦ elim x [
            | inl l ↦ absurd (let y = last t d ds f in let z = length-is_prefix s k b in omega (arith, v.pos, l, y.1, z))
            | inr n ↦ absurd (let y = last t d ds f in let z : [] ≡ q.key ∷ [] = sym n ∙ ap (λ s. keys_in s ks) (sym y.0) ∙ least_in s q in cc)
          ]
          | forked d ds r f g l ↦
              let y = last t d ds f in
              let z : Some r.key ≡ Some q.key = sym r.found ∙ ap (λ s. shortest (filter (is_prefix s) ks)) (sym y.0) ∙ q.found in
              let z : r.key ≡ q.key = cc in
              subst (λ l. Member l q.key) (sym g) (Member-append-right (d ∷ ds) (r.key ∷ []) q.key (inl z))
        ]
