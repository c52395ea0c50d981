-- What the look-ups in a list of items find.
use Rattle.std.proofs.Common.{◌≡◌, ◌≢◌, ℕ, Bool, true, false, cond, List, [], ◌∷◌, refl, sym, ap, ◌∙◌, subst, ◌⊎◌, inl, inr, Option, Some, None}
use Rattle.base_model.specs.Member.{Member}
use Rattle.trie_model.specs.Bits.{is_prefix, same_key}
use Rattle.trie_model.specs.Ids.{digest_at, stub_at, below}
use Rattle.trie_model.specs.Items.{Item, Val, Stub, position, IsItemList, NoStubs}
use Rattle.trie_model.proofs.Lists.{Member-filter-of}
use Rattle.trie_model.proofs.Prefixes.{same_key-is, same_key-itself}

-- a digest that is found is that of a value in the list
pub digest_at-of : (k : List Bool) (is : List Item) (d : List ℕ) → digest_at k is ≡ Some d → Member is (Val k d)
digest_at-of k [] d e = absurd (cc)
digest_at-of k (Val l c ∷ is) d e = go (same_key k l) refl (digest_at-of k is d) e
  where
    go : (b : Bool) → same_key k l ≡ b → (digest_at k is ≡ Some d → Member is (Val k d)) → cond b (Some c) (digest_at k is) ≡ Some d → (Val l c ≡ Val k d) ⊎ Member is (Val k d)
    go true f ih e = let g = same_key-is k l f in inl (cc)
    go false f ih e = inr (ih e)
digest_at-of k (Stub p x ∷ is) d e = inr (digest_at-of k is d e)

-- a digest is found at the key of a value
pub digest_at-some : (k : List Bool) (is : List Item) (d : List ℕ) → Member is (Val k d) → (c : List ℕ) × (digest_at k is ≡ Some c)
digest_at-some k [] d h = absurd h
digest_at-some k (Val l c ∷ is) d (inl e) = (c, ap (λ b. cond b (Some c) (digest_at k is)) (let f : l ≡ k = cc in subst (λ l. same_key k l ≡ true) (sym f) (same_key-itself k)))
digest_at-some k (Val l c ∷ is) d (inr h) = go (same_key k l) (digest_at-some k is d h)
  where
    go : (b : Bool) → (c : List ℕ) × (digest_at k is ≡ Some c) → (e : List ℕ) × (cond b (Some c) (digest_at k is) ≡ Some e)
    go true r = (c, refl)
    go false r = r
digest_at-some k (Stub p x ∷ is) d (inl e) = absurd (cc)
digest_at-some k (Stub p x ∷ is) d (inr h) = digest_at-some k is d h

-- in an item list the digest that is found is the value's own
pub digest_at-is : (w : ℕ) (k : List Bool) (is : List Item) (d : List ℕ) → IsItemList w is → Member is (Val k d) → digest_at k is ≡ Some d
digest_at-is w k is d v h = let s = digest_at-some k is d h in s.1 ∙ ap Some (v.val_one k s.0 d (digest_at-of k is s.0 s.1) h)

-- an ID that is found is that of a stub in the list
pub stub_at-of : (s : List Bool) (is : List Item) (x : List ℕ) → stub_at s is ≡ Some x → Member is (Stub s x)
stub_at-of s [] x e = absurd (cc)
stub_at-of s (Val l c ∷ is) x e = inr (stub_at-of s is x e)
stub_at-of s (Stub p y ∷ is) x e = go (same_key s p) refl (stub_at-of s is x) e
  where
    go : (b : Bool) → same_key s p ≡ b → (stub_at s is ≡ Some x → Member is (Stub s x)) → cond b (Some y) (stub_at s is) ≡ Some x → (Stub p y ≡ Stub s x) ⊎ Member is (Stub s x)
    go true f ih e = let g = same_key-is s p f in inl (cc)
    go false f ih e = inr (ih e)

-- an ID is found at the slot of a stub
pub stub_at-some : (s : List Bool) (is : List Item) (x : List ℕ) → Member is (Stub s x) → stub_at s is ≢ None
stub_at-some s [] x h n = h
stub_at-some s (Val l c ∷ is) x (inl e) n = cc
stub_at-some s (Val l c ∷ is) x (inr h) n = stub_at-some s is x h n
stub_at-some s (Stub p y ∷ is) x (inl e) n = let f : p ≡ s = cc in let g : cond (same_key s p) (Some y) (stub_at s is) ≡ Some y = ap (λ b. cond b (Some y) (stub_at s is)) (subst (λ p. same_key s p ≡ true) (sym f) (same_key-itself s)) in cc
stub_at-some s (Stub p y ∷ is) x (inr h) n = go (same_key s p) (stub_at-some s is x h) n
  where
    go : (b : Bool) → stub_at s is ≢ None → cond b (Some y) (stub_at s is) ≢ None
    go true m n = cc
    go false m n = m n

-- in a list of values alone no stub is found
pub no_stub_at : (s : List Bool) (ns : List Item) → NoStubs ns → stub_at s ns ≡ None
no_stub_at s ns h = go (stub_at s ns) refl
  where
    go : (o : Option (List ℕ)) → stub_at s ns ≡ o → stub_at s ns ≡ None
    go None e = e
    go (Some x) e = absurd (h s x (stub_at-of s ns x e))

-- a list of values alone has values alone below a slot
pub NoStubs-below : (w : ℕ) (s : List Bool) (ns : List Item) → NoStubs ns → NoStubs (below w s ns)
NoStubs-below w s ns h p x m = h p x (Member-filter-of (λ j. is_prefix s (position w j)) ns (Stub p x) m).0
