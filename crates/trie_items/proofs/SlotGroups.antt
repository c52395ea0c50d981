-- What is made of items slot by slot, stubs among them: the items of the first slot come first.
use Rattle.std.proofs.Common.{◌≡◌, ℕ, ◌-◌, ◌*◌, ◌^◌, ◌<◌, ◌≤◌, Bool, true, false, cond, List, [], ◌∷◌, ◌++◌, length, refl, sym, ap, ◌∙◌, subst, arith, eqb, length-append, Option, Some, None, inl, inr, Less}
use Rattle.std.specs.List.{flat_map, filter, AllByRecursion}
use Rattle.std.proofs.lemmas.Bool.Decides.{nat_tests}
use Rattle.base_model.specs.Member.{Member}
use Rattle.base_model.proofs.Bits.{length-bits_of}
use Rattle.trie_model.specs.Bits.{bits_of, is_prefix, same_key, key_cmp}
use Rattle.trie_model.specs.Ids.{numbers_from, stub_at, below, child_of, id}
use Rattle.trie_model.specs.Items.{Item, Val, Stub, place_of, position, IsWholeItem, IsValid}
use Rattle.trie_model.specs.Strings.{descend, strings}
use Rattle.trie_model.proofs.Children.{tok, is_prefix-tok}
use Rattle.trie_model.proofs.Groups.{made_of, first_group}
use Rattle.trie_model.proofs.KeySets.{not_itself}
use Rattle.trie_model.proofs.Lists.{filter-all, filter-filter, flat_map-same}
use Rattle.trie_model.proofs.Lookups.{stub_at-of}
use Rattle.trie_model.proofs.Prefixes.{same_key-is, same_key-itself, is_prefix-itself, is_prefix-through, is_prefix-append, is_prefix-all, length-is_prefix, prefix_of_take, whole_step}
use Rattle.trie_model.proofs.Valid.{valid_by_members}
use Rattle.trie_items.specs.SlotIds.{lone, or_id, slot_id, slot_strings}
use Rattle.trie_items.proofs.NodeKeys.{position-place, place-whole}

-- what begins with a slot has the slot's token
slot_tok : (w u : ℕ) (k q : List Bool) → u < 2 ^ w → is_prefix (k ++ bits_of w u) q ≡ true → eqb (tok w k q) u ≡ true
slot_tok w u k q m h =
    let starts : is_prefix k q ≡ true = is_prefix-through k (k ++ bits_of w u) q (is_prefix-append k k (bits_of w u) (is_prefix-itself k)) h in
    let l = length-is_prefix (k ++ bits_of w u) q h in
    sym (is_prefix-tok w u k q starts (omega (arith, l, length-append k (bits_of w u), length-bits_of w u)) m) ∙ h

-- the number of an item is its token behind the node's key
abbrev number : ℕ → List Bool → Item → ℕ
number w k i = tok w k (place_of i)

-- a filter that keeps the stub of a slot leaves what is found there
stub_at-filter : (s : List Bool) (p : Item → Bool) (is : List Item) → ((x : List ℕ) → p (Stub s x) ≡ true) → stub_at s (filter p is) ≡ stub_at s is
stub_at-filter s p [] h = refl
stub_at-filter s p (Val l c ∷ is) h = go (p (Val l c)) (stub_at-filter s p is h)
  where
    go : (b : Bool) → stub_at s (filter p is) ≡ stub_at s is → stub_at s (cond b (Val l c ∷ filter p is) (filter p is)) ≡ stub_at s is
    go true ih = ih
    go false ih = ih
stub_at-filter s p (Stub q x ∷ is) h = go (p (Stub q x)) refl (same_key s q) refl (stub_at-filter s p is h)
  where
    go : (b : Bool) → p (Stub q x) ≡ b → (c : Bool) → same_key s q ≡ c → stub_at s (filter p is) ≡ stub_at s is → stub_at s (cond b (Stub q x ∷ filter p is) (filter p is)) ≡ cond c (Some x) (stub_at s is)
    go true e c f ih = ap (λ r. cond (same_key s q) (Some x) r) ih ∙ ap (λ c. cond c (Some x) (stub_at s is)) f
    go false e true f ih = absurd (let g : s ≡ q = same_key-is s q f in let k : p (Stub q x) ≡ true = subst (λ q. p (Stub q x) ≡ true) g (h x) in let l : true ≡ false = sym k ∙ e in cc)
    go false e false f ih = ih

module _ {B : Type 0} (h : ℕ → Option (List ℕ) → List Item → List B) (none : (u : ℕ) → h u None [] ≡ []) where
  -- what is made of each slot below a node: of its stub, and of the items that stand below it
  abbrev pub by_slot : ℕ → List Bool → List Item → List B
  by_slot w k is = flat_map (λ t. h t (stub_at (k ++ bits_of w t) is) (below w (k ++ bits_of w t) is)) (numbers_from 0 (2 ^ w))

  abbrev of_slot : ℕ → List Bool → ℕ → List Item → List B
  of_slot w k u xs = h u (stub_at (k ++ bits_of w u) xs) (below w (k ++ bits_of w u) xs)

  of_slot-none : (w : ℕ) (k : List Bool) (u : ℕ) → of_slot w k u [] ≡ []
  of_slot-none w k u = none u

  -- it is made number by number
  by_number : (w : ℕ) (k : List Bool) (is : List Item) → by_slot w k is ≡ flat_map (made_of (number w k) (of_slot w k) (of_slot-none w k) is) (numbers_from 0 (2 ^ w))
  unfolding made_of
  by_number w k is = flat_map-same _ _ 0 (2 ^ w) (λ u l m.
      let s : List Bool = k ++ bits_of w u in
      let p : Item → Bool = λ i. eqb (number w k i) u in
      ap (λ o. h u o (below w s is)) (sym (stub_at-filter s p is (λ x. slot_tok w u k s (omega arith) (is_prefix-itself s))))
      ∙ ap (λ xs. h u (stub_at s (filter p is)) xs) (sym (filter-filter (λ i. is_prefix s (position w i)) p is (λ i e. slot_tok w u k (place_of i) (omega arith) (is_prefix-through s (position w i) (place_of i) e (position-place w i))))))

  -- the items of the first slot, and then the others
  pub first_slot : (w t : ℕ) (k : List Bool) (gs rs : List Item) → AllByRecursion (λ i. tok w k (place_of i) ≡ t) gs → AllByRecursion (λ i. t < tok w k (place_of i)) rs → t < 2 ^ w →
      by_slot w k (gs ++ rs) ≡ h t (stub_at (k ++ bits_of w t) gs) (below w (k ++ bits_of w t) gs) ++ by_slot w k rs
  first_slot w t k gs rs q r m =
      by_number w k (gs ++ rs)
      ∙ first_group (number w k) (of_slot w k) (of_slot-none w k) t gs rs 0 (2 ^ w) q r (omega arith) (omega arith)
      ∙ ap (λ x. of_slot w k t gs ++ x) (sym (by_number w k rs))

  -- the value at the node itself lies in no slot
  pub own_value : (w : ℕ) (k : List Bool) (d : List ℕ) (rs : List Item) → 0 < w → by_slot w k (Val k d ∷ rs) ≡ by_slot w k rs
  own_value w k d rs pos = flat_map-same _ _ 0 (2 ^ w) (λ u l m. ap (λ b. h u (stub_at (k ++ bits_of w u) rs) (cond b (Val k d ∷ below w (k ++ bits_of w u) rs) (below w (k ++ bits_of w u) rs))) (too_long u))
    where
      too_long : (u : ℕ) → is_prefix (k ++ bits_of w u) k ≡ false
      too_long u = go (is_prefix (k ++ bits_of w u) k) refl
        where
          go : (c : Bool) → is_prefix (k ++ bits_of w u) k ≡ c → is_prefix (k ++ bits_of w u) k ≡ false
          go false e = e
          go true e = absurd (let l = length-is_prefix (k ++ bits_of w u) k e in omega (arith, l, length-append k (bits_of w u), length-bits_of w u))

  -- nothing is made of nothing
  pub of_none : (w : ℕ) (k : List Bool) → by_slot w k [] ≡ []
  of_none w k = go (numbers_from 0 (2 ^ w))
    where
      go : (ts : List ℕ) → flat_map (λ t. h t None []) ts ≡ []
      go [] = refl
      go (t ∷ ts) = ap (λ r. r ++ flat_map (λ t. h t None []) ts) (none t) ∙ go ts

-- ---- one slot
-- items of one slot: its stub alone, or items that all stand below it
pub data InSlot (w : ℕ) (s : List Bool) (is : List Item) : Type 0 where
  stub : (x : List ℕ) → lone (length s) is ≡ Some x → stub_at s is ≡ Some x → InSlot w s is
  items : lone (length s) is ≡ None → stub_at s is ≡ None → below w s is ≡ is → InSlot w s is

-- no stub of a slot stands among items that are not that stub alone
no_stub : (w : ℕ) (s : List Bool) (is : List Item) → IsValid w is → AllByRecursion (λ i. is_prefix s (place_of i) ≡ true) is → lone (length s) is ≡ None → (x : List ℕ) → Member is (Stub s x) → ⊥
no_stub w s [] v a e x m = m
no_stub w s (Val k d ∷ []) v a e x (inl f) = cc
no_stub w s (Val k d ∷ []) v a e x (inr f) = f
no_stub w s (Stub p y ∷ []) v a e x (inl f) =
    let g : p ≡ s = cc in
    let t : eqb (length p) (length s) ≡ true = let l = ap length g in grind (arith, nat_tests) in
    let u : Some y ≡ None = ap (λ b. cond b (Some y) None) (sym t) ∙ e in cc
no_stub w s (Stub p y ∷ []) v a e x (inr f) = f
no_stub w s (i ∷ j ∷ is) v a e x m =
    let b = valid_by_members w (i ∷ j ∷ is) v in
    let f : i ≡ Stub s x = b.stub_alone s x i m (inl refl) a.0 in
    let g : j ≡ Stub s x = b.stub_alone s x j m (inr (inl refl)) a.1.0 in
    not_itself s (subst (λ q. key_cmp s q ≡ Less) (ap place_of g) (subst (λ q. key_cmp q (place_of j) ≡ Less) (ap place_of f) v.ordered.0.0.greater))

-- an item in a slot that is not its stub stands below it
stands_below : (w m : ℕ) (s : List Bool) (i : Item) → 0 < w → length s ≡ w * m → IsWholeItem w i → is_prefix s (place_of i) ≡ true → ((x : List ℕ) → i ≡ Stub s x → ⊥) → is_prefix s (position w i) ≡ true
stands_below w m s (Val k d) pos l h b n = b
stands_below w m s (Stub p x) pos l h b n =
    let ls = length-is_prefix s p b in
    let lp = place-whole w (Stub p x) h in
    elim (whole_step w m lp.0 (omega (arith, ls, l, lp.1))) [
      | inr g ↦ prefix_of_take s p (length p - w) b (omega (arith, g, l, lp.1))
      | inl g ↦ absurd (n x (ap (λ q. Stub q x) (is_prefix-all s p b (omega (arith, g, l, lp.1)))))
    ]

pub in_slot : (w m : ℕ) (s : List Bool) (is : List Item) → 0 < w → length s ≡ w * m → IsValid w is → AllByRecursion (λ i. is_prefix s (place_of i) ≡ true) is → InSlot w s is
in_slot w m s is pos l v a = which (lone (length s) is) refl
  where
    rest : lone (length s) is ≡ None → InSlot w s is
    rest e = items e none (filter-all _ is (each is (λ i n. n) v.whole a))
      where
        none : stub_at s is ≡ None
        none = go (stub_at s is) refl
          where
            go : (o : Option (List ℕ)) → stub_at s is ≡ o → stub_at s is ≡ None
            go None f = f
            go (Some x) f = absurd (no_stub w s is v a e x (stub_at-of s is x f))

        each : (xs : List Item) → ((i : Item) → Member xs i → Member is i) → AllByRecursion (IsWholeItem w) xs → AllByRecursion (λ i. is_prefix s (place_of i) ≡ true) xs → AllByRecursion (λ i. is_prefix s (position w i) ≡ true) xs
        each [] sub h b = tt
        each (i ∷ xs) sub h b = (stands_below w m s i pos l h.0 b.0 (λ x f. no_stub w s is v a e x (subst (Member is) f (sub i (inl refl)))), each xs (λ j n. sub j (inr n)) h.1 b.1)

    found : (is : List Item) (x : List ℕ) → AllByRecursion (λ i. is_prefix s (place_of i) ≡ true) is → lone (length s) is ≡ Some x → stub_at s is ≡ Some x
    found [] x a e = absurd cc
    found (Val k d ∷ is) x a e = absurd cc
    found (Stub p y ∷ []) x a e = go (eqb (length p) (length s)) refl e
      where
        go : (b : Bool) → eqb (length p) (length s) ≡ b → cond b (Some y) None ≡ Some x → cond (same_key s p) (Some y) None ≡ Some x
        go true t f =
            let le : length p ≡ length s = grind (arith, nat_tests) in
            let same : p ≡ s = is_prefix-all s p a.0 (omega (arith, le)) in
            let k : same_key s p ≡ true = subst (λ q. same_key s q ≡ true) (sym same) (same_key-itself s) in
            ap (λ b. cond b (Some y) None) k ∙ f
        go false t f = absurd cc
    found (Stub p y ∷ i ∷ is) x a e = absurd cc

    which : (o : Option (List ℕ)) → lone (length s) is ≡ o → InSlot w s is
    which None e = rest e
    which (Some x) e = stub x e (found is x a e)

-- the child in a slot is told by the items of the slot
pub slot_child : (w m t : ℕ) (s : List Bool) (i : Item) (is : List Item) → 0 < w → length s ≡ w * m → IsValid w (i ∷ is) → AllByRecursion (λ i. is_prefix s (place_of i) ≡ true) (i ∷ is) →
    child_of (id w) t (stub_at s (i ∷ is)) (below w s (i ∷ is)) ≡ (t, slot_id w (length s) (i ∷ is)) ∷ []
slot_child w m t s i is pos l v a = which (in_slot w m s (i ∷ is) pos l v a)
  where
    which : InSlot w s (i ∷ is) → child_of (id w) t (stub_at s (i ∷ is)) (below w s (i ∷ is)) ≡ (t, slot_id w (length s) (i ∷ is)) ∷ []
    which (stub x e f) = ap (λ o. child_of (id w) t o (below w s (i ∷ is))) f ∙ ap (λ o. (t, or_id w o (i ∷ is)) ∷ []) (sym e)
    which (items e f g) = ap (λ o. child_of (id w) t o (below w s (i ∷ is))) f ∙ ap (child_of (id w) t None) g ∙ ap (λ o. (t, or_id w o (i ∷ is)) ∷ []) (sym e)

-- so are the strings that are hashed for it
pub slot_hashed : (w m : ℕ) (s : List Bool) (is : List Item) → 0 < w → length s ≡ w * m → IsValid w is → AllByRecursion (λ i. is_prefix s (place_of i) ≡ true) is →
    descend (strings w) (stub_at s is) (below w s is) ≡ slot_strings w (length s) is
slot_hashed w m s is pos l v a = which (in_slot w m s is pos l v a)
  where
    which : InSlot w s is → descend (strings w) (stub_at s is) (below w s is) ≡ slot_strings w (length s) is
    which (stub x e f) = ap (λ o. descend (strings w) o (below w s is)) f ∙ ap (λ o. descend (strings w) o is) (sym e)
    which (items e f g) = ap (λ o. descend (strings w) o (below w s is)) f ∙ ap (strings w) g ∙ ap (λ o. descend (strings w) o is) (sym e)

-- there are fewer of them than in the list, where they are no stub alone
pub slot_shorter : (w : ℕ) (s : List Bool) (is all : List Item) → lone (length s) is ≡ None → InSlot w s is → length (below w s is) ≤ length (below w s all) → length (below w s all) < length all → length is < length all
slot_shorter w s is all e (stub x f g) h l = absurd (let u : None ≡ Some x = sym e ∙ f in cc)
slot_shorter w s is all e (items f g b) h l = let k = ap length b in omega (arith, k, h, l)
