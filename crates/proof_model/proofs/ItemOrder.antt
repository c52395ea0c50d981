-- Items in their order, one for each key or slot: which items stand there, and when they are a valid list.
use Rattle.std.proofs.Common.{◌≡◌, ℕ, Bool, true, false, List, [], ◌∷◌, refl, sym, ap, ◌∙◌, subst, ◌⊎◌, inl, inr, Ordering, Less, Equal, Greater}
use Rattle.std.specs.List.{AllByRecursion}
use Rattle.std.specs.Cmp.{IsTotalOrder, bool_cmp_total}
use Rattle.std.specs.Ordering.{ordering_reverse}
use Rattle.std.proofs.lemmas.Cmp.{lists_total}
use Rattle.base_model.specs.Member.{Member}
use Rattle.trie_model.specs.Bits.{is_prefix, key_cmp}
use Rattle.trie_model.specs.Items.{Item, Val, Stub, place_of, covers, Follows, IsOrdered}
use Rattle.trie_model.proofs.KeySets.{All-of, below-through, not_itself}
use Rattle.trie_model.proofs.Lists.{All-member}
use Rattle.proof_model.specs.Claims.{item_beside, with_item, in_order}

key_order : IsTotalOrder key_cmp
key_order = lists_total bool_cmp_total

-- keys that tie are one
tied : (a b : List Bool) → key_cmp a b ≡ Equal → a ≡ b
tied [] [] h = refl
tied (true ∷ a) (true ∷ b) h = ap (λ r. true ∷ r) (tied a b h)
tied (false ∷ a) (false ∷ b) h = ap (λ r. false ∷ r) (tied a b h)
tied a b h = absurd (cc)

-- a key above another has it below
other_way : (a b : List Bool) → key_cmp a b ≡ Greater → key_cmp b a ≡ Less
other_way a b h = key_order.antisymm b a ∙ ap ordering_reverse h

-- ---- members
-- what is there with one item more is that item, or was there
with_item-of : (i : Item) (js : List Item) (x : Item) → Member (with_item i js) x → (i ≡ x) ⊎ Member js x
with_item-of i [] x (inl e) = inl e
with_item-of i [] x (inr m) = inr m
with_item-of i (j ∷ js) x m = go (key_cmp (place_of i) (place_of j)) (with_item-of i js x) m
  where
    go : (o : Ordering) → (Member (with_item i js) x → (i ≡ x) ⊎ Member js x) → Member (item_beside o i j js (with_item i js)) x → (i ≡ x) ⊎ Member (j ∷ js) x
    go Less ih m = m
    go Equal ih (inl e) = inl e
    go Equal ih (inr m) = inr (inr m)
    go Greater ih (inl e) = inr (inl e)
    go Greater ih (inr m) = elim (ih m) [ inl e ↦ inl e | inr n ↦ inr (inr n) ]

-- that item is there
with_item-new : (i : Item) (js : List Item) → Member (with_item i js) i
with_item-new i [] = inl refl
with_item-new i (j ∷ js) = go (key_cmp (place_of i) (place_of j)) (with_item-new i js)
  where
    go : (o : Ordering) → Member (with_item i js) i → Member (item_beside o i j js (with_item i js)) i
    go Less ih = inl refl
    go Equal ih = inl refl
    go Greater ih = inr ih

-- what was there stays, unless the item has its place
with_item-stays : (i : Item) (js : List Item) (x : Item) → Member js x → (place_of i ≡ place_of x → i ≡ x) → Member (with_item i js) x
with_item-stays i [] x m f = absurd m
with_item-stays i (j ∷ js) x m f = go (key_cmp (place_of i) (place_of j)) refl (λ n. with_item-stays i js x n f) m
  where
    go : (o : Ordering) → key_cmp (place_of i) (place_of j) ≡ o → (Member js x → Member (with_item i js) x) → Member (j ∷ js) x → Member (item_beside o i j js (with_item i js)) x
    go Less e ih m = inr m
    go Equal e ih (inl p) = inl (f (tied (place_of i) (place_of j) e ∙ ap place_of p))
    go Equal e ih (inr m) = inr m
    go Greater e ih (inl p) = inl p
    go Greater e ih (inr m) = inr (ih m)

-- what is in order is among the items
pub in_order-of : (is : List Item) (x : Item) → Member (in_order is) x → Member is x
in_order-of [] x m = m
in_order-of (i ∷ is) x m = elim (with_item-of i (in_order is) x m) [ inl e ↦ inl e | inr n ↦ inr (in_order-of is x n) ]

-- an item is in order, where no other one has its place
pub in_order-in : (is : List Item) (x : Item) → Member is x → ((y : Item) → Member is y → place_of y ≡ place_of x → y ≡ x) → Member (in_order is) x
in_order-in [] x m f = m
in_order-in (i ∷ is) x (inl e) f = subst (λ y. Member (with_item i (in_order is)) y) e (with_item-new i (in_order is))
in_order-in (i ∷ is) x (inr m) f = with_item-stays i (in_order is) x (in_order-in is x m (λ y n e. f y (inr n) e)) (λ e. f i (inl refl) e)

-- ---- the order
-- each key or slot is below all that follow it
abbrev Rises : List Item → Type 0
Rises [] = Unit {0}
Rises (i ∷ is) = AllByRecursion (λ (j : Item). key_cmp (place_of i) (place_of j) ≡ Less) is × Rises is

with_item-rises : (i : Item) (js : List Item) → Rises js → Rises (with_item i js)
with_item-rises i [] h = (tt, tt)
with_item-rises i (j ∷ js) h = go (key_cmp (place_of i) (place_of j)) refl (with_item-rises i js h.1)
  where
    above : (k : Item) → Member js k → key_cmp (place_of j) (place_of k) ≡ Less
    above k m = All-member (λ (k : Item). key_cmp (place_of j) (place_of k) ≡ Less) js k h.0 m

    go : (o : Ordering) → key_cmp (place_of i) (place_of j) ≡ o → Rises (with_item i js) → Rises (item_beside o i j js (with_item i js))
    go Less e ih = ((e, All-of (λ (k : Item). key_cmp (place_of i) (place_of k) ≡ Less) js (λ k m. below-through (place_of i) (place_of j) (place_of k) e (above k m))), h)
    go Equal e ih = (All-of (λ (k : Item). key_cmp (place_of i) (place_of k) ≡ Less) js (λ k m. subst (λ p. key_cmp p (place_of k) ≡ Less) (sym (tied (place_of i) (place_of j) e)) (above k m)), h.1)
    go Greater e ih = (
      All-of (λ (k : Item). key_cmp (place_of j) (place_of k) ≡ Less) (with_item i js) (λ k m. elim (with_item-of i js k m) [
        | inl p ↦ subst (λ k. key_cmp (place_of j) (place_of k) ≡ Less) p (other_way (place_of i) (place_of j) e)
        | inr n ↦ above k n
      ]),
      ih,
    )

in_order-rises : (is : List Item) → Rises (in_order is)
in_order-rises [] = tt
in_order-rises (i ∷ is) = with_item-rises i (in_order is) (in_order-rises is)

-- what begins with the slot of a stub has that slot
abbrev pub StubsStandAlone : List Item → Type 0
StubsStandAlone is = (p : List Bool) (x : List ℕ) (i : Item) → Member is (Stub p x) → Member is i → is_prefix p (place_of i) ≡ true → place_of i ≡ p

-- an item behind another one does not lie in its slot
not_covered : (i j : Item) (is : List Item) → StubsStandAlone is → Member is i → Member is j → key_cmp (place_of i) (place_of j) ≡ Less → covers i (place_of j) ≡ false
not_covered (Val k d) j is f m n h = refl
not_covered (Stub p x) j is f m n h = go (is_prefix p (place_of j)) refl
  where
    go : (b : Bool) → is_prefix p (place_of j) ≡ b → is_prefix p (place_of j) ≡ false
    go false e = e
    go true e = absurd (not_itself p (subst (λ q. key_cmp p q ≡ Less) (f p x j m n e) h))

-- so such items that rise are ordered
ordered : (is all : List Item) → StubsStandAlone all → ((i : Item) → Member is i → Member all i) → Rises is → IsOrdered is
ordered [] all f g h = tt
ordered (i ∷ is) all f g h = (
  All-of (Follows i) is (λ j m.
      let less = All-member (λ (j : Item). key_cmp (place_of i) (place_of j) ≡ Less) is j h.0 m in
      record { greater = less; outside = not_covered i j all f (g i (inl refl)) (g j (inr m)) less }),
  ordered is all f (λ j m. g j (inr m)) h.1,
)

-- items in order are ordered, where no key or slot lies in the slot of another
pub in_order-IsOrdered : (is : List Item) → StubsStandAlone is → IsOrdered (in_order is)
in_order-IsOrdered is f = ordered (in_order is) is f (in_order-of is) (in_order-rises is)
