-- Items in their order: what is made of two such lists, taken from their fronts.
use Rattle.std.proofs.Common.{◌≡◌, Bool, true, false, List, [], ◌∷◌, ◌++◌, refl, sym, ap, ◌∙◌, subst, append_assoc, Ordering, Less, Equal, Greater}
use Rattle.std.proofs.lemmas.List.{append-nil}
use Rattle.std.specs.Cmp.{IsTotalOrder, bool_cmp_total}
use Rattle.std.proofs.lemmas.Cmp.{lists_total}
use Rattle.std.specs.Ordering.{ordering_reverse}
use Rattle.std.specs.List.{AllByRecursion}
use Rattle.trie_model.specs.Bits.{key_cmp, IsRising}
use Rattle.trie_model.specs.Items.{Item, place_of, places}
use Rattle.trie_model.proofs.KeySets.{below-through}
use Rattle.proof_model.specs.Claims.{item_beside, with_item, in_order}

-- ---- the order of keys
key_order : IsTotalOrder key_cmp
key_order = lists_total bool_cmp_total

-- keys that tie are one
pub tied : (a b : List Bool) → key_cmp a b ≡ Equal → a ≡ b
tied [] [] h = refl
tied (true ∷ a) (true ∷ b) h = ap (λ r. true ∷ r) (tied a b h)
tied (false ∷ a) (false ∷ b) h = ap (λ r. false ∷ r) (tied a b h)
tied a b h = absurd (cc)

-- a key that has another below it is above it
turned : (a b : List Bool) → key_cmp a b ≡ Less → key_cmp b a ≡ Greater
turned a b h = key_order.antisymm b a ∙ ap ordering_reverse h

pub turned_back : (a b : List Bool) → key_cmp a b ≡ Greater → key_cmp b a ≡ Less
turned_back a b h = key_order.antisymm b a ∙ ap ordering_reverse h

-- what holds of the key or slot of each item
abbrev pub AllPlaced : (List Bool → Type 0) → List Item → Type 0
AllPlaced P is = AllByRecursion P (places is)

pub AllPlaced-append : (P : List Bool → Type 0) (is js : List Item) → AllPlaced P is → AllPlaced P js → AllPlaced P (is ++ js)
AllPlaced-append P [] js a b = b
AllPlaced-append P (i ∷ is) js a b = (a.0, AllPlaced-append P is js a.1 b)

AllPlaced-parts : (P : List Bool → Type 0) (is js : List Item) → AllPlaced P (is ++ js) → AllPlaced P is × AllPlaced P js
AllPlaced-parts P [] js a = (tt, a)
AllPlaced-parts P (i ∷ is) js a = let r = AllPlaced-parts P is js a.1 in ((a.0, r.0), r.1)

pub AllPlaced-weaker : (P Q : List Bool → Type 0) (is : List Item) → ((l : List Bool) → P l → Q l) → AllPlaced P is → AllPlaced Q is
AllPlaced-weaker P Q [] f a = tt
AllPlaced-weaker P Q (i ∷ is) f a = (f (place_of i) a.0, AllPlaced-weaker P Q is f a.1)

-- each of these stands behind a key
abbrev pub AllAbove : List Bool → List Item → Type 0
AllAbove k is = AllPlaced (λ l. key_cmp k l ≡ Less) is

pub AllAbove-through : (k l : List Bool) (is : List Item) → key_cmp k l ≡ Less → AllAbove l is → AllAbove k is
AllAbove-through k l is h a = AllPlaced-weaker (λ m. key_cmp l m ≡ Less) (λ m. key_cmp k m ≡ Less) is (λ m g. below-through k l m h g) a

pub AllAbove-append : (k : List Bool) (is js : List Item) → AllAbove k is → AllAbove k js → AllAbove k (is ++ js)
AllAbove-append k is js a b = AllPlaced-append (λ l. key_cmp k l ≡ Less) is js a b

-- ---- one item more
AllPlaced-with : (P : List Bool → Type 0) (i : Item) (is : List Item) → P (place_of i) → AllPlaced P is → AllPlaced P (with_item i is)
AllPlaced-with P i [] h a = (h, tt)
AllPlaced-with P i (j ∷ js) h a = go (key_cmp (place_of i) (place_of j)) (AllPlaced-with P i js h a.1)
  where
    go : (o : Ordering) → AllPlaced P (with_item i js) → AllPlaced P (item_beside o i j js (with_item i js))
    go Less ih = (h, a)
    go Equal ih = (h, a.1)
    go Greater ih = (a.0, ih)

pub AllPlaced-in_order : (P : List Bool → Type 0) (is : List Item) → AllPlaced P is → AllPlaced P (in_order is)
AllPlaced-in_order P [] a = tt
AllPlaced-in_order P (i ∷ is) a = AllPlaced-with P i (in_order is) a.0 (AllPlaced-in_order P is a.1)

AllAbove-with : (k : List Bool) (i : Item) (is : List Item) → key_cmp k (place_of i) ≡ Less → AllAbove k is → AllAbove k (with_item i is)
AllAbove-with k i is h a = AllPlaced-with (λ l. key_cmp k l ≡ Less) i is h a

AllAbove-in_order : (k : List Bool) (is : List Item) → AllAbove k is → AllAbove k (in_order is)
AllAbove-in_order k is a = AllPlaced-in_order (λ l. key_cmp k l ≡ Less) is a

-- an item in front of all others
with_item-front : (i : Item) (is : List Item) → AllAbove (place_of i) is → with_item i is ≡ i ∷ is
with_item-front i [] a = refl
with_item-front i (j ∷ js) a = ap (λ o. item_beside o i j js (with_item i js)) a.0

rises-with : (i : Item) (is : List Item) → IsRising (places is) → IsRising (places (with_item i is))
rises-with i [] h = (tt, tt)
rises-with i (j ∷ js) h = go (key_cmp (place_of i) (place_of j)) refl (rises-with i js h.1)
  where
    go : (o : Ordering) → key_cmp (place_of i) (place_of j) ≡ o → IsRising (places (with_item i js)) → IsRising (places (item_beside o i j js (with_item i js)))
    go Less e ih = ((e, AllAbove-through (place_of i) (place_of j) js e h.0), h)
    go Equal e ih = (subst (λ k. AllAbove k js) (sym (tied (place_of i) (place_of j) e)) h.0, h.1)
    go Greater e ih = (AllAbove-with (place_of j) i js (turned_back (place_of i) (place_of j) e) h.0, ih)

-- items in their order rise
pub rises-in_order : (is : List Item) → IsRising (places (in_order is))
rises-in_order [] = tt
rises-in_order (i ∷ is) = rises-with i (in_order is) (rises-in_order is)

-- items that rise are in their order
pub in_order-rising : (is : List Item) → IsRising (places is) → in_order is ≡ is
in_order-rising [] h = refl
in_order-rising (i ∷ is) h = ap (with_item i) (in_order-rising is h.1) ∙ with_item-front i is h.0

-- ---- the fronts of two lists
-- an item in front of all others, wherever it is listed
least : (j : Item) (is js : List Item) → AllAbove (place_of j) is → AllAbove (place_of j) js → in_order (is ++ j ∷ js) ≡ j ∷ in_order (is ++ js)
least j [] js a b = with_item-front j (in_order js) (AllAbove-in_order (place_of j) js b)
least j (i ∷ is) js a b =
    ap (with_item i) (least j is js a.1 b) ∙ ap (λ o. item_beside o i j (in_order (is ++ js)) (with_item i (in_order (is ++ js)))) (turned (place_of j) (place_of i) a.0)

pub merged_left : (i j : Item) (is js : List Item) → IsRising (places (i ∷ is)) → IsRising (places (j ∷ js)) → key_cmp (place_of i) (place_of j) ≡ Less →
    in_order ((i ∷ is) ++ (j ∷ js)) ≡ i ∷ in_order (is ++ (j ∷ js))
merged_left i j is js a b h =
    with_item-front i (in_order (is ++ j ∷ js)) (AllAbove-in_order (place_of i) (is ++ j ∷ js) (AllAbove-append (place_of i) is (j ∷ js) a.0 (h, AllAbove-through (place_of i) (place_of j) js h b.0)))

pub merged_right : (i j : Item) (is js : List Item) → IsRising (places (i ∷ is)) → IsRising (places (j ∷ js)) → key_cmp (place_of i) (place_of j) ≡ Greater →
    in_order ((i ∷ is) ++ (j ∷ js)) ≡ j ∷ in_order ((i ∷ is) ++ js)
merged_right i j is js a b h =
    let l = turned_back (place_of i) (place_of j) h in
    least j (i ∷ is) js (l, AllAbove-through (place_of j) (place_of i) is l a.0) b.0

-- of two with one place the left one stands
pub merged_both : (i j : Item) (is js : List Item) → IsRising (places (i ∷ is)) → IsRising (places (j ∷ js)) → key_cmp (place_of i) (place_of j) ≡ Equal →
    in_order ((i ∷ is) ++ (j ∷ js)) ≡ i ∷ in_order (is ++ js)
merged_both i j is js a b h =
    ap (with_item i) (least j is js (subst (λ k. AllAbove k is) (tied (place_of i) (place_of j) h) a.0) b.0)
    ∙ ap (λ o. item_beside o i j (in_order (is ++ js)) (with_item i (in_order (is ++ js)))) h

-- ---- parts that are in order
-- of two items with one place the later one to come stands
with_item-tied : (i j : Item) (is : List Item) → key_cmp (place_of i) (place_of j) ≡ Equal → with_item i (with_item j is) ≡ with_item i is
with_item-tied i j [] h = ap (λ o. item_beside o i j [] (with_item i [])) h
with_item-tied i j (l ∷ ls) h = go (key_cmp (place_of j) (place_of l)) refl (with_item-tied i j ls h)
  where
    e : key_cmp (place_of i) (place_of l) ≡ key_cmp (place_of j) (place_of l)
    e = ap (λ k. key_cmp k (place_of l)) (tied (place_of i) (place_of j) h)

    go : (o : Ordering) → key_cmp (place_of j) (place_of l) ≡ o → with_item i (with_item j ls) ≡ with_item i ls → with_item i (item_beside o j l ls (with_item j ls)) ≡ item_beside (key_cmp (place_of i) (place_of l)) i l ls (with_item i ls)
    go Less f ih =
        ap (λ o. item_beside o i j (l ∷ ls) (with_item i (l ∷ ls))) h ∙ sym (ap (λ o. item_beside o i l ls (with_item i ls)) (e ∙ f))
    go Equal f ih =
        ap (λ o. item_beside o i j ls (with_item i ls)) h ∙ sym (ap (λ o. item_beside o i l ls (with_item i ls)) (e ∙ f))
    go Greater f ih =
        ap (λ o. item_beside o i l (with_item j ls) (with_item i (with_item j ls))) (e ∙ f) ∙ ap (λ r. l ∷ r) ih ∙ sym (ap (λ o. item_beside o i l ls (with_item i ls)) (e ∙ f))

-- items of two places may come in either order
with_item-swap : (i j : Item) (is : List Item) → key_cmp (place_of i) (place_of j) ≡ Greater → with_item i (with_item j is) ≡ with_item j (with_item i is)
with_item-swap i j [] h = ap (λ o. item_beside o i j [] (with_item i [])) h ∙ sym (ap (λ o. item_beside o j i [] (with_item j [])) (turned_back (place_of i) (place_of j) h))
with_item-swap i j (l ∷ ls) h = go (key_cmp (place_of i) (place_of l)) refl (key_cmp (place_of j) (place_of l)) refl (with_item-swap i j ls h)
  where
    back : key_cmp (place_of j) (place_of i) ≡ Less
    back = turned_back (place_of i) (place_of j) h

    -- the lower one in front of the list
    low : (x y : Item) (xs : List Item) → key_cmp (place_of x) (place_of y) ≡ Less → with_item x (y ∷ xs) ≡ x ∷ y ∷ xs
    low x y xs f = ap (λ o. item_beside o x y xs (with_item x xs)) f

    same : (x y : Item) (xs : List Item) → key_cmp (place_of x) (place_of y) ≡ Equal → with_item x (y ∷ xs) ≡ x ∷ xs
    same x y xs f = ap (λ o. item_beside o x y xs (with_item x xs)) f

    high : (x y : Item) (xs : List Item) → key_cmp (place_of x) (place_of y) ≡ Greater → with_item x (y ∷ xs) ≡ y ∷ with_item x xs
    high x y xs f = ap (λ o. item_beside o x y xs (with_item x xs)) f

    -- the higher one is above the front, where the lower one ties with it or is above it
    tie : key_cmp (place_of j) (place_of l) ≡ Equal → key_cmp (place_of i) (place_of l) ≡ Greater
    tie f = subst (λ k. key_cmp (place_of i) k ≡ Greater) (tied (place_of j) (place_of l) f) h

    over : key_cmp (place_of j) (place_of l) ≡ Greater → key_cmp (place_of i) (place_of l) ≡ Greater
    over f = turned (place_of l) (place_of i) (below-through (place_of l) (place_of j) (place_of i) (turned_back (place_of j) (place_of l) f) back)

    go : (o : Ordering) → key_cmp (place_of i) (place_of l) ≡ o → (p : Ordering) → key_cmp (place_of j) (place_of l) ≡ p → with_item i (with_item j ls) ≡ with_item j (with_item i ls) →
        with_item i (item_beside p j l ls (with_item j ls)) ≡ with_item j (item_beside o i l ls (with_item i ls))
    go Less e Less f ih = high i j (l ∷ ls) h ∙ ap (λ r. j ∷ r) (low i l ls e) ∙ sym (low j i (l ∷ ls) back)
    go Equal e Less f ih = high i j (l ∷ ls) h ∙ ap (λ r. j ∷ r) (same i l ls e) ∙ sym (low j i ls back)
    go Greater e Less f ih = high i j (l ∷ ls) h ∙ ap (λ r. j ∷ r) (high i l ls e) ∙ sym (low j l (with_item i ls) f)
    go Greater e Equal f ih = high i j ls h ∙ sym (same j l (with_item i ls) f)
    go Greater e Greater f ih = high i l (with_item j ls) e ∙ ap (λ r. l ∷ r) ih ∙ sym (high j l (with_item i ls) f)
    go Less e Equal f ih = absurd (let g = tie f in cc)
    go Equal e Equal f ih = absurd (let g = tie f in cc)
    go Less e Greater f ih = absurd (let g = over f in cc)
    go Equal e Greater f ih = absurd (let g = over f in cc)

-- an item that is put in its place first
in_order-with : (i : Item) (is js : List Item) → in_order (with_item i is ++ js) ≡ with_item i (in_order (is ++ js))
in_order-with i [] js = refl
in_order-with i (l ∷ ls) js = go (key_cmp (place_of i) (place_of l)) refl (in_order-with i ls js)
  where
    go : (o : Ordering) → key_cmp (place_of i) (place_of l) ≡ o → in_order (with_item i ls ++ js) ≡ with_item i (in_order (ls ++ js)) →
        in_order (item_beside o i l ls (with_item i ls) ++ js) ≡ with_item i (with_item l (in_order (ls ++ js)))
    go Less e ih = refl
    go Equal e ih = sym (with_item-tied i l (in_order (ls ++ js)) e)
    go Greater e ih = ap (with_item l) ih ∙ sym (with_item-swap i l (in_order (ls ++ js)) e)

-- the front may be put in order first
in_order-front : (is js : List Item) → in_order (in_order is ++ js) ≡ in_order (is ++ js)
in_order-front [] js = refl
in_order-front (i ∷ is) js = in_order-with i (in_order is) js ∙ ap (with_item i) (in_order-front is js)

-- and so may the back
pub in_order-back : (is js : List Item) → in_order (is ++ in_order js) ≡ in_order (is ++ js)
in_order-back [] js = in_order-rising (in_order js) (rises-in_order js)
in_order-back (i ∷ is) js = ap (with_item i) (in_order-back is js)

-- two lists may be put in order before they are merged
pub in_order-parts : (is js : List Item) → in_order (in_order is ++ in_order js) ≡ in_order (is ++ js)
in_order-parts is js = in_order-front is (in_order js) ∙ in_order-back is js

-- ---- parts that stand apart
-- each of the first items stands in front of each of the others
abbrev pub Apart : List Item → List Item → Type 0
Apart is js = AllPlaced (λ l. AllAbove l js) is

Apart-append : (is js ls : List Item) → Apart is js → Apart is ls → Apart is (js ++ ls)
Apart-append [] js ls a b = tt
Apart-append (i ∷ is) js ls a b = (AllAbove-append (place_of i) js ls a.0 b.0, Apart-append is js ls a.1 b.1)

-- in front of one of the others, and of the rest of them
pub Apart-parts : (is js : List Item) (j : Item) → Apart is (j ∷ js) → AllPlaced (λ l. key_cmp l (place_of j) ≡ Less) is × Apart is js
Apart-parts [] js j a = (tt, tt)
Apart-parts (i ∷ is) js j a = let r = Apart-parts is js j a.1 in ((a.0.0, r.0), (a.0.1, r.1))

rising_parts : (is js : List Item) → IsRising (places (is ++ js)) → IsRising (places is) × IsRising (places js) × Apart is js
rising_parts [] js h = (tt, h, tt)
rising_parts (i ∷ is) js h =
    let r = rising_parts is js h.1 in
    let p = AllPlaced-parts (λ l. key_cmp (place_of i) l ≡ Less) is js h.0 in
    ((p.0, r.0), r.1, (p.1, r.2))

-- items in front of all others
first_apart : (is js : List Item) → IsRising (places is) → Apart is js → in_order (is ++ js) ≡ is ++ in_order js
first_apart [] js h a = refl
first_apart (i ∷ is) js h a =
    ap (with_item i) (first_apart is js h.1 a.1) ∙ with_item-front i (is ++ in_order js) (AllAbove-append (place_of i) is (in_order js) h.0 (AllAbove-in_order (place_of i) js a.0))

-- an item between others
pub with_item-between : (i : Item) (is js : List Item) → AllPlaced (λ l. key_cmp l (place_of i) ≡ Less) is → AllAbove (place_of i) js → with_item i (is ++ js) ≡ is ++ i ∷ js
with_item-between i [] js a b = with_item-front i js b
with_item-between i (l ∷ ls) js a b =
    ap (λ o. item_beside o i l (ls ++ js) (with_item i (ls ++ js))) (turned (place_of l) (place_of i) a.0) ∙ ap (λ r. l ∷ r) (with_item-between i ls js a.1 b)

-- items that are listed in front of others, and stand behind all of them
last_apart : (is js : List Item) → IsRising (places is) → Apart js is → in_order (is ++ js) ≡ in_order js ++ is
last_apart [] js h a = sym (append-nil (in_order js))
last_apart (i ∷ is) js h a =
    let p = Apart-parts js is i a in
    ap (with_item i) (last_apart is js h.1 p.1) ∙ with_item-between i (in_order js) is (AllPlaced-in_order (λ l. key_cmp l (place_of i) ≡ Less) js p.0) h.0

-- items that rise, and others that stand behind the first of them and in front of the rest
pub in_order-amid : (is js ls : List Item) → IsRising (places (is ++ js)) → Apart is ls → Apart ls js → in_order ((is ++ js) ++ ls) ≡ is ++ (in_order ls ++ js)
in_order-amid is js ls h a b =
    let p = rising_parts is js h in
    ap in_order (append_assoc is js ls) ∙ first_apart is (js ++ ls) p.0 (Apart-append is js ls p.2 a) ∙ ap (λ r. is ++ r) (last_apart js ls p.1 b)
