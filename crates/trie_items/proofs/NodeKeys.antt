-- The key of the root node of a valid list, and what hangs below it.
use Rattle.std.proofs.Common.{◌≡◌, ◌≢◌, ℕ, suc, ◌+◌, ◌-◌, ◌*◌, ◌/◌, ◌<◌, ◌≤◌, Bool, true, false, List, [], ◌∷◌, length, get_or, take, map, refl, sym, ap, ◌∙◌, subst, arith, ◌⊎◌, inl, inr, Less}
use Rattle.std.specs.List.{AllByRecursion}
use Rattle.std.proofs.lemmas.List.{length-take-le}
use Rattle.base_model.specs.Member.{Member}
use Rattle.trie_model.specs.Bits.{is_prefix, key_cmp, common, common_prefix, common_prefix_all}
use Rattle.trie_model.specs.Ids.{node_key}
use Rattle.trie_model.specs.Items.{Item, Val, Stub, place_of, position, IsWholeItem, Follows, IsOrdered, IsValid}
use Rattle.trie_model.proofs.KeySets.{All-of}
use Rattle.trie_model.proofs.Lists.{All-member}
use Rattle.trie_model.proofs.Positions.{is_prefix-common_prefix_all, node_key-is_prefix}
use Rattle.trie_model.proofs.Prefixes.{is_prefix-itself, is_prefix-through, is_prefix-take, is_prefix-all, length-is_prefix, prefix_of_take, prefix_of_whole, prefix_of_common, common-left, common-right, length_whole, whole_of_whole, whole_step}
use Rattle.trie_model.proofs.Rising.{last_of, not_after}

-- what begins two keys begins each key between them
sandwich : (c a m b : List Bool) → is_prefix c a ≡ true → is_prefix c b ≡ true → key_cmp a m ≡ Less → key_cmp m b ≡ Less → is_prefix c m ≡ true
sandwich [] a m b p q h k = refl
sandwich (x ∷ c) [] m b p q h k = absurd cc
sandwich (x ∷ c) (y ∷ a) [] b p q h k = absurd cc
sandwich (x ∷ c) (y ∷ a) (z ∷ m) [] p q h k = absurd cc
sandwich (true ∷ c) (true ∷ a) (true ∷ m) (true ∷ b) p q h k = sandwich c a m b p q h k
sandwich (false ∷ c) (false ∷ a) (false ∷ m) (false ∷ b) p q h k = sandwich c a m b p q h k
sandwich (false ∷ c) (false ∷ a) (true ∷ m) (true ∷ b) p q h k = absurd cc
sandwich (false ∷ c) (false ∷ a) (true ∷ m) (false ∷ b) p q h k = absurd cc
sandwich (x ∷ c) (y ∷ a) (z ∷ m) (u ∷ b) p q h k = absurd cc

-- ---- items of a valid list
-- a position begins its key or slot
pub position-place : (w : ℕ) (i : Item) → is_prefix (position w i) (place_of i) ≡ true
position-place w (Val k d) = is_prefix-itself k
position-place w (Stub p x) = is_prefix-take (length p - w) p

-- keys and slots are of whole tokens
pub place-whole : (w : ℕ) (i : Item) → IsWholeItem w i → (n : ℕ) × (length (place_of i) ≡ w * n)
place-whole w (Val k d) h = h
place-whole w (Stub p x) h = (suc h.0.0, h.0.1 ∙ mul_more w h.0.0)
  where
    mul_more : (w n : ℕ) → w * n + w ≡ w * suc n
    mul_more w n = omega arith

-- so are positions
pub position-whole : (w : ℕ) (i : Item) → IsWholeItem w i → (n : ℕ) × (length (position w i) ≡ w * n)
position-whole w (Val k d) h = h
position-whole w (Stub p x) h = (h.0.0, length-take-le (length p - w) p (omega arith) ∙ omega (arith, h.0.1))

All-last-of : {A : Type 0} (P : A → Type 0) (y : A) (ys : List A) → AllByRecursion P (y ∷ ys) → P (last_of y ys)
All-last-of P y [] h = h.0
All-last-of P y (z ∷ ys) h = All-last-of P z ys h.1

last-Member : (y : Item) (ys : List Item) → Member (y ∷ ys) (last_of y ys)
last-Member y [] = inl refl
last-Member y (z ∷ ys) = inr (last-Member z ys)

-- each item is the last one, or in front of it
before_last : (i : Item) (is : List Item) (x : Item) → IsOrdered (i ∷ is) → Member (i ∷ is) x → (x ≡ last_of i is) ⊎ Follows x (last_of i is)
before_last i [] x o (inl e) = inl (sym e)
before_last i [] x o (inr m) = absurd m
before_last i (y ∷ ys) x o (inl e) = inr (subst (λ i. Follows i (last_of y ys)) e (All-last-of (Follows i) y ys o.0))
before_last i (y ∷ ys) x o (inr m) = before_last y ys x o.1 m

-- each item is the first one, or behind it
behind_first : (i : Item) (is : List Item) (x : Item) → IsOrdered (i ∷ is) → Member (i ∷ is) x → (x ≡ i) ⊎ Follows i x
behind_first i is x o (inl e) = inl (sym e)
behind_first i is x o (inr m) = inr (All-member (Follows i) is x o.0 m)

-- ---- the key of the root node
-- of one item alone it is the item's position
pub lone_key : (w : ℕ) (i : Item) → 0 < w → IsWholeItem w i → node_key w (i ∷ []) ≡ position w i
lone_key w i pos h = let n = position-whole w i h in whole_of_whole w n.0 (position w i) pos n.1

-- a stub that stands in the run of the first and the last item would be one of them, and is not
no_stub_run : (w : ℕ) (i m : Item) (ms : List Item) (p : List Bool) (y : List ℕ) → IsOrdered (i ∷ m ∷ ms) → Member (i ∷ m ∷ ms) (Stub p y) → is_prefix p (place_of i) ≡ true → is_prefix p (place_of (last_of m ms)) ≡ true → ⊥
no_stub_run w i m ms p y o n a b = elim (before_last i (m ∷ ms) (Stub p y) o n) [
  | inr f ↦ let g : true ≡ false = sym b ∙ f.outside in cc
  | inl e ↦
      let f : Follows i (last_of m ms) = All-last-of (Follows i) m ms o.0 in
      let g : p ≡ place_of (last_of m ms) = ap place_of e in
      not_after p (place_of i) a (subst (λ q. key_cmp (place_of i) q ≡ Less) (sym g) f.greater)
]

-- the common run of the first and the last key or slot begins each position
run_begins : (w : ℕ) (i m : Item) (ms : List Item) (x : Item) → 0 < w → IsValid w (i ∷ m ∷ ms) → Member (i ∷ m ∷ ms) x → is_prefix (common w (place_of i ∷ place_of (last_of m ms) ∷ [])) (position w x) ≡ true
run_begins w i m ms x pos v n = fit x n (All-member (IsWholeItem w) (i ∷ m ∷ ms) x v.whole n) at_place
  where
    left : is_prefix (common w (place_of i ∷ place_of (last_of m ms) ∷ [])) (place_of i) ≡ true
    left = common-left w (place_of i) (place_of (last_of m ms))

    right : is_prefix (common w (place_of i ∷ place_of (last_of m ms) ∷ [])) (place_of (last_of m ms)) ≡ true
    right = common-right w (place_of i) (place_of (last_of m ms))

    at_place : is_prefix (common w (place_of i ∷ place_of (last_of m ms) ∷ [])) (place_of x) ≡ true
    at_place = elim (behind_first i (m ∷ ms) x v.ordered n) [
      | inl e ↦ subst (λ y. is_prefix (common w (place_of i ∷ place_of (last_of m ms) ∷ [])) (place_of y) ≡ true) (sym e) left
      | inr f ↦ elim (before_last i (m ∷ ms) x v.ordered n) [
        | inl e ↦ subst (λ y. is_prefix (common w (place_of i ∷ place_of (last_of m ms) ∷ [])) (place_of y) ≡ true) (sym e) right
        | inr g ↦ sandwich (common w (place_of i ∷ place_of (last_of m ms) ∷ [])) (place_of i) (place_of x) (place_of (last_of m ms)) left right f.greater g.greater
      ]
    ]

    fit : (x : Item) → Member (i ∷ m ∷ ms) x → IsWholeItem w x → is_prefix (common w (place_of i ∷ place_of (last_of m ms) ∷ [])) (place_of x) ≡ true → is_prefix (common w (place_of i ∷ place_of (last_of m ms) ∷ [])) (position w x) ≡ true
    fit (Val k d) n h p = p
    fit (Stub s y) n h p =
        let c = common w (place_of i ∷ place_of (last_of m ms) ∷ []) in
        let long = length-is_prefix c s p in
        let lc = length_whole w (common_prefix (place_of i) (place_of (last_of m ms))) pos in
        let ls = place-whole w (Stub s y) h in
        elim (whole_step w (length (common_prefix (place_of i) (place_of (last_of m ms))) / w) ls.0 (omega (arith, long, lc, ls.1))) [
          | inr l ↦ prefix_of_take c s (length s - w) p (omega (arith, l, lc, ls.1))
          | inl l ↦
              let same : s ≡ c = is_prefix-all c s p (omega (arith, l, lc, ls.1)) in
              absurd (no_stub_run w i m ms s y v.ordered n (subst (λ q. is_prefix q (place_of i) ≡ true) (sym same) left) (subst (λ q. is_prefix q (place_of (last_of m ms)) ≡ true) (sym same) right))
        ]

-- of more items it is the common run of the first and the last key or slot
pub ends_key : (w : ℕ) (i m : Item) (ms : List Item) → 0 < w → IsValid w (i ∷ m ∷ ms) → node_key w (i ∷ m ∷ ms) ≡ common w (place_of i ∷ place_of (last_of m ms) ∷ [])
ends_key w i m ms pos v = is_prefix-all c k c_in (length-is_prefix k c k_in)
  where
    c : List Bool
    c = common w (place_of i ∷ place_of (last_of m ms) ∷ [])

    k : List Bool
    k = node_key w (i ∷ m ∷ ms)

    through : (x : Item) → Member (i ∷ m ∷ ms) x → is_prefix (node_key w (i ∷ m ∷ ms)) (place_of x) ≡ true
    through x n = is_prefix-through (node_key w (i ∷ m ∷ ms)) (position w x) (place_of x) (node_key-is_prefix w (i ∷ m ∷ ms) x n) (position-place w x)

    c_in : is_prefix (common w (place_of i ∷ place_of (last_of m ms) ∷ [])) (node_key w (i ∷ m ∷ ms)) ≡ true
    c_in =
        prefix_of_whole w _ (common w (place_of i ∷ place_of (last_of m ms) ∷ [])) (common_prefix_all (map (position w) (i ∷ m ∷ ms))) pos (length_whole w (common_prefix (place_of i) (place_of (last_of m ms))) pos)
        (is_prefix-common_prefix_all w (common w (place_of i ∷ place_of (last_of m ms) ∷ [])) i (m ∷ ms) (All-of _ (i ∷ m ∷ ms) (λ x n. run_begins w i m ms x pos v n)))

    k_in : is_prefix (node_key w (i ∷ m ∷ ms)) (common w (place_of i ∷ place_of (last_of m ms) ∷ [])) ≡ true
    k_in = prefix_of_common w _ (node_key w (i ∷ m ∷ ms)) (place_of i) (place_of (last_of m ms)) pos (length_whole w (common_prefix_all (map (position w) (i ∷ m ∷ ms))) pos) (through i (inl refl)) (through (last_of m ms) (inr (last-Member m ms)))

-- ---- what hangs below the root node
-- an item that lies below a node with this key, a token further at least
pub record Hanging (w : ℕ) (k : List Bool) (i : Item) : Type 0 where
  pub starts : is_prefix k (place_of i) ≡ true
  pub long : length k + w ≤ length (place_of i)

-- each item but a value at the node itself
pub hangs : (w : ℕ) (is : List Item) (x : Item) → 0 < w → IsValid w is → Member is x → ((d : List ℕ) → x ≡ Val (node_key w is) d → ⊥) → Hanging w (node_key w is) x
hangs w is x pos v n other = record { starts = is_prefix-through (node_key w is) (position w x) (place_of x) begins (position-place w x); long = which x begins (All-member (IsWholeItem w) is x v.whole n) other }
  where
    begins : is_prefix (node_key w is) (position w x) ≡ true
    begins = node_key-is_prefix w is x n

    which : (x : Item) → is_prefix (node_key w is) (position w x) ≡ true → IsWholeItem w x → ((d : List ℕ) → x ≡ Val (node_key w is) d → ⊥) → length (node_key w is) + w ≤ length (place_of x)
    which (Stub p y) b h o =
        let l = length-is_prefix (node_key w is) (take (length p - w) p) b in
        let t : length (take (length p - w) p) ≡ length p - w = length-take-le (length p - w) p (omega arith) in
        omega (arith, l, t, h.0.1)
    which (Val q d) b h o =
        let l = length-is_prefix (node_key w is) q b in
        let lk = length_whole w (common_prefix_all (map (position w) is)) pos in
        elim (whole_step w (length (common_prefix_all (map (position w) is)) / w) h.0 (omega (arith, l, lk, h.1))) [
          | inr m ↦ omega (arith, m, lk, h.1)
          | inl m ↦ absurd (o d (ap (λ q. Val q d) (is_prefix-all (node_key w is) q b (omega (arith, m, lk, h.1)))))
        ]

-- all items but the first hang
pub rest_hangs : (w : ℕ) (i : Item) (is : List Item) → 0 < w → IsValid w (i ∷ is) → AllByRecursion (Hanging w (node_key w (i ∷ is))) is
rest_hangs w i is pos v = All-of _ is (λ x n. hangs w (i ∷ is) x pos v (inr n) (λ d e.
    let f = All-member (Follows i) is x v.ordered.0 n in
    let begins : is_prefix (node_key w (i ∷ is)) (place_of i) ≡ true = is_prefix-through (node_key w (i ∷ is)) (position w i) (place_of i) (node_key-is_prefix w (i ∷ is) i (inl refl)) (position-place w i) in
    not_after (node_key w (i ∷ is)) (place_of i) begins (subst (λ q. key_cmp (place_of i) q ≡ Less) (ap place_of e) f.greater)))

-- ---- lists that are seen as items
-- the last of a list, as it is got by its place
last_seen : {D : Type 0} (f : D → Item) (e x : D) (es : List D) → x ≡ get_or (e ∷ es) (length es) x → f x ≡ last_of (f e) (map f es)
last_seen f e x [] h = ap f h
last_seen f e x (y ∷ es) h = last_seen f y x es h

-- the key of the root node begins the first key or slot
pub first_begins : {D : Type 0} (f : D → Item) (w : ℕ) (xs : List D) (a : D) → 1 ≤ length xs → a ≡ get_or xs 0 a → is_prefix (node_key w (map f xs)) (place_of (f a)) ≡ true
first_begins f w [] a some e = absurd (omega (arith, some))
first_begins f w (x ∷ xs) a some e =
    let begins = is_prefix-through (node_key w (map f (x ∷ xs))) (position w (f x)) (place_of (f x)) (node_key-is_prefix w (map f (x ∷ xs)) (f x) (inl refl)) (position-place w (f x)) in
    subst (λ y. is_prefix (node_key w (map f (x ∷ xs))) (place_of (f y)) ≡ true) (sym e) begins

-- the key of the root node of one item, of more than one
pub one_seen : {D : Type 0} (f : D → Item) (w : ℕ) (xs : List D) (a : D) → 0 < w → IsValid w (map f xs) → length xs ≡ 1 → a ≡ get_or xs 0 a → node_key w (map f xs) ≡ position w (f a)
one_seen f w [] a pos v l e = absurd (omega (arith, l))
one_seen f w (x ∷ []) a pos v l e = lone_key w (f x) pos v.whole.0 ∙ ap (λ y. position w (f y)) (sym e)
one_seen f w (x ∷ y ∷ xs) a pos v l e = absurd (omega (arith, l))

pub many_seen : {D : Type 0} (f : D → Item) (w : ℕ) (xs : List D) (a z : D) → 0 < w → IsValid w (map f xs) → 1 ≤ length xs → length xs ≢ 1 → a ≡ get_or xs 0 a → z ≡ get_or xs (length xs - 1) z → node_key w (map f xs) ≡ common w (place_of (f a) ∷ place_of (f z) ∷ [])
many_seen f w [] a z pos v some more e g = absurd (omega (arith, some))
many_seen f w (x ∷ []) a z pos v some more e g = absurd (more refl)
many_seen f w (x ∷ y ∷ ys) a z pos v some more e g =
    let place : length (x ∷ y ∷ ys) - 1 ≡ length (y ∷ ys) = omega arith in
    let last : f z ≡ last_of (f y) (map f ys) = last_seen f x z (y ∷ ys) (g ∙ ap (λ n. get_or (x ∷ y ∷ ys) n z) place) in
    ends_key w (f x) (f y) (map f ys) pos v
    ∙ ap (λ b. common w (place_of (f x) ∷ place_of b ∷ [])) (sym last)
    ∙ ap (λ b. common w (place_of (f b) ∷ place_of (f z) ∷ [])) (sym e)
