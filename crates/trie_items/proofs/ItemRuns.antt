-- The items of a node, run by run: those with one token are one child.
use Rattle.std.proofs.Common.{◌≡◌, ◌≢◌, ℕ, zero, suc, ◌+◌, ◌*◌, ◌^◌, ◌<◌, ◌≤◌, Bool, true, false, cond, List, [], ◌∷◌, ◌++◌, length, take, drop, refl, sym, ap, ◌∙◌, subst, arith, eq-eqb, length-append, length-drop, take-append-drop, Some, None, inl}
use Rattle.std.specs.List.{AllByRecursion, prefix_len}
use Rattle.std.proofs.lemmas.Bool.Decides.{nat_tests}
use Rattle.base_model.proofs.Bits.{length-bits_of}
use Rattle.trie_model.specs.Bits.{bits_of, is_prefix, same_key}
use Rattle.trie_model.specs.Ids.{children, node_key, digest_at, stub_at, below, child_of, id}
use Rattle.trie_model.proofs.Strings.{strings_none, strings_skip}
use Rattle.trie_model.specs.Items.{Item, Val, Stub, place_of, IsWholeItem, Follows, IsOrdered, IsValid}
use Rattle.trie_model.specs.Strings.{descend, strings, strings_below}
use Rattle.trie_model.proofs.Children.{tok, is_prefix-tok, tok-rises, front_small, children_skip}
use Rattle.trie_model.proofs.Lists.{All-take}
use Rattle.trie_model.proofs.Prefixes.{same_key-is, same_key-itself}
use Rattle.trie_items.specs.SlotIds.{slot_id, slot_strings, has_token, own_count, own_digest}
use Rattle.trie_items.proofs.NodeKeys.{Hanging, rest_hangs, hangs}
use Rattle.trie_items.proofs.SlotGroups.{by_slot, first_slot, slot_child, slot_hashed}

-- ---- parts of valid lists
All-drop : {A : Type 0} (P : A → Type 0) (n : ℕ) (xs : List A) → AllByRecursion P xs → AllByRecursion P (drop n xs)
All-drop P zero xs h = h
All-drop P (suc n) [] h = tt
All-drop P (suc n) (x ∷ xs) h = All-drop P n xs h.1

ordered-take : (n : ℕ) (is : List Item) → IsOrdered is → IsOrdered (take n is)
ordered-take zero is o = tt
ordered-take (suc n) [] o = tt
ordered-take (suc n) (i ∷ is) o = (All-take (Follows i) n is o.0, ordered-take n is o.1)

ordered-drop : (n : ℕ) (is : List Item) → IsOrdered is → IsOrdered (drop n is)
ordered-drop zero is o = o
ordered-drop (suc n) [] o = tt
ordered-drop (suc n) (i ∷ is) o = ordered-drop n is o.1

pub valid-take : (w n : ℕ) (is : List Item) → IsValid w is → IsValid w (take n is)
valid-take w n is v = record { whole = All-take (IsWholeItem w) n is v.whole; ordered = ordered-take n is v.ordered }

pub valid-drop : (w n : ℕ) (is : List Item) → IsValid w is → IsValid w (drop n is)
valid-drop w n is v = record { whole = All-drop (IsWholeItem w) n is v.whole; ordered = ordered-drop n is v.ordered }

pub hangs-drop : (w : ℕ) (k : List Bool) (n : ℕ) (is : List Item) → AllByRecursion (Hanging w k) is → AllByRecursion (Hanging w k) (drop n is)
hangs-drop w k n is h = All-drop (Hanging w k) n is h

-- ---- a run of one token
prefix_all : {A : Type 0} (p : A → Bool) (xs : List A) → AllByRecursion (λ x. p x ≡ true) (take (prefix_len p xs) xs)
prefix_all p [] = tt
prefix_all {A = A} p (x ∷ xs) = go (p x) refl (prefix_all p xs)
  where
    go : (b : Bool) → p x ≡ b → AllByRecursion (λ x. p x ≡ true) (take (prefix_len p xs) xs) → AllByRecursion (λ x. p x ≡ true) (take (cond b (1 + prefix_len p xs) 0) (x ∷ xs))
    go true e ih = let f : 1 + prefix_len p xs ≡ suc (prefix_len p xs) = omega arith in subst (λ n. AllByRecursion (λ x. p x ≡ true) (take n (x ∷ xs))) (sym f) (e, ih)
    go false e ih = tt

prefix_yes : {A : Type 0} (p : A → Bool) (x : A) (xs : List A) → p x ≡ true → prefix_len p (x ∷ xs) ≡ suc (prefix_len p xs)
prefix_yes p x xs e = ap (λ b. cond b (1 + prefix_len p xs) 0) e ∙ omega arith

prefix_no : {A : Type 0} (p : A → Bool) (x : A) (xs : List A) → p x ≡ false → prefix_len p (x ∷ xs) ≡ 0
prefix_no p x xs e = ap (λ b. cond b (1 + prefix_len p xs) 0) e

-- the tokens behind an item are not below its own
tokens_from : (w : ℕ) (k : List Bool) (i : Item) (is : List Item) → Hanging w k i → AllByRecursion (Hanging w k) is → AllByRecursion (Follows i) is → AllByRecursion (λ j. tok w k (place_of i) ≤ tok w k (place_of j)) is
tokens_from w k i [] f h o = tt
tokens_from w k i (j ∷ is) f h o = (tok-rises w k (place_of i) (place_of j) f.starts h.0.starts f.long h.0.long o.0.greater, tokens_from w k i is f h.1 o.1)

All-above : (w t u : ℕ) (k : List Bool) (is : List Item) → t < u → AllByRecursion (λ j. u ≤ tok w k (place_of j)) is → AllByRecursion (λ i. t < tok w k (place_of i)) is
All-above w t u k [] h a = tt
All-above w t u k (i ∷ is) h a = (omega (arith, h, a.0), All-above w t u k is h a.1)

-- behind a run the tokens are above its own
run_later : (w t : ℕ) (k : List Bool) (is : List Item) → AllByRecursion (Hanging w k) is → IsOrdered is → AllByRecursion (λ j. t ≤ tok w k (place_of j)) is →
    AllByRecursion (λ i. t < tok w k (place_of i)) (drop (prefix_len (has_token w (length k) t) is) is)
run_later w t k [] h o a = tt
run_later w t k (i ∷ is) h o a = go (has_token w (length k) t i) refl (run_later w t k is h.1 o.1 a.1)
  where
    go : (b : Bool) → has_token w (length k) t i ≡ b → AllByRecursion (λ i. t < tok w k (place_of i)) (drop (prefix_len (has_token w (length k) t) is) is) →
        AllByRecursion (λ i. t < tok w k (place_of i)) (drop (prefix_len (has_token w (length k) t) (i ∷ is)) (i ∷ is))
    go true f ih = subst (λ n. AllByRecursion (λ i. t < tok w k (place_of i)) (drop n (i ∷ is))) (sym (prefix_yes (has_token w (length k) t) i is f)) ih
    go false f ih =
        let n : tok w k (place_of i) ≢ t = grind (arith, nat_tests) in
        let l : t < tok w k (place_of i) = omega (arith, n, a.0) in
        subst (λ n. AllByRecursion (λ i. t < tok w k (place_of i)) (drop n (i ∷ is))) (sym (prefix_no (has_token w (length k) t) i is f))
        (l, All-above w t (tok w k (place_of i)) k is l (tokens_from w k i is h.0 h.1 o.0))

All-same : (w t : ℕ) (k : List Bool) (is : List Item) → AllByRecursion (λ i. has_token w (length k) t i ≡ true) is → AllByRecursion (λ i. tok w k (place_of i) ≡ t) is
All-same w t k [] h = tt
All-same w t k (i ∷ is) h = (let f = h.0 in grind (arith, nat_tests), All-same w t k is h.1)

-- the items of a run lie in one slot
in_one_slot : (w t : ℕ) (k : List Bool) (is : List Item) → t < 2 ^ w → AllByRecursion (Hanging w k) is → AllByRecursion (λ i. has_token w (length k) t i ≡ true) is → AllByRecursion (λ i. is_prefix (k ++ bits_of w t) (place_of i) ≡ true) is
in_one_slot w t k [] m h a = tt
in_one_slot w t k (i ∷ is) m h a = (is_prefix-tok w t k (place_of i) h.0.starts h.0.long m ∙ a.0, in_one_slot w t k is m h.1 a.1)

-- ---- the first run of the items below a node
-- what is known of it
pub record Turn (w : ℕ) (k : List Bool) (i : Item) (is : List Item) (c : ℕ) : Type 0 where
  pub some : 0 < c
  pub child : children (id w) w k (i ∷ is) ≡ (tok w k (place_of i), slot_id w (length k + w) (take c (i ∷ is))) ∷ children (id w) w k (drop c (i ∷ is))
  pub hashed : strings_below (strings w) w k (i ∷ is) ≡ slot_strings w (length k + w) (take c (i ∷ is)) ++ strings_below (strings w) w k (drop c (i ∷ is))
  pub slot : AllByRecursion (λ j. is_prefix (k ++ bits_of w (tok w k (place_of i))) (place_of j) ≡ true) (take c (i ∷ is))

no_strings : (w u : ℕ) → descend (strings w) None [] ≡ []
no_strings w u = strings_none w

pub turn : (w m : ℕ) (k : List Bool) (i : Item) (is : List Item) (c : ℕ) → 0 < w → length k ≡ w * m → AllByRecursion (Hanging w k) (i ∷ is) → IsValid w (i ∷ is) → c ≡ prefix_len (has_token w (length k) (tok w k (place_of i))) (i ∷ is) → Turn w k i is c
unfolding children strings_below
turn w m k i is c pos lk h v e = record { some = omega (arith, more); child = child; hashed = hashed; slot = slot }
  where
    t : ℕ
    t = tok w k (place_of i)

    small : tok w k (place_of i) < 2 ^ w
    small = front_small w (drop (length k) (place_of i)) (let l = h.0.long in omega (arith, l, length-drop (length k) (place_of i)))

    more : c ≡ suc (prefix_len (has_token w (length k) (tok w k (place_of i))) is)
    more = e ∙ prefix_yes (has_token w (length k) (tok w k (place_of i))) i is (eq-eqb (tok w k (place_of i)) (tok w k (place_of i)) refl)

    yes : AllByRecursion (λ j. has_token w (length k) (tok w k (place_of i)) j ≡ true) (take c (i ∷ is))
    yes = subst (λ c. AllByRecursion (λ j. has_token w (length k) (tok w k (place_of i)) j ≡ true) (take c (i ∷ is))) (sym e) (prefix_all (has_token w (length k) (tok w k (place_of i))) (i ∷ is))

    later : AllByRecursion (λ j. tok w k (place_of i) < tok w k (place_of j)) (drop c (i ∷ is))
    later = subst (λ c. AllByRecursion (λ j. tok w k (place_of i) < tok w k (place_of j)) (drop c (i ∷ is))) (sym e) (run_later w (tok w k (place_of i)) k (i ∷ is) h v.ordered (omega arith, tokens_from w k i is h.0 h.1 v.ordered.0))

    slot : AllByRecursion (λ j. is_prefix (k ++ bits_of w (tok w k (place_of i))) (place_of j) ≡ true) (take c (i ∷ is))
    slot = in_one_slot w (tok w k (place_of i)) k (take c (i ∷ is)) small (All-take (Hanging w k) c (i ∷ is) h) yes

    split : i ∷ is ≡ take c (i ∷ is) ++ drop c (i ∷ is)
    split = sym (take-append-drop c (i ∷ is))

    front : take c (i ∷ is) ≡ i ∷ take (prefix_len (has_token w (length k) (tok w k (place_of i))) is) is
    front = ap (λ c. take c (i ∷ is)) more

    long : length (k ++ bits_of w (tok w k (place_of i))) ≡ length k + w
    long = omega (arith, length-append k (bits_of w (tok w k (place_of i))), length-bits_of w (tok w k (place_of i)))

    whole : length (k ++ bits_of w (tok w k (place_of i))) ≡ w * suc m
    whole = long ∙ omega (arith, lk)

    one : child_of (id w) (tok w k (place_of i)) (stub_at (k ++ bits_of w (tok w k (place_of i))) (take c (i ∷ is))) (below w (k ++ bits_of w (tok w k (place_of i))) (take c (i ∷ is))) ≡ (tok w k (place_of i), slot_id w (length (k ++ bits_of w (tok w k (place_of i)))) (take c (i ∷ is))) ∷ []
    one =
        let s : List Bool = k ++ bits_of w (tok w k (place_of i)) in
        let P : List Item → Type 0 = λ xs. child_of (id w) (tok w k (place_of i)) (stub_at s xs) (below w s xs) ≡ (tok w k (place_of i), slot_id w (length s) xs) ∷ [] in
        subst P (sym front) (slot_child w (suc m) (tok w k (place_of i)) s i (take (prefix_len (has_token w (length k) (tok w k (place_of i))) is) is) pos whole
        (subst (IsValid w) front (valid-take w c (i ∷ is) v)) (subst (AllByRecursion (λ j. is_prefix s (place_of j) ≡ true)) front slot))

    child : by_slot (child_of (id w)) (λ u. refl) w k (i ∷ is) ≡ (tok w k (place_of i), slot_id w (length k + w) (take c (i ∷ is))) ∷ by_slot (child_of (id w)) (λ u. refl) w k (drop c (i ∷ is))
    child =
        ap (by_slot (child_of (id w)) (λ u. refl) w k) split
        ∙ first_slot (child_of (id w)) (λ u. refl) w (tok w k (place_of i)) k (take c (i ∷ is)) (drop c (i ∷ is)) (All-same w (tok w k (place_of i)) k (take c (i ∷ is)) yes) later small
        ∙ ap (λ x. x ++ by_slot (child_of (id w)) (λ u. refl) w k (drop c (i ∷ is))) (one ∙ ap (λ n. (tok w k (place_of i), slot_id w n (take c (i ∷ is))) ∷ []) long)

    hashed : by_slot (λ t. descend (strings w)) (no_strings w) w k (i ∷ is) ≡ slot_strings w (length k + w) (take c (i ∷ is)) ++ by_slot (λ t. descend (strings w)) (no_strings w) w k (drop c (i ∷ is))
    hashed =
        ap (by_slot (λ t. descend (strings w)) (no_strings w) w k) split
        ∙ first_slot (λ t. descend (strings w)) (no_strings w) w (tok w k (place_of i)) k (take c (i ∷ is)) (drop c (i ∷ is)) (All-same w (tok w k (place_of i)) k (take c (i ∷ is)) yes) later small
        ∙ ap (λ x. x ++ by_slot (λ t. descend (strings w)) (no_strings w) w k (drop c (i ∷ is)))
        (slot_hashed w (suc m) (k ++ bits_of w (tok w k (place_of i))) (take c (i ∷ is)) pos whole (valid-take w c (i ∷ is) v) slot ∙ ap (λ n. slot_strings w n (take c (i ∷ is))) long)

-- ---- the value at the node
-- nothing that hangs has the node's own key
digest-hanging : (w : ℕ) (k : List Bool) (is : List Item) → 0 < w → AllByRecursion (Hanging w k) is → digest_at k is ≡ None
digest-hanging w k [] pos h = refl
digest-hanging w k (Stub p x ∷ is) pos h = digest-hanging w k is pos h.1
digest-hanging w k (Val q d ∷ is) pos h = go (same_key k q) refl (digest-hanging w k is pos h.1)
  where
    go : (b : Bool) → same_key k q ≡ b → digest_at k is ≡ None → cond b (Some d) (digest_at k is) ≡ None
    go false e ih = ih
    go true e ih = absurd (let f : length k ≡ length q = ap length (same_key-is k q e) in let l = h.0.long in omega (arith, f, l, pos))

-- the digest of the node is that of the item in front, if it has one
pub first_digest : (w : ℕ) (i : Item) (is : List Item) → 0 < w → IsValid w (i ∷ is) → digest_at (node_key w (i ∷ is)) (i ∷ is) ≡ own_digest (node_key w (i ∷ is)) (i ∷ is)
first_digest w (Val q d) is pos v = ap (cond (same_key (node_key w (Val q d ∷ is)) q) (Some d)) (digest-hanging w (node_key w (Val q d ∷ is)) is pos (rest_hangs w (Val q d) is pos v))
first_digest w (Stub p x) is pos v = digest-hanging w (node_key w (Stub p x ∷ is)) is pos (rest_hangs w (Stub p x) is pos v)

-- without the value at the node, all items hang
pub others_hang : (w : ℕ) (i : Item) (is : List Item) → 0 < w → IsValid w (i ∷ is) → AllByRecursion (Hanging w (node_key w (i ∷ is))) (drop (own_count (node_key w (i ∷ is)) (i ∷ is)) (i ∷ is))
others_hang w (Stub p x) is pos v = (hangs w (Stub p x ∷ is) (Stub p x) pos v (inl refl) (λ d e. cc), rest_hangs w (Stub p x) is pos v)
others_hang w (Val q d) is pos v = go (same_key (node_key w (Val q d ∷ is)) q) refl
  where
    go : (b : Bool) → same_key (node_key w (Val q d ∷ is)) q ≡ b → AllByRecursion (Hanging w (node_key w (Val q d ∷ is))) (drop (cond b 1 0) (Val q d ∷ is))
    go true e = rest_hangs w (Val q d) is pos v
    go false e = (
      hangs w (Val q d ∷ is) (Val q d) pos v (inl refl) (λ c f.
          let g : q ≡ node_key w (Val q d ∷ is) = cc in
          let t : same_key (node_key w (Val q d ∷ is)) q ≡ true = subst (λ k. same_key k q ≡ true) g (same_key-itself q) in
          let u : true ≡ false = sym t ∙ e in cc),
      rest_hangs w (Val q d) is pos v,
    )

-- and without it the children, and the strings hashed for them, are the same
pub others_children : (w : ℕ) (k : List Bool) (is : List Item) → 0 < w → children (id w) w k (drop (own_count k is) is) ≡ children (id w) w k is
others_children w k [] pos = refl
others_children w k (Stub p x ∷ is) pos = refl
others_children w k (Val q d ∷ is) pos = go (same_key k q) refl
  where
    skip : children (id w) w k (Val k d ∷ is) ≡ children (id w) w k is
    skip = children_skip w k d is pos

    go : (b : Bool) → same_key k q ≡ b → children (id w) w k (drop (cond b 1 0) (Val q d ∷ is)) ≡ children (id w) w k (Val q d ∷ is)
    go false e = refl
    go true e = subst (λ q. children (id w) w k is ≡ children (id w) w k (Val q d ∷ is)) (same_key-is k q e) (sym skip)

pub others_hashed : (w : ℕ) (k : List Bool) (is : List Item) → 0 < w → strings_below (strings w) w k (drop (own_count k is) is) ≡ strings_below (strings w) w k is
others_hashed w k [] pos = refl
others_hashed w k (Stub p x ∷ is) pos = refl
others_hashed w k (Val q d ∷ is) pos = go (same_key k q) refl
  where
    skip : strings_below (strings w) w k (Val k d ∷ is) ≡ strings_below (strings w) w k is
    skip = strings_skip w k d is pos

    go : (b : Bool) → same_key k q ≡ b → strings_below (strings w) w k (drop (cond b 1 0) (Val q d ∷ is)) ≡ strings_below (strings w) w k (Val q d ∷ is)
    go false e = refl
    go true e = subst (λ q. strings_below (strings w) w k is ≡ strings_below (strings w) w k (Val q d ∷ is)) (same_key-is k q e) (sym skip)
