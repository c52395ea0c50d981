-- The ID of items, run by run, for lists that are seen as items.
use Rattle.std.proofs.Common.{◌≡◌, ℕ, zero, suc, ◌+◌, ◌*◌, ◌/◌, ◌<◌, ◌≤◌, Bool, true, false, cond, List, [], ◌∷◌, ◌++◌, length, length-append, length-take, length-drop, append_assoc, get_or, take, drop, map, refl, sym, ap, ◌∙◌, subst, arith, eqb, Option, Some, None}
use Rattle.std.specs.List.{AllByRecursion, prefix_len}
use Rattle.std.proofs.lemmas.List.{drop-map, take-map, append-nil, length-map, nil_from_length}
use Rattle.std.proofs.lemmas.List.Sums.{prefix_len-le-length}
use Rattle.std.proofs.Math.Nat.{mul-div_cancel_left}
use Rattle.std.proofs.lemmas.Bool.Decides.{nat_tests}
use Rattle.base_model.proofs.Bits.{length-bits_of}
use Rattle.sha2.specs.Sha256.{sha256}
use Rattle.trie_model.specs.Bits.{bits_of, is_prefix, common_prefix_all, token_at}
use Rattle.trie_model.specs.Hashing.{zero_id, hashed_string}
use Rattle.trie_model.specs.Ids.{children, node_key, digest_at, below, child_of, id, id_within}
use Rattle.trie_model.specs.Items.{Item, Val, Stub, place_of, position, IsValid}
use Rattle.trie_model.specs.Strings.{descend, strings, strings_below}
use Rattle.trie_model.proofs.Lists.{All-weaker}
use Rattle.trie_model.proofs.Prefixes.{length_whole}
use Rattle.trie_model.proofs.Strings.{strings_unfold, strings_none, strings_below_none}
use Rattle.trie_model.proofs.Unfold.{id_unfolds, below_shrinks}
use Rattle.trie_items.specs.SlotIds.{lone, or_id, slot_id, slot_strings, has_token, own_count, own_digest, one_unless, depth}
use Rattle.trie_items.proofs.NodeKeys.{Hanging}
use Rattle.trie_items.proofs.SlotGroups.{InSlot, stub, items, in_slot, of_none}
use Rattle.trie_items.proofs.ItemRuns.{turn, Turn, valid-take, valid-drop, hangs-drop, others_hang, others_children, others_hashed, first_digest}

-- the key of the root node has so many tokens
pub tokens_are : (w b v : ℕ) (is : List Item) (k : List Bool) → 0 < w → k ≡ node_key w is → b ≡ length k → v ≡ w → length (node_key w is) ≡ w * (b / v)
tokens_are w b v is k pos e f g =
    let l : length (node_key w is) ≡ w * (length (common_prefix_all (map (position w) is)) / w) = length_whole w (common_prefix_all (map (position w) is)) pos in
    let m : length (node_key w is) / w ≡ length (common_prefix_all (map (position w) is)) / w = ap (λ n. n / w) l ∙ mul-div_cancel_left _ pos in
    l ∙ ap (λ q. w * q) (sym m) ∙ ap (λ n. w * (n / w)) (sym (f ∙ ap length e)) ∙ ap (λ v. w * (b / v)) (sym g)

-- what hangs has a token more
pub run_fits : (w n : ℕ) (k : List Bool) (is : List Item) → length k ≡ w * n → AllByRecursion (Hanging w k) is → AllByRecursion (λ (i : Item). w * (n + 1) ≤ length (place_of i)) is
run_fits w n k is e h = All-weaker (Hanging w k) _ is (λ i p. fit i p.long) h
  where
    fit : (i : Item) → length k + w ≤ length (place_of i) → w * (n + 1) ≤ length (place_of i)
    fit i l = omega (arith, l, e)

pub split_fits : {D : Type 0} (f : D → Item) (p : Item → Bool) (xs : List D) (c : ℕ) → c ≡ prefix_len p (map f xs) → c ≤ length xs
split_fits f p xs c e = omega (arith, e, prefix_len-le-length p (map f xs), length-map xs f)

-- ---- the start
pub record Start {D : Type 0} (f : D → Item) (w : ℕ) (xs rest : List D) : Type 0 where
  pub child : children (id w) w (node_key w (map f xs)) (map f rest) ≡ children (id w) w (node_key w (map f xs)) (map f xs)
  pub hashed : strings_below (strings w) w (node_key w (map f xs)) (map f rest) ≡ strings_below (strings w) w (node_key w (map f xs)) (map f xs)
  pub hang : AllByRecursion (Hanging w (node_key w (map f xs))) (map f rest)
  pub valid : IsValid w (map f rest)
  pub part : (n : ℕ) × (rest ≡ drop n xs)

pub start : {D : Type 0} (f : D → Item) (w : ℕ) (xs rest : List D) (k : List Bool) → 0 < w → IsValid w (map f xs) → 1 ≤ length xs → k ≡ node_key w (map f xs) → rest ≡ drop (own_count k (map f xs)) xs → Start f w xs rest
start f w [] rest k pos v some e g = absurd (omega (arith, some))
start {D = D} f w (x ∷ xs) rest k pos v some e g = record {
  child = ap (children (id w) w (node_key w (map f (x ∷ xs)))) seen ∙ others_children w (node_key w (map f (x ∷ xs))) (map f (x ∷ xs)) pos;
  hashed = ap (strings_below (strings w) w (node_key w (map f (x ∷ xs)))) seen ∙ others_hashed w (node_key w (map f (x ∷ xs))) (map f (x ∷ xs)) pos;
  hang = subst (AllByRecursion (Hanging w (node_key w (map f (x ∷ xs))))) (sym seen) (others_hang w (f x) (map f xs) pos v);
  valid = subst (IsValid w) (sym seen) (valid-drop w (own_count (node_key w (map f (x ∷ xs))) (map f (x ∷ xs))) (map f (x ∷ xs)) v);
  part = (own_count k (map f (x ∷ xs)), g);
}
  where
    seen : map f rest ≡ drop (own_count (node_key w (map f (x ∷ xs))) (map f (x ∷ xs))) (map f (x ∷ xs))
    seen = ap (map f) g ∙ sym (drop-map f (own_count k (map f (x ∷ xs))) (x ∷ xs)) ∙ ap (λ k. drop (own_count k (map f (x ∷ xs))) (map f (x ∷ xs))) e

-- ---- one turn
pub record Turned {D : Type 0} (f : D → Item) (w n t : ℕ) (k : List Bool) (rest group after : List D) : Type 0 where
  pub child : children (id w) w k (map f rest) ≡ (t, slot_id w (w * n + w) (map f group)) ∷ children (id w) w k (map f after)
  pub hashed : strings_below (strings w) w k (map f rest) ≡ slot_strings w (w * n + w) (map f group) ++ strings_below (strings w) w k (map f after)
  pub some : 1 ≤ length group
  pub valid_group : IsValid w (map f group)
  pub valid_after : IsValid w (map f after)
  pub hang_after : AllByRecursion (Hanging w k) (map f after)
  pub slot : AllByRecursion (λ j. is_prefix (k ++ bits_of w t) (place_of j) ≡ true) (map f group)

head_is : {D : Type 0} (xs : List D) (x : D) → 1 ≤ length xs → x ≡ get_or xs 0 x → xs ≡ x ∷ drop 1 xs
head_is [] x l e = absurd (omega (arith, l))
head_is (y ∷ xs) x l e = ap (λ y. y ∷ xs) (sym e)

pub turned : {D : Type 0} (f : D → Item) (w n t c : ℕ) (k p : List Bool) (rest group after : List D) (x : D) → 0 < w → length k ≡ w * n → 1 ≤ length rest → x ≡ get_or rest 0 x →
    AllByRecursion (Hanging w k) (map f rest) → IsValid w (map f rest) → p ≡ place_of (f x) → t ≡ token_at w (w * n) p → c ≡ prefix_len (has_token w (w * n) t) (map f rest) → group ≡ take c rest → after ≡ drop c rest → Turned f w n t k rest group after
turned {D = D} f w n t c k p rest group after x pos lk some e h v pe te ce ge ae = record {
  child = ap (children (id w) w k) seen ∙ one.child ∙ ap (λ u. (u, slot_id w (length k + w) (take c (f x ∷ map f (drop 1 rest)))) ∷ children (id w) w k (drop c (f x ∷ map f (drop 1 rest)))) (sym token)
      ∙ ap (λ m. (t, slot_id w (m + w) (take c (f x ∷ map f (drop 1 rest)))) ∷ children (id w) w k (drop c (f x ∷ map f (drop 1 rest)))) lk
      ∙ ap (λ g. (t, slot_id w (w * n + w) g) ∷ children (id w) w k (drop c (f x ∷ map f (drop 1 rest)))) (sym group_seen)
      ∙ ap (λ a. (t, slot_id w (w * n + w) (map f group)) ∷ children (id w) w k a) (sym after_seen);
  hashed = ap (strings_below (strings w) w k) seen ∙ one.hashed
      ∙ ap (λ m. slot_strings w (m + w) (take c (f x ∷ map f (drop 1 rest))) ++ strings_below (strings w) w k (drop c (f x ∷ map f (drop 1 rest)))) lk
      ∙ ap (λ g. slot_strings w (w * n + w) g ++ strings_below (strings w) w k (drop c (f x ∷ map f (drop 1 rest)))) (sym group_seen)
      ∙ ap (λ a. slot_strings w (w * n + w) (map f group) ++ strings_below (strings w) w k a) (sym after_seen);
  some = let s = one.some in omega (arith, s, some, ap length ge, length-take c rest);
  valid_group = subst (IsValid w) (sym group_seen) (valid-take w c (f x ∷ map f (drop 1 rest)) valid);
  valid_after = subst (IsValid w) (sym after_seen) (valid-drop w c (f x ∷ map f (drop 1 rest)) valid);
  hang_after = subst (AllByRecursion (Hanging w k)) (sym after_seen) (hangs-drop w k c (f x ∷ map f (drop 1 rest)) hang);
  slot = subst (λ u. AllByRecursion (λ j. is_prefix (k ++ bits_of w u) (place_of j) ≡ true) (map f group)) (sym token) (subst (AllByRecursion (λ j. is_prefix (k ++ bits_of w (token_at w (length k) (place_of (f x)))) (place_of j) ≡ true)) (sym group_seen) one.slot);
}
  where
    seen : map f rest ≡ f x ∷ map f (drop 1 rest)
    seen = ap (map f) (head_is rest x some e)

    token : t ≡ token_at w (length k) (place_of (f x))
    token = te ∙ ap (token_at w (w * n)) pe ∙ ap (λ m. token_at w m (place_of (f x))) (sym lk)

    group_seen : map f group ≡ take c (f x ∷ map f (drop 1 rest))
    group_seen = ap (map f) ge ∙ sym (take-map f c rest) ∙ ap (take c) seen

    after_seen : map f after ≡ drop c (f x ∷ map f (drop 1 rest))
    after_seen = ap (map f) ae ∙ sym (drop-map f c rest) ∙ ap (drop c) seen

    hang : AllByRecursion (Hanging w k) (f x ∷ map f (drop 1 rest))
    hang = subst (AllByRecursion (Hanging w k)) seen h

    valid : IsValid w (f x ∷ map f (drop 1 rest))
    valid = subst (IsValid w) seen v

    count : c ≡ prefix_len (has_token w (length k) (token_at w (length k) (place_of (f x)))) (f x ∷ map f (drop 1 rest))
    count = ce ∙ ap (λ m. prefix_len (has_token w m t) (map f rest)) (sym lk) ∙ ap (λ u. prefix_len (has_token w (length k) u) (map f rest)) token ∙ ap (prefix_len (has_token w (length k) (token_at w (length k) (place_of (f x))))) seen

    one : Turn w k (f x) (map f (drop 1 rest)) c
    one = turn w n k (f x) (map f (drop 1 rest)) c pos lk hang valid count

-- ---- a run goes less deep
filter_below : (w : ℕ) (s : List Bool) (c d : ℕ) (is : List Item) → length (below w s (take c (drop d is))) ≤ length (below w s is)
filter_below w s c zero is = front c is
  where
    front : (c : ℕ) (is : List Item) → length (below w s (take c is)) ≤ length (below w s is)
    front zero is = omega arith
    front (suc c) [] = omega arith
    front (suc c) (i ∷ is) = go (is_prefix s (position w i)) (front c is)
      where
        go : (b : Bool) → length (below w s (take c is)) ≤ length (below w s is) → length (cond b (i ∷ below w s (take c is)) (below w s (take c is))) ≤ length (cond b (i ∷ below w s is) (below w s is))
        go true ih = omega (arith, ih)
        go false ih = ih
filter_below w s zero (suc d) [] = omega arith
filter_below w s (suc c) (suc d) [] = omega arith
filter_below w s c (suc d) (i ∷ is) = go (is_prefix s (position w i)) (filter_below w s c d is)
  where
    go : (b : Bool) → length (below w s (take c (drop d is))) ≤ length (below w s is) → length (below w s (take c (drop d is))) ≤ length (cond b (i ∷ below w s is) (below w s is))
    go true ih = omega (arith, ih)
    go false ih = ih

pub shallower : {D : Type 0} (f : D → Item) (w n m t c d : ℕ) (xs group rest : List D) → 0 < w → 1 ≤ length xs → lone m (map f xs) ≡ None → length (node_key w (map f xs)) ≡ w * n → rest ≡ drop d xs → group ≡ take c rest → IsValid w (map f group) →
    AllByRecursion (λ j. is_prefix (node_key w (map f xs) ++ bits_of w t) (place_of j) ≡ true) (map f group) → depth (w * n + w) (map f group) < depth m (map f xs)
shallower f w n m t c d [] group rest pos some l lk re ge v a = absurd (omega (arith, some))
shallower f w n m t c d (x ∷ xs) group rest pos some l lk re ge v a = which (in_slot w (suc n) s (map f group) pos whole v a)
  where
    s : List Bool
    s = node_key w (map f (x ∷ xs)) ++ bits_of w t

    slot : length (node_key w (map f (x ∷ xs)) ++ bits_of w t) ≡ w * n + w
    slot = omega (arith, lk, length-append (node_key w (map f (x ∷ xs))) (bits_of w t), length-bits_of w t)

    whole : length (node_key w (map f (x ∷ xs)) ++ bits_of w t) ≡ w * suc n
    whole = slot ∙ omega arith

    seen : map f group ≡ take c (drop d (map f (x ∷ xs)))
    seen = ap (map f) (ge ∙ ap (take c) re) ∙ sym (take-map f c (drop d (x ∷ xs))) ∙ ap (take c) (sym (drop-map f d (x ∷ xs)))

    no_more : length (map f group) ≤ length (map f (x ∷ xs))
    no_more = omega (arith, ap length seen, length-take c (drop d (map f (x ∷ xs))), length-drop d (map f (x ∷ xs)))

    outer : depth m (map f (x ∷ xs)) ≡ length (map f (x ∷ xs)) + 1
    outer = ap (λ o. length (map f (x ∷ xs)) + one_unless o) l

    inner : (o : Option (List ℕ)) → lone (length (node_key w (map f (x ∷ xs)) ++ bits_of w t)) (map f group) ≡ o → depth (w * n + w) (map f group) ≡ length (map f group) + one_unless o
    inner o e = ap (λ m. length (map f group) + one_unless (lone m (map f group))) (sym slot) ∙ ap (λ o. length (map f group) + one_unless o) e

    which : InSlot w (node_key w (map f (x ∷ xs)) ++ bits_of w t) (map f group) → depth (w * n + w) (map f group) < depth m (map f (x ∷ xs))
    which (stub y e g) = omega (arith, inner (Some y) e, outer, no_more)
    which (items e g b) =
        let fewer = filter_below w (node_key w (map f (x ∷ xs)) ++ bits_of w t) c d (map f (x ∷ xs)) in
        let same = ap (λ z. length (below w (node_key w (map f (x ∷ xs)) ++ bits_of w t) z)) seen in
        let less = below_shrinks w t (f x) (map f xs) pos in
        let all = ap length b in
        omega (arith, inner None e, outer, fewer, same, less, all)

-- ---- the end
no_children : (w : ℕ) (k : List Bool) → children (id w) w k [] ≡ []
unfolding children
no_children w k = of_none (child_of (id w)) (λ u. refl) w k

pub root_is : {D : Type 0} (f : D → Item) (w m : ℕ) (xs rest : List D) (k : List Bool) (d : Option (List ℕ)) (cs : List (ℕ × List ℕ)) → 0 < w → 1 ≤ length xs → IsValid w (map f xs) → lone m (map f xs) ≡ None → length rest < 1 →
    k ≡ node_key w (map f xs) → d ≡ own_digest k (map f xs) → cs ++ children (id w) w (node_key w (map f xs)) (map f rest) ≡ children (id w) w (node_key w (map f xs)) (map f xs) → sha256 (hashed_string k d cs) ≡ slot_id w m (map f xs)
root_is f w m [] rest k d cs pos some v l none ke de ce = absurd (omega (arith, some))
root_is f w m (x ∷ xs) (y ∷ rest) k d cs pos some v l none ke de ce = absurd (omega (arith, none))
root_is f w m (x ∷ xs) [] k d cs pos some v l none ke de ce =
    let kids : cs ≡ children (id w) w (node_key w (map f (x ∷ xs))) (map f (x ∷ xs)) = sym (append-nil cs) ∙ ap (λ r. cs ++ r) (sym (no_children w (node_key w (map f (x ∷ xs))))) ∙ ce in
    let digest : d ≡ digest_at (node_key w (map f (x ∷ xs))) (map f (x ∷ xs)) = de ∙ ap (λ k. own_digest k (map f (x ∷ xs))) ke ∙ sym (first_digest w (f x) (map f xs) pos v) in
    ap (λ k. sha256 (hashed_string k d cs)) ke
    ∙ ap (λ d. sha256 (hashed_string (node_key w (map f (x ∷ xs))) d cs)) digest
    ∙ ap (λ cs. sha256 (hashed_string (node_key w (map f (x ∷ xs))) (digest_at (node_key w (map f (x ∷ xs))) (map f (x ∷ xs))) cs)) kids
    ∙ sym (id_unfolds w (f x) (map f xs) pos)
    ∙ ap (λ o. or_id w o (map f (x ∷ xs))) (sym l)

pub cost_is : {D : Type 0} (f : D → Item) (w m : ℕ) (xs rest : List D) (before now after : ℕ) → 0 < w → 1 ≤ length xs → lone m (map f xs) ≡ None → length rest < 1 →
    now + length (strings_below (strings w) w (node_key w (map f xs)) (map f rest)) ≡ before + length (strings_below (strings w) w (node_key w (map f xs)) (map f xs)) → after ≡ now + 1 → after ≡ before + length (slot_strings w m (map f xs))
cost_is f w m [] rest before now after pos some l none e g = absurd (omega (arith, some))
cost_is f w m (x ∷ xs) (y ∷ rest) before now after pos some l none e g = absurd (omega (arith, none))
cost_is f w m (x ∷ xs) [] before now after pos some l none e g =
    let nothing = ap length (strings_below_none w (node_key w (map f (x ∷ xs)))) in
    let all = ap length (strings_unfold w (f x) (map f xs) pos) in
    let slot : length (slot_strings w m (map f (x ∷ xs))) ≡ length (strings w (map f (x ∷ xs))) = ap (λ o. length (descend (strings w) o (map f (x ∷ xs)))) l in
    omega (arith, nothing, all, slot, e, g)

-- ---- children and costs so far
pub one_child_more : (cs ds kids rest all : List (ℕ × List ℕ)) (t : ℕ) (x y : List ℕ) → ds ≡ cs ++ (t, x) ∷ [] → x ≡ y → kids ≡ (t, y) ∷ rest → cs ++ kids ≡ all → ds ++ rest ≡ all
one_child_more cs ds kids rest all t x y de xe ke all_is =
    ap (λ d. d ++ rest) de ∙ append_assoc cs ((t, x) ∷ []) rest ∙ ap (λ x. cs ++ (t, x) ∷ rest) xe ∙ ap (λ k. cs ++ k) (sym ke) ∙ all_is

pub one_run_more : (now later before : ℕ) (a b strs rest all : List (List ℕ)) → later ≡ now + length a → a ≡ b → strs ≡ b ++ rest → now + length strs ≡ before + length all → later + length rest ≡ before + length all
one_run_more now later before a b strs rest all le ae se e = omega (arith, le, ap length ae, ap length se, length-append b rest, e)

-- ---- a whole list
-- a slot has bits, so no stub is one of none
pub no_lone : (w : ℕ) (is : List Item) → 0 < w → IsValid w is → lone 0 is ≡ None
no_lone w [] pos v = refl
no_lone w (Val k d ∷ is) pos v = refl
no_lone w (Stub p x ∷ i ∷ is) pos v = refl
no_lone w (Stub p x ∷ []) pos v = go (eqb (length p) 0) refl
  where
    go : (b : Bool) → eqb (length p) 0 ≡ b → cond b (Some x) None ≡ None
    go false e = refl
    go true e = absurd (let z : length p ≡ 0 = grind (arith, nat_tests) in let l = v.whole.0.0.1 in omega (arith, z, l, pos))

pub whole_id : (w : ℕ) (is : List Item) → 0 < w → IsValid w is → slot_id w 0 is ≡ id w is
whole_id w is pos v = ap (λ o. or_id w o is) (no_lone w is pos v)

pub whole_strings : (w : ℕ) (is : List Item) → 0 < w → IsValid w is → slot_strings w 0 is ≡ strings w is
whole_strings w is pos v = ap (λ o. descend (strings w) o is) (no_lone w is pos v)

-- of no items nothing is hashed
pub no_id : (w : ℕ) (is : List Item) → is ≡ [] → zero_id ≡ id w is
unfolding id id_within
no_id w is e = ap (id w) (sym e)

pub no_strings_at_all : (w : ℕ) (is : List Item) → is ≡ [] → length (strings w is) ≡ 0
no_strings_at_all w is e = ap (λ is. length (strings w is)) e ∙ ap length (strings_none w)

-- a list of no length is seen as no items
pub nothing_seen : {D : Type 0} (f : D → Item) (xs ys : List D) → ys ≡ xs → true ≡ eqb (length ys) 0 → map f xs ≡ []
nothing_seen f xs ys e t =
    let z : length ys ≡ 0 = grind (arith, nat_tests) in
    ap (map f) (sym e ∙ nil_from_length ys z)
