-- A path tells in order what its nodes tell on the way down, and then what they tell on the way up.
use Rattle.std.proofs.Common.{◌≡◌, ℕ, zero, suc, ◌+◌, ◌-◌, ◌*◌, ◌/◌, ◌%◌, ◌^◌, ◌<◌, ◌≤◌, Bool, true, false, cond, eqb, List, [], ◌∷◌, ◌++◌, length, get_or, take, drop, refl, sym, ap, ◌∙◌, subst, arith, length-append, length-drop, take-append-drop, append_assoc, add-one, Option, Some, None, ◌⊎◌, inl, inr, Less}
use Rattle.std.specs.Prelude.{if◌then◌else◌, ◌||◌, nat_lt}
use Rattle.std.specs.List.{AllByRecursion, prefix_len}
use Rattle.std.proofs.lemmas.Bool.{cases_lt}
use Rattle.std.proofs.lemmas.Bool.Decides.{nat_tests}
use Rattle.std.proofs.lemmas.Grind.{flat_map-append}
use Rattle.std.proofs.Math.Nat.{div-add-mod}
use Rattle.std.proofs.lemmas.List.{length-map, take-map, drop-map}
use Rattle.std.proofs.lemmas.List.Sums.{prefix_len-le-length}
use Rattle.std.proofs.Math.Seq.{drop-cons, take-length}
use Rattle.base_model.proofs.Bits.{length-bits_of}
use Rattle.trie_model.specs.Bits.{bits_of, is_prefix, key_cmp, IsRising, token_at}
use Rattle.trie_model.specs.Items.{Item, Stub, places}
use Rattle.trie_model.proofs.Children.{is_prefix-tok}
use Rattle.trie_model.proofs.NodeKeys.{above_prefix, by_token}
use Rattle.trie_model.proofs.Prefixes.{is_prefix-itself, is_prefix-through, is_prefix-append, length-is_prefix, branches, whole_step}
use Rattle.trie_items.specs.declared.child.ChildId.{ChildId}
use Rattle.trie_items.specs.Children.{children_of}
use Rattle.range_model.specs.Ranges.{Range, is_outside, slot_place, is_inside, key_place}
use Rattle.proof_model.specs.Paths.{ProofNode, IsProofNode, IsChild, AreRising}
use Rattle.proof_model.specs.Claims.{Claim, nodes, leads_to, stub_beside, value_beside, shown_value, in_order}
use Rattle.proof_model.specs.Refusals.{extends, first_break}
use Rattle.proof_check.specs.Claims.{stubs_of, told_of}
use Rattle.proof_check.specs.Descents.{IsPathOf, is_in_front, in_front, told_ahead, told_behind, told_down, told_up}
use Rattle.proof_check.proofs.OrderedItems.{AllPlaced, AllPlaced-append, AllPlaced-weaker, AllAbove, AllAbove-append, Apart, in_order-amid}
use Rattle.proof_check.proofs.PathOrders.{GoesOn, all_go_on, unbroken_behind, unbroken_from}
use Rattle.proof_check.proofs.ItemsBeside.{one_rises, stub_above, leads_to-append}
use Rattle.proof_check.proofs.ClaimItems.{All-front, All-back}

-- ---- paths
-- a slot that leads to a node further down leads to one of all
leads_on : (s : List Bool) (n : ProofNode) (ns : List ProofNode) → leads_to s ns ≡ true → leads_to s (n ∷ ns) ≡ true
leads_on s n ns h = go (is_prefix s n.key)
  where
    go : (t : Bool) → (if t then true else leads_to s ns) ≡ true
    go true = refl
    go false = h

-- what is behind the first node is a path too
pub path_behind : (w : ℕ) (c : Claim) (n : ProofNode) (ns : List ProofNode) → IsPathOf w c (n ∷ ns) → IsPathOf w c ns
path_behind w c n ns p = record {
  whole = p.whole.1;
  unbroken = unbroken_from 1 0 ns (unbroken_behind 0 n ns p.unbroken);
  shown = λ s h. p.shown s (leads_on s n ns h);
}

pub path_drop : (w : ℕ) (c : Claim) (i : ℕ) (ns : List ProofNode) → IsPathOf w c ns → IsPathOf w c (drop i ns)
path_drop w c zero ns p = p
path_drop w c (suc i) [] p = p
path_drop w c (suc i) (n ∷ ns) p = path_drop w c i ns (path_behind w c n ns p)

-- ---- the way to the next node
-- a node's key has whole tokens
pub key_tokens : (w : ℕ) (n : ProofNode) → IsProofNode w n → w * (length n.key / w) ≡ length n.key
key_tokens w n h = let e = div-add-mod (length n.key) w in let z = h.whole in omega (arith, e, z)

-- a key of whole tokens that goes on behind another has one token more
one_token_more : (w a b : ℕ) → 0 < w → a % w ≡ 0 → b % w ≡ 0 → a < b → a + w ≤ b
one_token_more w a b pos p q l =
    let e = div-add-mod a w in
    let f = div-add-mod b w in
    elim (whole_step w (a / w) (b / w) (omega (arith, e, f, p, q, l))) [
      | inl m ↦ absurd (omega (arith, e, f, p, q, l, m))
      | inr m ↦ omega (arith, e, f, p, q, m)
    ]

pub next_longer : (w : ℕ) (n m : ProofNode) → 0 < w → IsProofNode w n → IsProofNode w m → GoesOn n m → length n.key + w ≤ length m.key
next_longer w n m pos p q g = one_token_more w (length n.key) (length m.key) pos p.whole q.whole g.longer

-- the token that leads to the next node
abbrev way : ℕ → ProofNode → ProofNode → ℕ
way w n m = token_at w (length n.key) m.key

record Leads (w : ℕ) (n m : ProofNode) : Type 0 where
  small : way w n m < 2 ^ w
  prefix : is_prefix (n.key ++ bits_of w (way w n m)) m.key ≡ true

way_leads : (w : ℕ) (n m : ProofNode) → 0 < w → IsProofNode w n → IsProofNode w m → GoesOn n m → Leads w n m
way_leads w n m pos p q g =
    let l = next_longer w n m pos p q g in
    let b = branches w n.key m.key g.prefix l in
    let e : way w n m ≡ b.0 = same (way w n m) b.0 (sym (is_prefix-tok w b.0 n.key m.key g.prefix l b.1) ∙ b.2) in
    record { small = subst (λ t. t < 2 ^ w) (sym e) b.1; prefix = subst (λ t. is_prefix (n.key ++ bits_of w t) m.key ≡ true) (sym e) b.2 }
  where
    same : (a b : ℕ) → eqb a b ≡ true → a ≡ b
    same a b h = grind (arith, nat_tests)

-- ---- children in front of a token, and the others
-- a child as it is seen
abbrev child_of : ChildId → ℕ × List ℕ
child_of c = (c.index, c.id)

abbrev Ahead : ℕ → ℕ × List ℕ → Type 0
Ahead t d = d.0 < t

abbrev NotAhead : ℕ → ℕ × List ℕ → Type 0
NotAhead t d = t ≤ d.0

pub one_more : (n : ℕ) → suc n ≡ 1 + n
one_more n = omega arith

ahead_all : (t : ℕ) (ds : List (ℕ × List ℕ)) → AllByRecursion (Ahead t) (take (prefix_len (is_in_front t) ds) ds)
ahead_all t [] = tt
ahead_all t (d ∷ ds) = go (nat_lt d.0 t) refl (ahead_all t ds)
  where
    go : (b : Bool) → nat_lt d.0 t ≡ b → AllByRecursion (Ahead t) (take (prefix_len (is_in_front t) ds) ds) → AllByRecursion (Ahead t) (take (cond b (1 + prefix_len (is_in_front t) ds) 0) (d ∷ ds))
    go true e ih = let l : d.0 < t = grind (arith, nat_tests, e) in subst (λ n. AllByRecursion (Ahead t) (take n (d ∷ ds))) (one_more (prefix_len (is_in_front t) ds)) (l, ih)
    go false e ih = tt

from_on : (t low : ℕ) (ds : List (ℕ × List ℕ)) → t ≤ low → AreRising low ds → AllByRecursion (NotAhead t) ds
from_on t low [] l r = tt
from_on t low (d ∷ ds) l r = let m = r.0 in (omega (arith, l, m), from_on t (suc d.0) ds (omega (arith, l, m)) r.1)

behind_all : (t low : ℕ) (ds : List (ℕ × List ℕ)) → AreRising low ds → AllByRecursion (NotAhead t) (drop (prefix_len (is_in_front t) ds) ds)
behind_all t low [] r = tt
behind_all t low (d ∷ ds) r = go (nat_lt d.0 t) refl (behind_all t (suc d.0) ds r.1)
  where
    go : (b : Bool) → nat_lt d.0 t ≡ b → AllByRecursion (NotAhead t) (drop (prefix_len (is_in_front t) ds) ds) → AllByRecursion (NotAhead t) (drop (cond b (1 + prefix_len (is_in_front t) ds) 0) (d ∷ ds))
    go true e ih = subst (λ n. AllByRecursion (NotAhead t) (drop n (d ∷ ds))) (one_more (prefix_len (is_in_front t) ds)) ih
    go false e ih = let m : t ≤ d.0 = grind (arith, nat_tests, e) in (m, from_on t (suc d.0) ds (omega (arith, m)) r.1)

All-drop : {A : Type 0} (P : A → Type 0) (k : ℕ) (xs : List A) → AllByRecursion P xs → AllByRecursion P (drop k xs)
All-drop P zero xs h = h
All-drop P (suc k) [] h = h
All-drop P (suc k) (x ∷ xs) h = All-drop P k xs h.1

All-take : {A : Type 0} (P : A → Type 0) (k : ℕ) (xs : List A) → AllByRecursion P xs → AllByRecursion P (take k xs)
All-take P zero xs h = tt
All-take P (suc k) [] h = tt
All-take P (suc k) (x ∷ xs) h = (h.0, All-take P k xs h.1)

-- ---- what is told below a slot
-- keys and slots that begin with one
abbrev AllWithin : List Bool → List Item → Type 0
AllWithin s is = AllPlaced (λ l. is_prefix s l ≡ true) is

stub_within : (s p : List Bool) (r : Range) (ns : List ProofNode) (x : List ℕ) → is_prefix s p ≡ true → AllWithin s (stub_beside r ns p x)
stub_within s p r ns x h = go (is_outside (slot_place r p)) (leads_to p ns)
  where
    go : (t u : Bool) → AllWithin s (if t then (if u then [] else Stub p x ∷ []) else [])
    go true true = tt
    go true false = (h, tt)
    go false u = tt

stubs_within : (w : ℕ) (c : Claim) (s k : List Bool) (ds : List (ℕ × List ℕ)) → is_prefix s k ≡ true → AllWithin s (stubs_of w c k ds)
stubs_within w c s k [] h = tt
stubs_within w c s k (d ∷ ds) h =
    AllPlaced-append (λ l. is_prefix s l ≡ true) (stub_beside c.reached (nodes c) (k ++ bits_of w d.0) d.1) (stubs_of w c k ds)
    (stub_within s (k ++ bits_of w d.0) c.reached (nodes c) d.1 (is_prefix-append s k (bits_of w d.0) h)) (stubs_within w c s k ds h)

value_within : (s : List Bool) (r : Range) (n : ProofNode) → is_prefix s n.key ≡ true → AllWithin s (value_beside r n)
value_within s r n h = go (is_inside (key_place r n.key)) n.digest
  where
    go : (t : Bool) (d : Option (List ℕ)) → AllWithin s (if t then [] else shown_value n.key d)
    go true d = tt
    go false None = tt
    go false (Some d) = (h, tt)

told_within : (w : ℕ) (c : Claim) (s : List Bool) (ns : List ProofNode) → AllByRecursion (λ (n : ProofNode). is_prefix s n.key ≡ true) ns → AllWithin s (told_of w c ns)
told_within w c s [] h = tt
told_within w c s (n ∷ ns) h =
    let P : List Bool → Type 0 = λ l. is_prefix s l ≡ true in
    AllPlaced-append P (value_beside c.reached n ++ stubs_of w c n.key n.children) (told_of w c ns)
    (AllPlaced-append P (value_beside c.reached n) (stubs_of w c n.key n.children) (value_within s c.reached n h.0) (stubs_within w c s n.key n.children h.0))
    (told_within w c s ns h.1)

-- the keys of all nodes further down begin with the slot of the next one
all_within : (s : List Bool) (m : ProofNode) (ms : List ProofNode) → is_prefix s m.key ≡ true → AllByRecursion (GoesOn m) ms → AllByRecursion (λ (n : ProofNode). is_prefix s n.key ≡ true) ms
all_within s m [] h g = tt
all_within s m (x ∷ xs) h g = (is_prefix-through s m.key x.key h g.0.prefix, all_within s m xs h g.1)

-- ---- stubs on both sides of a slot
-- the items stand behind the slot of a lower token
stub_apart : (w t : ℕ) (c : Claim) (k : List Bool) (d : ℕ × List ℕ) (is : List Item) → t < 2 ^ w → d.0 < t → AllWithin (k ++ bits_of w t) is → Apart (stub_beside c.reached (nodes c) (k ++ bits_of w d.0) d.1) is
stub_apart w t c k d is m l a = go (is_outside (slot_place c.reached (k ++ bits_of w d.0))) (leads_to (k ++ bits_of w d.0) (nodes c))
  where
    above : AllAbove (k ++ bits_of w d.0) is
    above = AllPlaced-weaker (λ q. is_prefix (k ++ bits_of w t) q ≡ true) (λ q. key_cmp (k ++ bits_of w d.0) q ≡ Less) is (λ q h. by_token w d.0 t k (k ++ bits_of w d.0) q l m (is_prefix-itself (k ++ bits_of w d.0)) h) a

    go : (t u : Bool) → Apart (if t then (if u then [] else Stub (k ++ bits_of w d.0) d.1 ∷ []) else []) is
    go true true = tt
    go true false = (above, tt)
    go false u = tt

stubs_apart : (w t : ℕ) (c : Claim) (k : List Bool) (ds : List (ℕ × List ℕ)) (is : List Item) → t < 2 ^ w → AllByRecursion (Ahead t) ds → AllWithin (k ++ bits_of w t) is → Apart (stubs_of w c k ds) is
stubs_apart w t c k [] is m l a = tt
stubs_apart w t c k (d ∷ ds) is m l a =
    AllPlaced-append (λ q. AllAbove q is) (stub_beside c.reached (nodes c) (k ++ bits_of w d.0) d.1) (stubs_of w c k ds) (stub_apart w t c k d is m l.0 a) (stubs_apart w t c k ds is m l.1 a)

-- behind the key of the node too
value_apart : (r : Range) (n : ProofNode) (is : List Item) → AllAbove n.key is → Apart (value_beside r n) is
value_apart r n is a = go (is_inside (key_place r n.key)) n.digest
  where
    go : (t : Bool) (d : Option (List ℕ)) → Apart (if t then [] else shown_value n.key d) is
    go true d = tt
    go false None = tt
    go false (Some d) = (a, tt)

-- a slot that leads to a node is told as no stub
not_told : (r : Range) (ns : List ProofNode) (s : List Bool) (x : List ℕ) → leads_to s ns ≡ true → stub_beside r ns s x ≡ []
not_told r ns s x h = ap (λ u. if is_outside (slot_place r s) then (if u then [] else Stub s x ∷ []) else []) h ∙ go (is_outside (slot_place r s))
  where
    go : (t : Bool) → (if t then (if true then [] else Stub s x ∷ []) else []) ≡ []
    go true = refl
    go false = refl

-- the stubs of tokens from this one on stand behind what begins with its slot
stubs_behind : (w t : ℕ) (c : Claim) (k q : List Bool) (ds : List (ℕ × List ℕ)) → is_prefix (k ++ bits_of w t) q ≡ true → leads_to (k ++ bits_of w t) (nodes c) ≡ true → AllByRecursion (IsChild w) ds → AllByRecursion (NotAhead t) ds → AllAbove q (stubs_of w c k ds)
stubs_behind w t c k q [] p s h l = tt
stubs_behind w t c k q (d ∷ ds) p s h l =
    AllAbove-append q (stub_beside c.reached (nodes c) (k ++ bits_of w d.0) d.1) (stubs_of w c k ds) (go (cases_lt t d.0)) (stubs_behind w t c k q ds p s h.1 l.1)
  where
    go : (t < d.0) ⊎ (d.0 ≤ t) → AllAbove q (stub_beside c.reached (nodes c) (k ++ bits_of w d.0) d.1)
    go (inl m) = stub_above q (k ++ bits_of w d.0) c.reached (nodes c) d.1 (by_token w t d.0 k q (k ++ bits_of w d.0) m h.0.0 p (is_prefix-itself (k ++ bits_of w d.0)))
    go (inr m) =
        let low = l.0 in
        let e : t ≡ d.0 = omega (arith, low, m) in
        subst (AllAbove q) (sym (not_told c.reached (nodes c) (k ++ bits_of w d.0) d.1 (subst (λ u. leads_to (k ++ bits_of w u) (nodes c) ≡ true) e s))) tt

-- ---- one node
-- what the nodes further down tell stands between both parts of what a node tells
record Amid (w : ℕ) (c : Claim) (n : ProofNode) (ns : List ProofNode) : Type 0 where
  ahead : Apart (told_ahead w c n ns) (told_of w c ns)
  behind : Apart (told_of w c ns) (told_behind w c n ns)

none_behind : (is : List Item) → Apart is []
none_behind [] = tt
none_behind (i ∷ is) = (tt, none_behind is)

amid : (w : ℕ) (c : Claim) (n : ProofNode) (ns : List ProofNode) → 0 < w → IsPathOf w c (n ∷ ns) → Amid w c n ns
amid w c n [] pos p = record { ahead = none_behind (told_ahead w c n []); behind = tt }
amid w c n (m ∷ ms) pos p = record {
  ahead = AllPlaced-append (λ q. AllAbove q is) (value_beside c.reached n) (stubs_of w c n.key (take count n.children)) (value_apart c.reached n is above) (stubs_apart w t c n.key (take count n.children) is l.small (ahead_all t n.children) within);
  behind = AllPlaced-weaker (λ q. is_prefix (n.key ++ bits_of w t) q ≡ true) (λ q. AllAbove q (told_behind w c n (m ∷ ms))) is
      (λ q h. stubs_behind w t c n.key q (drop count n.children) h shown (All-drop (IsChild w) count n.children p.whole.0.children) (behind_all t 0 n.children p.whole.0.rising)) within;
}
  where
    is : List Item
    is = told_of w c (m ∷ ms)

    t : ℕ
    t = way w n m

    count : ℕ
    count = in_front w n (m ∷ ms)

    later : AllByRecursion (GoesOn n) (m ∷ ms)
    later = all_go_on 0 n (m ∷ ms) p.unbroken

    l : Leads w n m
    l = way_leads w n m pos p.whole.0 p.whole.1.0 later.0

    within : AllWithin (n.key ++ bits_of w t) is
    within = told_within w c (n.key ++ bits_of w t) (m ∷ ms) (l.prefix, all_within (n.key ++ bits_of w t) m ms l.prefix (all_go_on 1 m ms (unbroken_behind 0 n (m ∷ ms) p.unbroken)))

    shown : leads_to (n.key ++ bits_of w t) (nodes c) ≡ true
    shown = p.shown (n.key ++ bits_of w t) (leads_on (n.key ++ bits_of w t) n (m ∷ ms) (ap (λ b. if b then true else leads_to (n.key ++ bits_of w t) ms) l.prefix))

    above : AllAbove n.key is
    above = AllPlaced-weaker (λ q. is_prefix (n.key ++ bits_of w t) q ≡ true) (λ q. key_cmp n.key q ≡ Less) is (λ q h.
        let long = length-is_prefix (n.key ++ bits_of w t) q h in
        let a = length-append n.key (bits_of w t) in
        let b = length-bits_of w t in
        above_prefix n.key q (is_prefix-through n.key (n.key ++ bits_of w t) q (is_prefix-append n.key n.key (bits_of w t) (is_prefix-itself n.key)) h) (omega (arith, long, a, b, pos))) within

-- both parts are all that the node tells
both_sides : (w : ℕ) (c : Claim) (n : ProofNode) (ns : List ProofNode) → value_beside c.reached n ++ stubs_of w c n.key n.children ≡ told_ahead w c n ns ++ told_behind w c n ns
both_sides w c n ns =
    let count = in_front w n ns in
    let f = λ (d : ℕ × List ℕ). stub_beside c.reached (nodes c) (n.key ++ bits_of w d.0) d.1 in
    ap (λ ds. value_beside c.reached n ++ stubs_of w c n.key ds) (sym (take-append-drop count n.children))
    ∙ ap (λ r. value_beside c.reached n ++ r) (flat_map-append f (take count n.children) (drop count n.children))
    ∙ sym (append_assoc (value_beside c.reached n) (stubs_of w c n.key (take count n.children)) (stubs_of w c n.key (drop count n.children)))

-- ---- the whole path
regroup : (fs ds us bs : List Item) → fs ++ ((ds ++ us) ++ bs) ≡ (fs ++ ds) ++ (us ++ bs)
regroup fs ds us bs = ap (λ r. fs ++ r) (append_assoc ds us bs) ∙ sym (append_assoc fs ds (us ++ bs))

pub descent : (w : ℕ) (c : Claim) (ns : List ProofNode) → 0 < w → IsPathOf w c ns → in_order (told_of w c ns) ≡ told_down w c ns ++ told_up w c ns
descent w c [] pos p = refl
descent w c (n ∷ ns) pos p =
    let a = amid w c n ns pos p in
    let e = both_sides w c n ns in
    let rises : IsRising (places (told_ahead w c n ns ++ told_behind w c n ns)) = subst (λ is. IsRising (places is)) e (one_rises w c n pos p.whole.0) in
    ap (λ r. in_order (r ++ told_of w c ns)) e
    ∙ in_order-amid (told_ahead w c n ns) (told_behind w c n ns) (told_of w c ns) rises a.ahead a.behind
    ∙ ap (λ r. told_ahead w c n ns ++ (r ++ told_behind w c n ns)) (descent w c ns pos (path_behind w c n ns p))
    ∙ regroup (told_ahead w c n ns) (told_down w c ns) (told_up w c ns) (told_behind w c n ns)

-- ---- the children as they are kept
pub in_front-within : (w : ℕ) (n : ProofNode) (ns : List ProofNode) → in_front w n ns ≤ length n.children
in_front-within w n [] = omega arith
in_front-within w n (m ∷ ms) = prefix_len-le-length (is_in_front (way w n m)) n.children

module _ (w k : ℕ) (n : ProofNode) (ns : List ProofNode) (kept : List ChildId) (h : IsProofNode w n) (e : children_of kept ≡ n.children) (f : k ≡ in_front w n ns) where
  pub split_within : k ≤ length kept
  split_within = let l = in_front-within w n ns in let m = ap length e in omega (arith, l, m, f, length-map kept child_of)

  front_kept : (front : List ChildId) → front ≡ take k kept → children_of front ≡ take (in_front w n ns) n.children
  front_kept front g = ap children_of g ∙ sym (take-map child_of k kept) ∙ ap (take k) e ∙ ap (λ k. take k n.children) f

  pub front_whole : (front : List ChildId) → front ≡ take k kept → AllByRecursion (IsChild w) (children_of front)
  front_whole front g = subst (AllByRecursion (IsChild w)) (sym (front_kept front g)) (All-take (IsChild w) (in_front w n ns) n.children h.children)

  back_kept : (back : List ChildId) → back ≡ drop k kept → children_of back ≡ drop (in_front w n ns) n.children
  back_kept back g = ap children_of g ∙ sym (drop-map child_of k kept) ∙ ap (drop k) e ∙ ap (λ k. drop k n.children) f

  pub back_whole : (back : List ChildId) → back ≡ drop k kept → AllByRecursion (IsChild w) (children_of back)
  back_whole back g = subst (AllByRecursion (IsChild w)) (sym (back_kept back g)) (All-drop (IsChild w) (in_front w n ns) n.children h.children)

-- ---- nodes by their places
-- a node of a path and those behind it
pub path_at : (w i : ℕ) (c : Claim) (path : List ProofNode) (n : ProofNode) → i < length path → n ≡ get_or path i n → IsPathOf w c path → IsPathOf w c (n ∷ take (length path - (i + 1)) (drop (i + 1) path))
path_at w i c path n l e p =
    subst (λ r. IsPathOf w c (n ∷ r)) (sym rest) (subst (IsPathOf w c) (drop-cons path i n l ∙ ap (λ m. m ∷ drop (suc i) path) (sym e) ∙ ap (λ j. n ∷ drop j path) (sym (add-one i))) (path_drop w c i path p))
  where
    rest : take (length path - (i + 1)) (drop (i + 1) path) ≡ drop (i + 1) path
    rest = ap (λ m. take m (drop (i + 1) path)) (sym (length-drop (i + 1) path)) ∙ take-length (drop (i + 1) path)

-- ---- both paths of a claim
pub start_path : (w : ℕ) (c : Claim) → AllByRecursion (IsProofNode w) (nodes c) → first_break extends 0 c.start ≡ None → IsPathOf w c c.start
start_path w c h u = record {
  whole = All-front (IsProofNode w) c.start c.end h;
  unbroken = u;
  shown = λ s e. leads_to-append s c.start c.end ∙ ap (λ b. b || leads_to s c.end) e;
}

pub end_path : (w : ℕ) (c : Claim) → AllByRecursion (IsProofNode w) (nodes c) → first_break extends 0 c.end ≡ None → IsPathOf w c c.end
end_path w c h u = record {
  whole = All-back (IsProofNode w) c.start c.end h;
  unbroken = u;
  shown = λ s e. leads_to-append s c.start c.end ∙ ap (λ b. leads_to s c.start || b) e ∙ go (leads_to s c.start);
}
  where
    go : (t : Bool) → (t || true) ≡ true
    go true = refl
    go false = refl
