-- The items of entries, whose keys lie in a range, among items that lie beside it.
use Rattle.std.proofs.Common.{◌≡◌, ℕ, zero, suc, ◌+◌, ◌-◌, ◌≤◌, Bool, true, false, cond, List, [], ◌∷◌, ◌++◌, length, get_or, map, take, drop, refl, sym, ap, ◌∙◌, subst, arith, take-append-drop, append_assoc, length-drop, Option, Some, None, Ordering, Less, Equal, Greater}
use Rattle.std.specs.Prelude.{if◌then◌else◌}
use Rattle.std.specs.List.{AllByRecursion, prefix_len}
use Rattle.std.specs.Ordering.{is_lt}
use Rattle.std.proofs.Math.Seq.{drop-append_seam, take-append_seam}
use Rattle.std.proofs.lemmas.List.{length-map, map-append, take-map, drop-map}
use Rattle.trie_model.specs.Bits.{bits_of, bits_of_bytes, is_prefix, key_cmp, IsRising}
use Rattle.trie_model.specs.Items.{Item, Stub, place_of, places}
use Rattle.trie_model.specs.Maps.{limits, entry_item}
use Rattle.trie_model.proofs.KeySets.{below-through}
use Rattle.trie_items.specs.Items.{item_of}
use Rattle.trie_items.specs.declared.items.Item.{Item as Listed}
use Rattle.range_model.specs.Laws.{BytesLieAsTheirBits}
use Rattle.range_model.specs.Ranges.{Range, IsRange, Before, After, Inside, Straddles, is_inside, is_outside, is_below, is_above, all_below, all_up_to, key_place, slot_place}
use Rattle.proof_model.specs.Paths.{ProofNode}
use Rattle.proof_model.specs.Proofs.{Pair}
use Rattle.proof_model.specs.Claims.{Claim, nodes, leads_to, stub_beside, value_beside, shown_value, with_item, in_order}
use Rattle.proof_model.specs.SoundProofs.{LiesIn, AreSorted}
use Rattle.proof_check.specs.Claims.{pair_of, stubs_of, told_of}
use Rattle.proof_check.specs.ItemFronts.{is_before, put_before}
use Rattle.proof_check.specs.declared.claim.Entry.{Entry}
use Rattle.proof_check.proofs.Descents.{one_more}
use Rattle.proof_check.proofs.ClaimItems.{entries_rise}
use Rattle.proof_check.proofs.OrderedItems.{AllPlaced, AllPlaced-append, AllPlaced-weaker, AllPlaced-in_order, AllAbove, AllAbove-append, AllAbove-through, Apart, Apart-parts, with_item-between, in_order-rising, tied, turned_back}

-- ---- keys in a range and beside it
abbrev pub IsIn : Range → List Bool → Type 0
IsIn r k = is_inside (key_place r k) ≡ true

abbrev pub IsOut : Range → List Bool → Type 0
IsOut r k = is_inside (key_place r k) ≡ false

record Bounded (r : Range) (k : List Bool) : Type 0 where
  from : is_below r.start k ≡ false
  to : is_above r.end k ≡ false

in_bounds : (r : Range) (k : List Bool) → IsIn r k → Bounded r k
unfolding key_place
in_bounds r k h = go (is_below r.start k) refl (is_above r.end k) refl h
  where
    go : (b : Bool) → is_below r.start k ≡ b → (a : Bool) → is_above r.end k ≡ a → is_inside (if b then Before else if a then After else Inside) ≡ true → Bounded r k
    go false e false f h = record { from = e; to = f }
    go true e a f h = absurd cc
    go false e true f h = absurd cc

bounds_in : (r : Range) (k : List Bool) → Bounded r k → IsIn r k
unfolding key_place
bounds_in r k b = ap (λ t. is_inside (if t then Before else if is_above r.end k then After else Inside)) b.from ∙ ap (λ t. is_inside (if t then After else Inside)) b.to

-- above a key that is not below a start, none is
none_below : (start : Option (List ℕ)) (a b : List Bool) → key_cmp a b ≡ Less → is_below start a ≡ false → is_below start b ≡ false
none_below None a b h f = refl
none_below (Some s) a b h f = go (key_cmp b (bits_of_bytes s)) refl
  where
    go : (o : Ordering) → key_cmp b (bits_of_bytes s) ≡ o → is_lt o ≡ false
    go Less e = absurd (let g = below-through a b (bits_of_bytes s) h e in let t : is_lt (key_cmp a (bits_of_bytes s)) ≡ true = ap is_lt g in cc)
    go Equal e = refl
    go Greater e = refl

none_above : (end : Option (List ℕ)) (b c : List Bool) → key_cmp b c ≡ Less → is_above end c ≡ false → is_above end b ≡ false
none_above None b c h f = refl
none_above (Some s) b c h f = go (key_cmp (bits_of_bytes s) b) refl
  where
    go : (o : Ordering) → key_cmp (bits_of_bytes s) b ≡ o → is_lt o ≡ false
    go Less e = absurd (let g = below-through (bits_of_bytes s) b c e h in let t : is_lt (key_cmp (bits_of_bytes s) c) ≡ true = ap is_lt g in cc)
    go Equal e = refl
    go Greater e = refl

-- what lies between two keys of a range lies in it
between : (r : Range) (a b c : List Bool) → key_cmp a b ≡ Less → key_cmp b c ≡ Less → IsIn r a → IsIn r c → IsIn r b
between r a b c p q h k = bounds_in r b (record { from = none_below r.start a b p (in_bounds r a h).from; to = none_above r.end b c q (in_bounds r c k).to })

both_no : (r : Range) (a b : List Bool) → a ≡ b → IsIn r a → IsOut r b → ⊥
both_no r a b e h k = let g : is_inside (key_place r b) ≡ true = subst (IsIn r) e h in let t : true ≡ false = sym g ∙ k in cc

-- a key beside a range that is not below one of the range is above all of it
past : (r : Range) (a b x : List Bool) → IsIn r a → IsIn r b → IsOut r x → (key_cmp x a ≡ Less → ⊥) → key_cmp b x ≡ Less
past r a b x h k o n = go (key_cmp b x) refl (key_cmp a x) refl
  where
    go : (p : Ordering) → key_cmp b x ≡ p → (q : Ordering) → key_cmp a x ≡ q → p ≡ Less
    go Less e q f = refl
    go Equal e q f = absurd (both_no r b x (tied b x e) k o)
    go Greater e Less f = absurd (both_no r x x refl (between r a x b f (turned_back b x e) h k) o)
    go Greater e Equal f = absurd (both_no r a x (tied a x f) h o)
    go Greater e Greater f = absurd (n (turned_back a x f))

-- ---- what nodes tell lies beside the range
slot_out : (r : Range) (s : List Bool) → is_outside (slot_place r s) ≡ true → IsOut r s
unfolding key_place slot_place
slot_out r s h = go (all_below r.start s) refl (is_above r.end s) refl (is_below r.start s) refl (all_up_to r.end s) h
  where
    below : (start : Option (List ℕ)) → all_below start s ≡ true → is_below start s ≡ true
    below None e = absurd cc
    below (Some a) e = part (is_prefix s (bits_of_bytes a)) e
      where
        part : (t : Bool) → (if t then false else is_lt (key_cmp s (bits_of_bytes a))) ≡ true → is_lt (key_cmp s (bits_of_bytes a)) ≡ true
        part false e = e
        part true e = absurd cc

    place : Bool → Bool → Bool
    place b a = is_inside (if b then Before else if a then After else Inside)

    above : (b : Bool) → place b true ≡ false
    above true = refl
    above false = refl

    go : (l : Bool) → all_below r.start s ≡ l → (a : Bool) → is_above r.end s ≡ a → (b : Bool) → is_below r.start s ≡ b → (u : Bool) → is_outside (if l then Before else if a then After else if b then Straddles else if u then Inside else Straddles) ≡ true → place (is_below r.start s) (is_above r.end s) ≡ false
    go true e a f b g u h = ap (λ t. place t (is_above r.end s)) (below r.start e)
    go false e true f b g u h = ap (place (is_below r.start s)) f ∙ above (is_below r.start s)
    go false e false f true g u h = absurd cc
    go false e false f false g true h = absurd cc
    go false e false f false g false h = absurd cc

stub_out : (r : Range) (ns : List ProofNode) (s : List Bool) (x : List ℕ) → AllPlaced (IsOut r) (stub_beside r ns s x)
stub_out r ns s x = go (is_outside (slot_place r s)) refl (leads_to s ns)
  where
    go : (t : Bool) → is_outside (slot_place r s) ≡ t → (u : Bool) → AllPlaced (IsOut r) (if t then (if u then [] else Stub s x ∷ []) else [])
    go true e true = tt
    go true e false = (slot_out r s e, tt)
    go false e u = tt

stubs_out : (w : ℕ) (c : Claim) (k : List Bool) (ds : List (ℕ × List ℕ)) → AllPlaced (IsOut c.reached) (stubs_of w c k ds)
stubs_out w c k [] = tt
stubs_out w c k (d ∷ ds) =
    AllPlaced-append (IsOut c.reached) (stub_beside c.reached (nodes c) (k ++ bits_of w d.0) d.1) (stubs_of w c k ds) (stub_out c.reached (nodes c) (k ++ bits_of w d.0) d.1) (stubs_out w c k ds)

value_out : (r : Range) (n : ProofNode) → AllPlaced (IsOut r) (value_beside r n)
value_out r n = go (is_inside (key_place r n.key)) refl n.digest
  where
    go : (t : Bool) → is_inside (key_place r n.key) ≡ t → (d : Option (List ℕ)) → AllPlaced (IsOut r) (if t then [] else shown_value n.key d)
    go true e d = tt
    go false e None = tt
    go false e (Some d) = (e, tt)

told_out : (w : ℕ) (c : Claim) (ns : List ProofNode) → AllPlaced (IsOut c.reached) (told_of w c ns)
told_out w c [] = tt
told_out w c (n ∷ ns) =
    AllPlaced-append (IsOut c.reached) (value_beside c.reached n ++ stubs_of w c n.key n.children) (told_of w c ns)
    (AllPlaced-append (IsOut c.reached) (value_beside c.reached n) (stubs_of w c n.key n.children) (value_out c.reached n) (stubs_out w c n.key n.children)) (told_out w c ns)

-- what was gathered of both paths
pub beside_out : (w : ℕ) (c : Claim) (start end beside : List Item) → start ≡ in_order (told_of w c c.start) → end ≡ in_order (told_of w c c.end) → beside ≡ in_order (start ++ end) → AllPlaced (IsOut c.reached) beside
beside_out w c start end beside s e b =
    let P = IsOut c.reached in
    subst (AllPlaced P) (sym b) (AllPlaced-in_order P (start ++ end) (AllPlaced-append P start end (subst (AllPlaced P) (sym s) (AllPlaced-in_order P (told_of w c c.start) (told_out w c c.start))) (subst (AllPlaced P) (sym e) (AllPlaced-in_order P (told_of w c c.end) (told_out w c c.end)))))

-- keys of entries lie in it
pub entries_in : BytesLieAsTheirBits → (r : Range) (es : List Pair) → IsRange limits r → AllByRecursion (LiesIn r) es → AllPlaced (IsIn r) (map entry_item es)
entries_in law r [] range h = tt
entries_in law r (e ∷ es) range h = (sym (law r e.0 range.start_bytes range.end_bytes h.0.bytes) ∙ h.0.inside, entries_in law r es range h.1)

-- ---- where the entries go
before_all : (k : List Bool) (is : List Item) → AllPlaced (λ l. key_cmp l k ≡ Less) (take (prefix_len (is_before k) is) is)
before_all k [] = tt
before_all k (i ∷ is) = go (key_cmp (place_of i) k) refl (before_all k is)
  where
    go : (o : Ordering) → key_cmp (place_of i) k ≡ o → AllPlaced (λ l. key_cmp l k ≡ Less) (take (prefix_len (is_before k) is) is) → AllPlaced (λ l. key_cmp l k ≡ Less) (take (cond (is_lt o) (1 + prefix_len (is_before k) is) 0) (i ∷ is))
    go Less e ih = subst (λ n. AllPlaced (λ l. key_cmp l k ≡ Less) (take n (i ∷ is))) (one_more (prefix_len (is_before k) is)) (e, ih)
    go Equal e ih = tt
    go Greater e ih = tt

abbrev NotBefore : List Bool → List Bool → Type 0
NotBefore k l = key_cmp l k ≡ Less → ⊥

rest_not : (k : List Bool) (is : List Item) → IsRising (places is) → AllPlaced (NotBefore k) (drop (prefix_len (is_before k) is) is)
rest_not k [] h = tt
rest_not k (i ∷ is) h = go (key_cmp (place_of i) k) refl (rest_not k is h.1)
  where
    later : NotBefore k (place_of i) → AllPlaced (NotBefore k) (i ∷ is)
    later n = (n, AllPlaced-weaker (λ l. key_cmp (place_of i) l ≡ Less) (NotBefore k) is (λ l a b. n (below-through (place_of i) l k a b)) h.0)

    go : (o : Ordering) → key_cmp (place_of i) k ≡ o → AllPlaced (NotBefore k) (drop (prefix_len (is_before k) is) is) → AllPlaced (NotBefore k) (drop (cond (is_lt o) (1 + prefix_len (is_before k) is) 0) (i ∷ is))
    go Less e ih = subst (λ n. AllPlaced (NotBefore k) (drop n (i ∷ is))) (one_more (prefix_len (is_before k) is)) ih
    go Equal e ih = later (λ f. (let g : Less ≡ Equal = sym f ∙ e in cc))
    go Greater e ih = later (λ f. (let g : Less ≡ Greater = sym f ∙ e in cc))

-- items that rise, put in among others that rise: between those in front of all of them and those behind
put_in : (ls is js : List Item) → IsRising (places ls) → IsRising (places (is ++ js)) → Apart is ls → Apart ls js → in_order (ls ++ (is ++ js)) ≡ is ++ (ls ++ js)
put_in [] is js h r a b = in_order-rising (is ++ js) r
put_in (l ∷ ls) is js h r a b =
    let p = Apart-parts is ls l a in
    ap (with_item l) (put_in ls is js h.1 r p.1 b.1) ∙ with_item-between l is (ls ++ js) p.0 (AllAbove-append (place_of l) ls js h.0 b.0)

-- both: in a range, and beside it
AllPlaced-both : (P Q : List Bool → Type 0) (is : List Item) → AllPlaced P is → AllPlaced Q is → AllPlaced (λ l. P l × Q l) is
AllPlaced-both P Q [] a b = tt
AllPlaced-both P Q (i ∷ is) a b = ((a.0, b.0), AllPlaced-both P Q is a.1 b.1)

AllPlaced-drop : (P : List Bool → Type 0) (n : ℕ) (is : List Item) → AllPlaced P is → AllPlaced P (drop n is)
AllPlaced-drop P zero is a = a
AllPlaced-drop P (suc n) [] a = tt
AllPlaced-drop P (suc n) (i ∷ is) a = AllPlaced-drop P n is a.1

pub put_among : (r : Range) (k : List Bool) (l : Item) (ls is : List Item) → place_of l ≡ k → AllPlaced (IsIn r) (l ∷ ls) → IsRising (places (l ∷ ls)) → AllPlaced (IsOut r) is → IsRising (places is) →
    take (prefix_len (is_before k) is) is ++ ((l ∷ ls) ++ drop (prefix_len (is_before k) is) is) ≡ in_order ((l ∷ ls) ++ is)
put_among r k l ls is e inside rises out h =
    sym (ap (λ r. in_order ((l ∷ ls) ++ r)) (sym (take-append-drop n is)) ∙ put_in (l ∷ ls) (take n is) (drop n is) rises (subst (λ r. IsRising (places r)) (sym (take-append-drop n is)) h) in_front behind)
  where
    n : ℕ
    n = prefix_len (is_before k) is

    in_front : Apart (take n is) (l ∷ ls)
    in_front = AllPlaced-weaker (λ q. key_cmp q k ≡ Less) (λ q. AllAbove q (l ∷ ls)) (take n is) (λ q a. (let b : key_cmp q (place_of l) ≡ Less = subst (λ k. key_cmp q k ≡ Less) (sym e) a in (b, AllAbove-through q (place_of l) ls b rises.0))) (before_all k is)

    behind : Apart (l ∷ ls) (drop n is)
    behind = AllPlaced-weaker (IsIn r) (λ q. AllAbove q (drop n is)) (l ∷ ls)
        (λ q a. AllPlaced-weaker (λ x. IsOut r x × NotBefore k x) (λ x. key_cmp q x ≡ Less) (drop n is) (λ x b. past r k q x (subst (IsIn r) e inside.0) a b.0 b.1) (AllPlaced-both (IsOut r) (NotBefore k) (drop n is) (AllPlaced-drop (IsOut r) n is out) (rest_not k is h))) inside

-- ---- the entries of a claim
pub none_listed : (es : List Entry) (is : List Item) → length es ≡ 0 → IsRising (places is) → is ≡ in_order (map entry_item (map pair_of es) ++ is)
none_listed [] is l h = sym (in_order-rising is h)
none_listed (e ∷ es) is l h = absurd (omega (arith, l))

module _ (law : BytesLieAsTheirBits) (r : Range) (range : IsRange limits r) (k : List Bool) (is all : List Item) (out : AllPlaced (IsOut r) is) (rises : IsRising (places is)) where
  pub some_listed : (es : List Entry) (d : Entry) → 1 ≤ length es → k ≡ bits_of_bytes (get_or es 0 d).key.now → AllByRecursion (LiesIn r) (map pair_of es) → AreSorted (map pair_of es) →
      all ≡ put_before k (map entry_item (map pair_of es)) is → all ≡ in_order (map entry_item (map pair_of es) ++ is)
  some_listed [] d l g h s e = absurd (omega (arith, l))
  some_listed (x ∷ es) d l g h s e =
      e ∙ put_among r k (entry_item (pair_of x)) (map entry_item (map pair_of es)) is (sym g) (entries_in law r (map pair_of (x ∷ es)) range h) (entries_rise r (map pair_of (x ∷ es)) h s) out rises

-- ---- the queue, turned until its back is where the entries go
pub turned_twice : (front back : ℕ) (first second third fourth : List Listed) (ls : List Item) → second ≡ drop front first ++ take front first → map item_of third ≡ map item_of second ++ ls → fourth ≡ drop back third ++ take back third → back ≡ length first - front
    → map item_of fourth ≡ take front (map item_of first) ++ (ls ++ drop front (map item_of first))
turned_twice front back first second third fourth ls e f g h =
    ap (map item_of) g ∙ map-append item_of (drop back third) (take back third) ∙ ap (λ r. r ++ map item_of (take back third)) (sym (drop-map item_of back third)) ∙ ap (λ r. drop back (map item_of third) ++ r) (sym (take-map item_of back third))
    ∙ ap (λ r. drop back r ++ take back r) all ∙ ap (λ n. drop n (after ++ (before ++ ls)) ++ take n (after ++ (before ++ ls))) long
    ∙ ap (λ r. r ++ take (length after) (after ++ (before ++ ls))) (drop-append_seam after (before ++ ls)) ∙ ap (λ r. (before ++ ls) ++ r) (take-append_seam after (before ++ ls)) ∙ append_assoc before ls after
  where
    before : List Item
    before = take front (map item_of first)

    after : List Item
    after = drop front (map item_of first)

    all : map item_of third ≡ after ++ (before ++ ls)
    all = f ∙ ap (λ r. map item_of r ++ ls) e ∙ ap (λ r. r ++ ls) (map-append item_of (drop front first) (take front first) ∙ ap (λ r. r ++ map item_of (take front first)) (sym (drop-map item_of front first)) ∙ ap (λ r. after ++ r) (sym (take-map item_of front first))) ∙ append_assoc after before ls

    long : back ≡ length after
    long = h ∙ ap (λ n. n - front) (sym (length-map first item_of)) ∙ sym (length-drop front (map item_of first))
