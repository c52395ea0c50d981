-- Changes in the order of their keys, laid on pairs in that order, one after another.
use Rattle.std.proofs.Common.{◌≡◌, ℕ, zero, suc, ◌+◌, ◌-◌, ◌<◌, ◌≤◌, Bool, true, false, cond, List, [], ◌∷◌, ◌++◌, length, get_or, take, drop, drop-cons, add-one, refl, sym, ap, ◌∙◌, subst, arith, ◌⊎◌, inl, inr, Option, Some, None, Ordering, Less, Equal, Greater, length-append, append_assoc}
use Rattle.std.specs.Prelude.{nat_eq}
use Rattle.std.specs.Cmp.Lexicographic.{pointwise, texts_ties}
use Rattle.std.specs.FinMap.{find}
use Rattle.std.specs.List.{AllByRecursion, slice_get}
use Rattle.std.specs.Ordering.{is_lt, is_eq, is_le, match_ordering}
use Rattle.std.proofs.lemmas.Cmp.{nat_list_cmp_total}
use Rattle.std.proofs.lemmas.List.{append-nil}
use Rattle.base_model.specs.Bytes.{bytes_cmp}
use Rattle.base_model.specs.Member.{Member}
use Rattle.trie_model.proofs.Entries.{tied_equal}
use Rattle.batch_model.specs.Batch.{Change, AreRising}
use Rattle.batch_model.proofs.SetChanges.{less, lower}
use Rattle.history_model.specs.Changes.{same_value}
use Rattle.proof_model.specs.Claims.{pair_of}
use Rattle.proof_model.specs.Proofs.{Pair}
use Rattle.proof_model.specs.Refusals.{first_place, same_bytes}
use Rattle.proof_model.specs.SoundProofs.{AreSorted}
use Rattle.proof_model.proofs.TruePoints.{turned}
use Rattle.change_proof.specs.LaidChanges.{put_of, with_change, laid, is_idle_in, below, from, past, value_in_front}

-- ---- parts
pub below-from : (k : List ℕ) (es : List Pair) → below k es ++ from k es ≡ es
below-from k [] = refl
below-from k (e ∷ es) = go (is_lt (bytes_cmp e.0 k)) (below-from k es)
  where
    go : (b : Bool) → below k es ++ from k es ≡ es → cond b (e ∷ below k es) [] ++ cond b (from k es) (e ∷ es) ≡ e ∷ es
    go true ih = ap (λ r. e ∷ r) ih
    go false ih = refl

front_taken : (xs ys : List Pair) → take (length xs) (xs ++ ys) ≡ xs
front_taken [] ys = refl
front_taken (x ∷ xs) ys = ap (λ r. x ∷ r) (front_taken xs ys)

-- the pairs in front of a key, by how many they are
pub below-taken : (k : List ℕ) (es rest : List Pair) → rest ≡ from k es → take (length es - length rest) es ≡ below k es
below-taken k es rest q =
    let whole = below-from k es in
    let sum = ap length (sym whole) ∙ length-append (below k es) (from k es) in
    let size = ap length q in
    let n : length es - length rest ≡ length (below k es) = omega (arith, sum, size) in
    ap (λ n. take n es) n ∙ ap (take (length (below k es))) (sym whole) ∙ front_taken (below k es) (from k es)

pub from-shorter : (k : List ℕ) (es rest : List Pair) → rest ≡ from k es → length rest ≤ length es
from-shorter k es rest q =
    let sum = ap length (sym (below-from k es)) ∙ length-append (below k es) (from k es) in
    let size = ap length q in
    omega (arith, sum, size)

from-AreSorted : (k : List ℕ) (es : List Pair) → AreSorted es → AreSorted (from k es)
from-AreSorted k [] h = tt
from-AreSorted k (e ∷ es) h = go (is_lt (bytes_cmp e.0 k)) (from-AreSorted k es h.1)
  where
    go : (b : Bool) → AreSorted (from k es) → AreSorted (cond b (from k es) (e ∷ es))
    go true ih = ih
    go false ih = h

past-AreSorted : (k : List ℕ) (es : List Pair) → AreSorted es → AreSorted (past k es)
past-AreSorted k [] h = tt
past-AreSorted k (e ∷ es) h = go (is_eq (bytes_cmp e.0 k))
  where
    go : (b : Bool) → AreSorted (cond b es (e ∷ es))
    go true = h.1
    go false = h

-- what is past a key, by how the first key compares
past-at : (k : List ℕ) (e : Pair) (es : List Pair) (o : Ordering) → bytes_cmp e.0 k ≡ o → past k (e ∷ es) ≡ cond (is_eq o) es (e ∷ es)
past-at k e es o q = ap (λ o. cond (is_eq o) es (e ∷ es)) q

value_in_front-at : (k : List ℕ) (e : Pair) (es : List Pair) (o : Ordering) → bytes_cmp e.0 k ≡ o → value_in_front k (e ∷ es) ≡ cond (is_eq o) (Some e.1) None
value_in_front-at k e es o q = ap (λ o. cond (is_eq o) (Some e.1) None) q

-- ---- one change after another
-- changes that come after a pair leave it in front
laid-above : (e : Pair) (es : List Pair) (cs : List Change) → AreRising (Some e.0) cs → laid (e ∷ es) cs ≡ e ∷ laid es cs
laid-above e es [] h = refl
laid-above e es (c ∷ cs) h =
    ap (λ o. laid (match_ordering o (put_of c ++ e ∷ es) (put_of c ++ es) (e ∷ with_change c es)) cs) (turned e.0 c.key Less (less (bytes_cmp e.0 c.key) h.0))
    ∙ laid-above e (with_change c es) cs (lower e.0 c.key cs h.0 h.1)

-- what a change puts stays in front where the others come after it
laid-put : (c : Change) (es : List Pair) (cs : List Change) → AreRising (Some c.key) cs → laid (put_of c ++ es) cs ≡ put_of c ++ laid es cs
laid-put c es cs h = go c.value
  where
    go : (v : Option (List ℕ)) → laid (pair_of c.key v ++ es) cs ≡ pair_of c.key v ++ laid es cs
    go None = refl
    go (Some v) = laid-above (c.key, v) es cs h

-- so a change leaves what is in front of it, puts, and leaves the others what is behind its key
laid-step : (c : Change) (cs : List Change) (es : List Pair) → AreRising None (c ∷ cs) → laid es (c ∷ cs) ≡ below c.key es ++ (put_of c ++ laid (past c.key (from c.key es)) cs)
laid-step c cs [] h = ap (λ xs. laid xs cs) (sym (append-nil (put_of c))) ∙ laid-put c [] cs h.1
laid-step c cs (e ∷ es) h = go (bytes_cmp e.0 c.key) refl (laid-step c cs es h)
  where
    go : (o : Ordering) → bytes_cmp e.0 c.key ≡ o → laid es (c ∷ cs) ≡ below c.key es ++ (put_of c ++ laid (past c.key (from c.key es)) cs)
        → laid (e ∷ es) (c ∷ cs) ≡ below c.key (e ∷ es) ++ (put_of c ++ laid (past c.key (from c.key (e ∷ es))) cs)
    go Less q ih =
        rw (q, turned e.0 c.key Less q)
        (laid-above e (with_change c es) cs (lower e.0 c.key cs (ap is_lt q) h.1) ∙ ap (λ r. e ∷ r) ih)
    go Equal q ih = rw (q, turned e.0 c.key Equal q) (laid-put c es cs h.1 ∙ ap (λ xs. put_of c ++ laid xs cs) (sym (past-at c.key e es Equal q)))
    go Greater q ih = rw (q, turned e.0 c.key Greater q) (laid-put c (e ∷ es) cs h.1 ∙ ap (λ xs. put_of c ++ laid xs cs) (sym (past-at c.key e es Greater q)))

-- ---- the loop
-- what was made, and what is left, are the pairs after all changes
pub goes_on : (made front now : List Pair) (c : Change) (cs : List Change) (es rest all : List Pair) → AreSorted es → AreRising None (c ∷ cs) → made ++ laid es (c ∷ cs) ≡ all
    → front ≡ made ++ below c.key es → now ≡ front ++ put_of c → rest ≡ past c.key (from c.key es) → now ++ laid rest cs ≡ all
goes_on made front now c cs es rest all s h so_far f n r =
    rw (n, f, r) (append_assoc (made ++ below c.key es) (put_of c) (laid (past c.key (from c.key es)) cs) ∙ append_assoc made (below c.key es) (put_of c ++ laid (past c.key (from c.key es)) cs)
    ∙ ap (λ x. made ++ x) (sym (laid-step c cs es h)) ∙ so_far)

pub still_sorted : (k : List ℕ) (es rest : List Pair) → AreSorted es → rest ≡ past k (from k es) → AreSorted rest
still_sorted k es rest h q = subst AreSorted (sym q) (past-AreSorted k (from k es) (from-AreSorted k es h))

pub from_sorted : (k : List ℕ) (es rest : List Pair) → AreSorted es → rest ≡ from k es → AreSorted rest
from_sorted k es rest h q = subst AreSorted (sym q) (from-AreSorted k es h)

-- ---- values
-- what is in front of a key is not found at it, nor behind it
not_before : (k q : List ℕ) (e : Pair) (es : List Pair) → bytes_cmp e.0 k ≡ Less → is_le (bytes_cmp k q) ≡ true → find bytes_cmp q (e ∷ es) ≡ find bytes_cmp q es
not_before k q e es h l =
    let o : bytes_cmp e.0 q ≡ Less = go (bytes_cmp k q) refl l in
    let g : bytes_cmp q e.0 ≡ Greater = turned e.0 q Less o in
    rw g refl
  where
    go : (o : Ordering) → bytes_cmp k q ≡ o → is_le o ≡ true → bytes_cmp e.0 q ≡ Less
    go Less o l = nat_list_cmp_total.trans e.0 k q h o
    go Equal o l = ap (bytes_cmp e.0) (sym (tied_equal k q o)) ∙ h
    go Greater o l = absurd cc

pub find-from : (k q : List ℕ) (es : List Pair) → is_le (bytes_cmp k q) ≡ true → find bytes_cmp q (from k es) ≡ find bytes_cmp q es
find-from k q [] l = refl
find-from k q (e ∷ es) l = go (bytes_cmp e.0 k) refl (find-from k q es l)
  where
    go : (o : Ordering) → bytes_cmp e.0 k ≡ o → find bytes_cmp q (from k es) ≡ find bytes_cmp q es → find bytes_cmp q (from k (e ∷ es)) ≡ find bytes_cmp q (e ∷ es)
    go Less o ih = ap (λ o. find bytes_cmp q (cond (is_lt o) (from k es) (e ∷ es))) o ∙ ih ∙ sym (not_before k q e es o l)
    go Equal o ih = ap (λ o. find bytes_cmp q (cond (is_lt o) (from k es) (e ∷ es))) o
    go Greater o ih = ap (λ o. find bytes_cmp q (cond (is_lt o) (from k es) (e ∷ es))) o

-- of pairs that are all behind a key none is found at it
none_above : (k : List ℕ) (es : List Pair) → AllByRecursion (λ (f : Pair). bytes_cmp k f.0 ≡ Less) es → find bytes_cmp k es ≡ None
none_above k [] h = refl
none_above k (e ∷ es) h = let l : bytes_cmp k e.0 ≡ Less = h.0 in rw l (none_above k es h.1)

-- the value at a key is that of the first pair from it on
pub value_in_front-find : (k : List ℕ) (es : List Pair) → AreSorted es → value_in_front k (from k es) ≡ find bytes_cmp k es
value_in_front-find k [] h = refl
value_in_front-find k (e ∷ es) h = go (bytes_cmp e.0 k) refl (value_in_front-find k es h.1)
  where
    above : (xs : List Pair) → bytes_cmp k e.0 ≡ Less → AllByRecursion (λ (f : Pair). bytes_cmp e.0 f.0 ≡ Less) xs → AllByRecursion (λ (f : Pair). bytes_cmp k f.0 ≡ Less) xs
    above [] l h = tt
    above (x ∷ xs) l h = (nat_list_cmp_total.trans k e.0 x.0 l h.0, above xs l h.1)

    go : (o : Ordering) → bytes_cmp e.0 k ≡ o → value_in_front k (from k es) ≡ find bytes_cmp k es → value_in_front k (from k (e ∷ es)) ≡ find bytes_cmp k (e ∷ es)
    go Less o ih = rw (o, turned e.0 k Less o) ih
    go Equal o ih = rw (o, turned e.0 k Equal o) (value_in_front-at k e es Equal o)
    go Greater o ih = rw (o, turned e.0 k Greater o) (value_in_front-at k e es Greater o ∙ sym (none_above k es (above es (turned e.0 k Greater o) h.0)))

-- ---- changes in their order
-- changes from any one on are in order
pub rising_drop : (last : Option (List ℕ)) (cs : List Change) (i : ℕ) → AreRising last cs → AreRising None (drop i cs)
rising_drop last [] zero h = tt
rising_drop last [] (suc i) h = tt
rising_drop last (c ∷ cs) zero h = (refl, h.1)
rising_drop last (c ∷ cs) (suc i) h = rising_drop (Some c.key) cs i h.1

-- a change that comes later has a greater key
after_all : (k : List ℕ) (cs : List Change) → AreRising (Some k) cs → (d : Change) → Member cs d → bytes_cmp k d.key ≡ Less
after_all k (c ∷ cs) h d (inl e) = ap (λ (c : Change). bytes_cmp k c.key) (sym e) ∙ less (bytes_cmp k c.key) h.0
after_all k (c ∷ cs) h d (inr n) = after_all k cs (lower k c.key cs h.0 h.1) d n
after_all k [] h d n = absurd n

-- the later changes find in the pairs from a key on what they find in all
pub same_later : (c : Change) (cs : List Change) (local es rest : List Pair) → AreRising None (c ∷ cs) → rest ≡ from c.key es
    → ((d : Change) → Member (c ∷ cs) d → find bytes_cmp d.key es ≡ find bytes_cmp d.key local) → (d : Change) → Member cs d → find bytes_cmp d.key rest ≡ find bytes_cmp d.key local
same_later c cs local es rest h q same d n =
    ap (find bytes_cmp d.key) q ∙ find-from c.key d.key es (ap is_le (after_all c.key cs h.1 d n)) ∙ same d (inr n)

-- whether a change is idle, by the value at its key
pub idle_told : (c : Change) (local es rest : List Pair) (value : Option (List ℕ)) (result : Bool) → AreSorted es → rest ≡ from c.key es → find bytes_cmp c.key es ≡ find bytes_cmp c.key local
    → value ≡ value_in_front c.key rest → result ≡ same_value value c.value → is_idle_in local c ≡ result
idle_told c local es rest value result h q same v r =
    ap (λ v. same_value v c.value) (sym same ∙ sym (value_in_front-find c.key es h) ∙ ap (value_in_front c.key) (sym q) ∙ sym v) ∙ sym r

-- ---- what the code finds
whole : (es : List Pair) → take (length es) es ≡ es
whole [] = refl
whole (e ∷ es) = ap (λ r. e ∷ r) (whole es)

-- values that compare the same are the same
pub values_compare : (r : Bool) (a b : Option (List ℕ)) (x y : List ℕ) → r ≡ pointwise nat_eq x y → a ≡ Some x → b ≡ Some y → r ≡ same_value a b
values_compare r a b x y h p q = h ∙ texts_ties x y ∙ sym (ap (λ a. same_value a b) p ∙ ap (same_value (Some x)) q)

-- what a list answers as its first pair
pub first_is : (es : List Pair) (o : Option Pair) (x : Pair) → o ≡ slice_get es 0 → o ≡ Some x → (1 ≤ length es) × (x ≡ get_or es 0 x)
first_is [] o x p q = absurd (let e : None ≡ Some x = sym p ∙ q in cc)
first_is (y ∷ ys) o x p q = let e : Some y ≡ Some x = sym p ∙ q in (omega arith, (let s : x ≡ y = cc in s))

module _ (es : List Pair) (x : Pair) (k a : List ℕ) (r : Bool) (some : 1 ≤ length es) (at : x ≡ get_or es 0 x) (key : a ≡ x.0) (test : r ≡ pointwise nat_eq a k) where
  same_front : same_bytes x.0 k ≡ r
  same_front = ap (λ a. same_bytes a k) (sym key) ∙ sym (texts_ties a k) ∙ sym test

  -- the key is that of the first pair
  pub past_first : r ≡ true → take (length es - 1) (drop 1 es) ≡ past k es
  past_first t = go es some at
    where
      go : (es : List Pair) → 1 ≤ length es → x ≡ get_or es 0 x → take (length es - 1) (drop 1 es) ≡ past k es
      go [] l e = absurd (omega (arith, l))
      go (y ∷ ys) l e =
          let n : length (y ∷ ys) - 1 ≡ length ys = omega arith in
          ap (λ n. take n ys) n ∙ whole ys ∙ sym (ap (λ b. cond b ys (y ∷ ys)) (ap (λ (e : Pair). same_bytes e.0 k) (sym e) ∙ same_front ∙ t))

  pub value_first : r ≡ true → (v : List ℕ) → v ≡ x.1 → Some v ≡ value_in_front k es
  value_first t v q = go es some at
    where
      go : (es : List Pair) → 1 ≤ length es → x ≡ get_or es 0 x → Some v ≡ value_in_front k es
      go [] l e = absurd (omega (arith, l))
      go (y ∷ ys) l e =
          ap Some (q ∙ ap (λ (e : Pair). e.1) e) ∙ sym (ap (λ b. cond b (Some y.1) None) (ap (λ (e : Pair). same_bytes e.0 k) (sym e) ∙ same_front ∙ t))

  -- it is not
  pub past_none : r ≡ false → es ≡ past k es
  past_none t = go es some at
    where
      go : (es : List Pair) → 1 ≤ length es → x ≡ get_or es 0 x → es ≡ past k es
      go [] l e = refl
      go (y ∷ ys) l e = sym (ap (λ b. cond b ys (y ∷ ys)) (ap (λ (e : Pair). same_bytes e.0 k) (sym e) ∙ same_front ∙ t))

  pub value_none : r ≡ false → None ≡ value_in_front k es
  value_none t = go es some at
    where
      go : (es : List Pair) → 1 ≤ length es → x ≡ get_or es 0 x → None ≡ value_in_front k es
      go [] l e = refl
      go (y ∷ ys) l e = sym (ap (λ b. cond b (Some y.1) None) (ap (λ (e : Pair). same_bytes e.0 k) (sym e) ∙ same_front ∙ t))

-- ---- the loops, by the place of a change
module _ (cs : List Change) (i : ℕ) (c : Change) (rises : AreRising None cs) (some : i < length cs) (at : c ≡ get_or cs i c) where
  parts : drop i cs ≡ c ∷ drop (i + 1) cs
  parts = drop-cons cs i c some ∙ (λ j. sym at j ∷ drop (sym (add-one i) j) cs)

  rises_here : AreRising None (c ∷ drop (i + 1) cs)
  rises_here = subst (AreRising None) parts (rising_drop None cs i rises)

  module _ (local es rest : List Pair) (k : List ℕ) (sorted : AreSorted es) (key : k ≡ c.key) (from_is : rest ≡ from k es)
      (none : first_place (is_idle_in local) 0 cs ≡ first_place (is_idle_in local) i (drop i cs))
      (same : (d : Change) → Member (drop i cs) d → find bytes_cmp d.key es ≡ find bytes_cmp d.key local)
      (r : Bool) (told : r ≡ same_value (value_in_front c.key rest) c.value) where
    from_here : rest ≡ from c.key es
    from_here = from_is ∙ ap (λ k. from k es) key

    same_here : (d : Change) → Member (c ∷ drop (i + 1) cs) d → find bytes_cmp d.key es ≡ find bytes_cmp d.key local
    same_here d n = same d (subst (λ xs. Member xs d) (sym parts) n)

    idle_here : is_idle_in local c ≡ r
    idle_here = idle_told c local es rest (value_in_front c.key rest) r sorted from_here (same_here c (inl refl)) refl told

    tested : first_place (is_idle_in local) 0 cs ≡ cond r (Some i) (first_place (is_idle_in local) (suc i) (drop (i + 1) cs))
    tested =
        none ∙ ap (first_place (is_idle_in local) i) parts
        ∙ ap (λ b. cond b (Some i) (first_place (is_idle_in local) (suc i) (drop (i + 1) cs))) idle_here

    pub idle_found : r ≡ true → Some i ≡ first_place (is_idle_in local) 0 cs
    idle_found t = sym (tested ∙ ap (λ b. cond b (Some i) (first_place (is_idle_in local) (suc i) (drop (i + 1) cs))) t)

    pub idle_passed : r ≡ false → first_place (is_idle_in local) 0 cs ≡ first_place (is_idle_in local) (i + 1) (drop (i + 1) cs)
    idle_passed t =
        tested ∙ ap (λ b. cond b (Some i) (first_place (is_idle_in local) (suc i) (drop (i + 1) cs))) t
        ∙ ap (λ n. first_place (is_idle_in local) n (drop (i + 1) cs)) (sym (add-one i))

    pub later_same : (d : Change) → Member (drop (i + 1) cs) d → find bytes_cmp d.key rest ≡ find bytes_cmp d.key local
    later_same = same_later c (drop (i + 1) cs) local es rest rises_here from_here same_here

    pub rest_sorted : AreSorted rest
    rest_sorted = from_sorted k es rest sorted from_is

  -- one change more is laid
  pub laid_more : (made front now : List Pair) (k j : List ℕ) (es mid rest all : List Pair) → AreSorted es → made ++ laid es (drop i cs) ≡ all → k ≡ c.key → j ≡ c.key
      → front ≡ made ++ below k es → mid ≡ from k es → now ≡ front ++ put_of c → rest ≡ past j mid → (now ++ laid rest (drop (i + 1) cs) ≡ all) × AreSorted rest
  laid_more made front now k j es mid rest all s so_far p q f m n r =
      let behind : rest ≡ past c.key (from c.key es) = r ∙ ap (λ j. past j mid) q ∙ ap (past c.key) (m ∙ ap (λ k. from k es) p) in
      (goes_on made front now c (drop (i + 1) cs) es rest all s rises_here (ap (λ xs. made ++ laid es xs) (sym parts) ∙ so_far) (f ∙ ap (λ k. made ++ below k es) p) n behind, still_sorted c.key es rest s behind)
