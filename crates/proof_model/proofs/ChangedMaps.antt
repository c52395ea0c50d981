-- What a map has once changes are made, and the pairs that it has in a range.
use Rattle.std.proofs.Common.{◌≡◌, ℕ, Bool, true, false, cond, List, [], ◌∷◌, map, refl, sym, ap, ◌∙◌, subst, ◌⊎◌, inl, inr, Option, Some, None, Ordering, Less, Equal, Greater}
use Rattle.std.specs.FinMap.{entries, get}
use Rattle.std.specs.Cmp.{tied_itself}
use Rattle.std.specs.Ordering.{is_eq, is_lt, eq_by_cmp}
use Rattle.std.proofs.lemmas.Cmp.{nat_list_cmp_total}
use Rattle.base_model.specs.Bytes.{bytes_cmp}
use Rattle.base_model.specs.Member.{Member}
use Rattle.trie_model.specs.Maps.{Map}
use Rattle.trie_model.proofs.Entries.{tied_equal, member_of_get, get_of_member}
use Rattle.trie_model.proofs.Lists.{Member-filter-of, Member-filter-in}
use Rattle.range_model.specs.Ranges.{Range, holds}
use Rattle.batch_model.specs.Batch.{Change, AreRising, comes_after, put_or_removed, after_batch}
use Rattle.batch_model.proofs.SetChanges.{less, before, get_changed}
use Rattle.proof_model.specs.Proofs.{Pair}
use Rattle.proof_model.specs.RangeProofs.{pairs_in}
use Rattle.proof_model.proofs.SortedPairs.{same_pairs}
use Rattle.proof_model.proofs.TrueRanges.{pairs_in-AreSorted}

-- ---- pairs in a range
-- what a map has in a range it answers
pub pairs_in-of : (m : Map) (r : Range) (e : Pair) → Member (pairs_in m r) e → (get m e.0 ≡ Some e.1) × (holds r e.0 ≡ true)
pairs_in-of m r e n = let x = Member-filter-of (λ (e : Pair). holds r e.0) (entries m) e n in (get_of_member m e.0 e.1 x.0, x.1)

-- what it answers in a range it has there
pub pairs_in-in : (m : Map) (r : Range) (e : Pair) → get m e.0 ≡ Some e.1 → holds r e.0 ≡ true → Member (pairs_in m r) e
pairs_in-in m r e g h = Member-filter-in (λ (e : Pair). holds r e.0) (entries m) e (member_of_get m e.0 e.1 g) h

-- maps that answer alike in a range have the same pairs there
pub pairs_in-same : (m n : Map) (r : Range) → ((k : List ℕ) → holds r k ≡ true → get m k ≡ get n k) → pairs_in m r ≡ pairs_in n r
pairs_in-same m n r alike =
    same_pairs (pairs_in m r) (pairs_in n r) (pairs_in-AreSorted m r) (pairs_in-AreSorted n r)
    (λ e k. let x = pairs_in-of m r e k in pairs_in-in n r e (sym (alike e.0 x.1) ∙ x.0) x.1)
    (λ e k. let x = pairs_in-of n r e k in pairs_in-in m r e (alike e.0 x.1 ∙ x.0) x.1)

-- ---- one change
-- a map answers with the change at its key
pub get-at : (m : Map) (k : List ℕ) (v : Option (List ℕ)) → get (put_or_removed m k v) k ≡ v
get-at m k v = get_changed m k v k ∙ ap (λ b. cond b v (get m k)) (ap is_eq (tied_itself nat_list_cmp_total k))

-- and at each other key as before
pub get-beside : (m : Map) (k : List ℕ) (v : Option (List ℕ)) (q : List ℕ) → (q ≡ k → ⊥) → get (put_or_removed m k v) q ≡ get m q
get-beside m k v q apart = get_changed m k v q ∙ go (bytes_cmp q k) refl
  where
    go : (o : Ordering) → bytes_cmp q k ≡ o → cond (eq_by_cmp bytes_cmp q k) v (get m q) ≡ get m q
    go Less e = ap (λ o. cond (is_eq o) v (get m q)) e
    go Greater e = ap (λ o. cond (is_eq o) v (get m q)) e
    go Equal e = absurd (apart (tied_equal q k e))

-- whether a key is that of the change
pub data At (q k : List ℕ) : Type 0 where
  here : q ≡ k → At q k
  apart : (q ≡ k → ⊥) → At q k

pub at_or_apart : (q k : List ℕ) → At q k
at_or_apart q k = go (bytes_cmp q k) refl
  where
    go : (o : Ordering) → bytes_cmp q k ≡ o → At q k
    go Less e = apart (λ s. let t : bytes_cmp q k ≡ Equal = ap (bytes_cmp q) (sym s) ∙ tied_itself nat_list_cmp_total q in cc)
    go Greater e = apart (λ s. let t : bytes_cmp q k ≡ Equal = ap (bytes_cmp q) (sym s) ∙ tied_itself nat_list_cmp_total q in cc)
    go Equal e = here (tied_equal q k e)

-- ---- changes
-- a key that comes after another is another
pub rising_apart : (a b : List ℕ) → comes_after (Some a) b ≡ true → a ≡ b → ⊥
rising_apart a b h s = let e : bytes_cmp a b ≡ Equal = ap (bytes_cmp a) (sym s) ∙ tied_itself nat_list_cmp_total a in let f = less (bytes_cmp a b) h in cc

-- a key that changes come after is none of theirs
not_among : (k : List ℕ) (cs : List Change) → AreRising (Some k) cs → (c : Change) → Member cs c → k ≡ c.key → ⊥
not_among k [] h c n s = n
not_among k (x ∷ cs) h c (inl e) s = rising_apart k x.key h.0 (s ∙ ap (λ (c : Change). c.key) (sym e))
not_among k (x ∷ cs) h c (inr n) s = not_among k cs (weaker cs h.1) c n s
  where
    weaker : (cs : List Change) → AreRising (Some x.key) cs → AreRising (Some k) cs
    weaker [] g = tt
    weaker (y ∷ cs) g = (before k x.key y.key h.0 g.0, g.1)

-- a key that no change is on keeps its value
pub get-unchanged : (m : Map) (cs : List Change) (q : List ℕ) → ((c : Change) → Member cs c → q ≡ c.key → ⊥) → get (after_batch m cs) q ≡ get m q
get-unchanged m [] q none = refl
get-unchanged m (c ∷ cs) q none =
    get-unchanged (put_or_removed m c.key c.value) cs q (λ d n. none d (inr n)) ∙ get-beside m c.key c.value q (none c (inl refl))

-- of changes in their order each gives its key its value
pub get-changed : (last : Option (List ℕ)) (m : Map) (cs : List Change) → AreRising last cs → (c : Change) → Member cs c → get (after_batch m cs) c.key ≡ c.value
get-changed last m [] h c n = absurd n
get-changed last m (x ∷ cs) h c (inl e) =
    let first : get (after_batch m (x ∷ cs)) x.key ≡ x.value = get-unchanged (put_or_removed m x.key x.value) cs x.key (not_among x.key cs h.1) ∙ get-at m x.key x.value in
    subst (λ (c : Change). get (after_batch m (x ∷ cs)) c.key ≡ c.value) e first
get-changed last m (x ∷ cs) h c (inr n) = get-changed (Some x.key) (put_or_removed m x.key x.value) cs h.1 c n

-- a key that a map has after changes is that of one, or it had it before
pub key_after : (m : Map) (cs : List Change) (k v : List ℕ) → get (after_batch m cs) k ≡ Some v → ((c : Change) × Member cs c × (c.key ≡ k)) ⊎ (get m k ≡ Some v)
key_after m [] k v h = inr h
key_after m (c ∷ cs) k v h = elim (key_after (put_or_removed m c.key c.value) cs k v h) [
  | inl x ↦ inl (x.0, inr x.1, x.2)
  | inr g ↦ go (at_or_apart k c.key) g
]
  where
    go : At k c.key → get (put_or_removed m c.key c.value) k ≡ Some v → ((d : Change) × Member (c ∷ cs) d × (d.key ≡ k)) ⊎ (get m k ≡ Some v)
    go (here e) g = inl (c, inl refl, sym e)
    go (apart f) g = inr (sym (get-beside m c.key c.value k f) ∙ g)
