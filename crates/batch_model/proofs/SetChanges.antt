-- A change that is set among others: what stands then, and what it makes of a map.
use Rattle.std.proofs.Common.{◌≡◌, ℕ, Bool, true, false, cond, List, [], ◌∷◌, refl, sym, ap, ◌∙◌, subst, Option, Some, None, Ordering, Less, Equal, Greater}
use Rattle.std.specs.List.{AllByRecursion}
use Rattle.std.specs.Ordering.{is_lt, is_eq, eq_by_cmp, ordering_reverse, match_ordering}
use Rattle.std.specs.Cmp.{tied_itself}
use Rattle.std.specs.FinMap.{get, get-insert, get-remove}
use Rattle.std.proofs.lemmas.Cmp.{nat_list_cmp_total}
use Rattle.base_model.specs.Bytes.{bytes_cmp}
use Rattle.trie_model.specs.Maps.{Limits, Map}
use Rattle.trie_model.proofs.Entries.{tied_equal, same_by_gets}
use Rattle.batch_model.specs.Batch.{Change, IsChange, AreRising, comes_after, set_change, put_or_removed, after_batch}
use Rattle.batch_model.specs.Laws.{SetChangesKeepBatches, SetChangesCountLast}

-- ---- the order

pub less : (o : Ordering) → is_lt o ≡ true → o ≡ Less
less Less h = refl
less Equal h = absurd (cc)
less Greater h = absurd (cc)

-- a key below one that comes before a third comes before the third
pub before : (a b c : List ℕ) → comes_after (Some a) b ≡ true → comes_after (Some b) c ≡ true → comes_after (Some a) c ≡ true
before a b c p q = ap is_lt (nat_list_cmp_total.trans a b c (less (bytes_cmp a b) p) (less (bytes_cmp b c) q))

-- the keys that come after one come after each below it
pub lower : (a b : List ℕ) (cs : List Change) → comes_after (Some a) b ≡ true → AreRising (Some b) cs → AreRising (Some a) cs
lower a b [] p h = tt
lower a b (c ∷ cs) p h = (before a b c.key p h.0, h.1)

-- a key above another comes after it
pub above : (a b : List ℕ) → bytes_cmp a b ≡ Greater → comes_after (Some b) a ≡ true
above a b e = ap is_lt (nat_list_cmp_total.antisymm b a ∙ ap ordering_reverse e)

-- ---- what stands

kept : (l : Limits) (cs : List Change) (c : Change) → IsChange l c → AllByRecursion (IsChange l) cs → AllByRecursion (IsChange l) (set_change cs c)
kept l [] c p h = (p, tt)
kept l (x ∷ xs) c p h = go (bytes_cmp c.key x.key) (kept l xs c p h.1)
  where
    go : (o : Ordering) → AllByRecursion (IsChange l) (set_change xs c) → AllByRecursion (IsChange l) (match_ordering o (c ∷ x ∷ xs) (c ∷ xs) (x ∷ set_change xs c))
    go Less ih = (p, h)
    go Equal ih = (p, h.1)
    go Greater ih = (h.0, ih)

rising : (last : Option (List ℕ)) (cs : List Change) (c : Change) → comes_after last c.key ≡ true → AreRising last cs → AreRising last (set_change cs c)
rising last [] c p h = (p, tt)
rising last (x ∷ xs) c p h = go (bytes_cmp c.key x.key) refl (rising (Some x.key) xs c)
  where
    go : (o : Ordering) → bytes_cmp c.key x.key ≡ o → (comes_after (Some x.key) c.key ≡ true → AreRising (Some x.key) xs → AreRising (Some x.key) (set_change xs c)) → AreRising last (match_ordering o (c ∷ x ∷ xs) (c ∷ xs) (x ∷ set_change xs c))
    go Less e ih = (p, (ap is_lt e, h.1))
    go Equal e ih = (p, subst (λ k. AreRising (Some k) xs) (sym (tied_equal c.key x.key e)) h.1)
    go Greater e ih = (h.0, ih (above c.key x.key e) h.1)

pub set_changes_keep_batches : SetChangesKeepBatches
set_changes_keep_batches l cs c p h r = (kept l cs c p h, rising None cs c refl r)

-- ---- what it makes of a map

-- the answer at a key after one change
pub get_changed : (m : Map) (k : List ℕ) (v : Option (List ℕ)) (q : List ℕ) → get (put_or_removed m k v) q ≡ cond (eq_by_cmp bytes_cmp q k) v (get m q)
get_changed m k None q = get-remove nat_list_cmp_total m k q
get_changed m k (Some v) q = get-insert nat_list_cmp_total m k v q

shadowed : {A : Type 0} (b : Bool) (x y z : A) → cond b x (cond b y z) ≡ cond b x z
shadowed true x y z = refl
shadowed false x y z = refl

-- a change undoes an earlier one on its key
put_or_removed-again : (m : Map) (k : List ℕ) (v w : Option (List ℕ)) → put_or_removed (put_or_removed m k v) k w ≡ put_or_removed m k w
put_or_removed-again m k v w = same_by_gets (put_or_removed (put_or_removed m k v) k w) (put_or_removed m k w) (λ q.
    get_changed (put_or_removed m k v) k w q
    ∙ ap (λ o. cond (eq_by_cmp bytes_cmp q k) w o) (get_changed m k v q)
    ∙ shadowed (eq_by_cmp bytes_cmp q k) w v (get m q)
    ∙ sym (get_changed m k w q))

-- changes on two keys commute
put_or_removed-other : (m : Map) (j k : List ℕ) (v w : Option (List ℕ)) → comes_after (Some j) k ≡ true → put_or_removed (put_or_removed m j v) k w ≡ put_or_removed (put_or_removed m k w) j v
put_or_removed-other m j k v w apart = same_by_gets (put_or_removed (put_or_removed m j v) k w) (put_or_removed (put_or_removed m k w) j v) (λ q.
    get_changed (put_or_removed m j v) k w q
    ∙ ap (λ o. cond (eq_by_cmp bytes_cmp q k) w o) (get_changed m j v q)
    ∙ swapped q (eq_by_cmp bytes_cmp q j) (eq_by_cmp bytes_cmp q k) refl refl
    ∙ sym (get_changed (put_or_removed m k w) j v q ∙ ap (λ o. cond (eq_by_cmp bytes_cmp q j) v o) (get_changed m k w q)))
  where
    equal : (o : Ordering) → is_eq o ≡ true → o ≡ Equal
    equal Less h = absurd (cc)
    equal Equal h = refl
    equal Greater h = absurd (cc)

    both : (q : List ℕ) → eq_by_cmp bytes_cmp q j ≡ true → eq_by_cmp bytes_cmp q k ≡ true → ⊥
    both q a b =
        let s : j ≡ k = sym (tied_equal q j (equal (bytes_cmp q j) a)) ∙ tied_equal q k (equal (bytes_cmp q k) b) in
        let e : bytes_cmp j k ≡ Less = less (bytes_cmp j k) apart in
        let f : bytes_cmp j k ≡ Equal = ap (bytes_cmp j) (sym s) ∙ tied_itself nat_list_cmp_total j in
        cc

    swapped : (q : List ℕ) (a b : Bool) → eq_by_cmp bytes_cmp q j ≡ a → eq_by_cmp bytes_cmp q k ≡ b → cond b w (cond a v (get m q)) ≡ cond a v (cond b w (get m q))
    swapped q true true s t = absurd (both q s t)
    swapped q true false s t = refl
    swapped q false b s t = refl

-- a change on a key below all others may as well be done last
done_last : (m : Map) (k : List ℕ) (v : Option (List ℕ)) (cs : List Change) → AreRising (Some k) cs → after_batch (put_or_removed m k v) cs ≡ put_or_removed (after_batch m cs) k v
done_last m k v [] h = refl
done_last m k v (c ∷ cs) h =
    ap (λ (n : Map). after_batch n cs) (put_or_removed-other m k c.key v c.value h.0)
    ∙ done_last (put_or_removed m c.key c.value) k v cs (lower k c.key cs h.0 h.1)

set_last : (last : Option (List ℕ)) (m : Map) (cs : List Change) (c : Change) → AreRising last cs → after_batch m (set_change cs c) ≡ put_or_removed (after_batch m cs) c.key c.value
set_last last m [] c h = refl
set_last last m (x ∷ xs) c h = go (bytes_cmp c.key x.key) refl (set_last (Some x.key) (put_or_removed m x.key x.value) xs c h.1)
  where
    go : (o : Ordering) → bytes_cmp c.key x.key ≡ o → after_batch (put_or_removed m x.key x.value) (set_change xs c) ≡ put_or_removed (after_batch (put_or_removed m x.key x.value) xs) c.key c.value
        → after_batch m (match_ordering o (c ∷ x ∷ xs) (c ∷ xs) (x ∷ set_change xs c)) ≡ put_or_removed (after_batch (put_or_removed m x.key x.value) xs) c.key c.value
    go Less e ih = done_last m c.key c.value (x ∷ xs) (ap is_lt e, h.1)
    go Equal e ih =
        let s : c.key ≡ x.key = tied_equal c.key x.key e in
        ap (λ (n : Map). after_batch n xs) (sym (put_or_removed-again m c.key x.value c.value) ∙ ap (λ k. put_or_removed (put_or_removed m k x.value) c.key c.value) s)
        ∙ done_last (put_or_removed m x.key x.value) c.key c.value xs (subst (λ k. AreRising (Some k) xs) (sym s) h.1)
    go Greater e ih = ih

pub set_changes_count_last : SetChangesCountLast
set_changes_count_last m cs c h = set_last None m cs c h
