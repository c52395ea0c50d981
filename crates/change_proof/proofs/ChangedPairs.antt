-- Pairs in the order of their keys after one change, and what a map has in a range after it.
use Rattle.std.proofs.Common.{◌≡◌, ℕ, Bool, true, false, cond, List, [], ◌∷◌, ◌++◌, refl, sym, ap, ◌∙◌, subst, ◌⊎◌, inl, inr, Option, Some, None, Ordering, Less, Equal, Greater}
use Rattle.std.specs.FinMap.{entries, get, get-entries, find}
use Rattle.std.specs.FinMap.Entries.{find-where_key}
use Rattle.std.specs.List.{AllByRecursion}
use Rattle.std.specs.Ordering.{match_ordering}
use Rattle.std.specs.Cmp.{tied_itself}
use Rattle.std.proofs.lemmas.Cmp.{nat_list_cmp_total}
use Rattle.base_model.specs.Bytes.{bytes_cmp}
use Rattle.base_model.specs.Member.{Member}
use Rattle.trie_model.specs.Maps.{Map}
use Rattle.trie_model.proofs.Entries.{tied_equal}
use Rattle.trie_model.proofs.KeySets.{All-of, Member-append-of}
use Rattle.trie_model.proofs.Lists.{All-member, Member-append-left, Member-append-right}
use Rattle.range_model.specs.Ranges.{Range, holds}
use Rattle.batch_model.specs.Batch.{Change, put_or_removed, after_batch}
use Rattle.proof_model.specs.Claims.{pair_of}
use Rattle.proof_model.specs.Proofs.{Pair}
use Rattle.proof_model.specs.RangeProofs.{pairs_in}
use Rattle.proof_model.specs.SoundProofs.{AreSorted}
use Rattle.proof_model.proofs.ChangedMaps.{pairs_in-of, pairs_in-in, get-at, get-beside, At, here, apart, at_or_apart}
use Rattle.proof_model.proofs.SortedPairs.{same_pairs, head_below}
use Rattle.proof_model.proofs.TruePoints.{turned}
use Rattle.proof_model.proofs.TrueRanges.{pairs_in-AreSorted}
use Rattle.change_proof.specs.LaidChanges.{put_of, with_change, laid}

abbrev Above : List ℕ → List Pair → Type 0
Above k es = AllByRecursion (λ (f : Pair). bytes_cmp k f.0 ≡ Less) es

-- ---- what a change puts
pub put_of-of : (c : Change) (e : Pair) → Member (put_of c) e → (e.0 ≡ c.key) × (c.value ≡ Some e.1)
put_of-of c e n = go c.value refl n
  where
    go : (v : Option (List ℕ)) → c.value ≡ v → Member (pair_of c.key v) e → (e.0 ≡ c.key) × (c.value ≡ Some e.1)
    go None q n = absurd n
    go (Some v) q (inl p) = (sym (ap (λ (e : Pair). e.0) p), q ∙ ap (λ (e : Pair). Some e.1) p)
    go (Some v) q (inr n) = absurd n

put_of-in : (c : Change) (e : Pair) → e.0 ≡ c.key → c.value ≡ Some e.1 → Member (put_of c) e
put_of-in c e p q = subst (λ v. Member (pair_of c.key v) e) (sym q) (inl (λ i. (sym p i, e.1)))

below_another : (a b k : List ℕ) → a ≡ b → bytes_cmp a k ≡ Less → b ≡ k → ⊥
below_another a b k e h s = let t : bytes_cmp a k ≡ Equal = ap (bytes_cmp a) (sym (e ∙ s)) ∙ tied_itself nat_list_cmp_total a in cc

-- keys above a key are other keys
other_keys : (k : List ℕ) (es : List Pair) (e : Pair) → Above k es → Member es e → e.0 ≡ k → ⊥
other_keys k es e h n s = below_another k k e.0 refl (All-member (λ (f : Pair). bytes_cmp k f.0 ≡ Less) es e h n) (sym s)

-- ---- members
module _ (c : Change) where
  -- a pair after a change is what it puts, or one of another key
  pub with_change-of : (es : List Pair) → AreSorted es → (e : Pair) → Member (with_change c es) e → Member (put_of c) e ⊎ (Member es e × (e.0 ≡ c.key → ⊥))
  with_change-of [] h e n = inl n
  with_change-of (x ∷ es) h e n = go (bytes_cmp c.key x.0) refl (with_change-of es h.1 e) n
    where
      Claim : Type 0
      Claim = Member (put_of c) e ⊎ (Member (x ∷ es) e × (e.0 ≡ c.key → ⊥))

      behind : bytes_cmp c.key x.0 ≡ Less → Member (x ∷ es) e → e.0 ≡ c.key → ⊥
      behind o k s = elim k [
        | inl p ↦ below_another c.key c.key x.0 refl o (sym (ap (λ (e : Pair). e.0) p ∙ s))
        | inr k ↦ below_another c.key c.key e.0 refl (nat_list_cmp_total.trans c.key x.0 e.0 o (head_below x es e h k)) (sym s)
      ]

      go : (o : Ordering) → bytes_cmp c.key x.0 ≡ o → (Member (with_change c es) e → Member (put_of c) e ⊎ (Member es e × (e.0 ≡ c.key → ⊥)))
          → Member (match_ordering o (put_of c ++ x ∷ es) (put_of c ++ es) (x ∷ with_change c es)) e → Member (put_of c) e ⊎ (Member (x ∷ es) e × (e.0 ≡ c.key → ⊥))
      go Less o ih n = elim (Member-append-of (put_of c) (x ∷ es) e n) [ inl k ↦ inl k | inr k ↦ inr (k, behind o k) ]
      go Equal o ih n = elim (Member-append-of (put_of c) es e n) [
        | inl k ↦ inl k
        | inr k ↦ inr (inr k, other_keys c.key es e (subst (λ q. Above q es) (sym (tied_equal c.key x.0 o)) h.0) k)
      ]
      go Greater o ih (inl p) = inr (inl p, λ s. let t : bytes_cmp c.key x.0 ≡ Equal = ap (bytes_cmp c.key) (ap (λ (e : Pair). e.0) p ∙ s) ∙ tied_itself nat_list_cmp_total c.key in cc)
      go Greater o ih (inr k) = elim (ih k) [ inl y ↦ inl y | inr y ↦ inr (inr y.0, y.1) ]

  -- what it puts is there
  pub with_change-puts : (es : List Pair) (e : Pair) → Member (put_of c) e → Member (with_change c es) e
  with_change-puts [] e n = n
  with_change-puts (x ∷ es) e n = go (bytes_cmp c.key x.0) (with_change-puts es e n)
    where
      go : (o : Ordering) → Member (with_change c es) e → Member (match_ordering o (put_of c ++ x ∷ es) (put_of c ++ es) (x ∷ with_change c es)) e
      go Less ih = Member-append-left (put_of c) (x ∷ es) e n
      go Equal ih = Member-append-left (put_of c) es e n
      go Greater ih = inr ih

  -- and so is each pair of another key
  pub with_change-keeps : (es : List Pair) (e : Pair) → Member es e → (e.0 ≡ c.key → ⊥) → Member (with_change c es) e
  with_change-keeps [] e n f = absurd n
  with_change-keeps (x ∷ es) e n f = go (bytes_cmp c.key x.0) refl (λ k. with_change-keeps es e k f) n
    where
      go : (o : Ordering) → bytes_cmp c.key x.0 ≡ o → (Member es e → Member (with_change c es) e) → Member (x ∷ es) e → Member (match_ordering o (put_of c ++ x ∷ es) (put_of c ++ es) (x ∷ with_change c es)) e
      go Less o ih k = Member-append-right (put_of c) (x ∷ es) e k
      go Equal o ih (inl p) = absurd (f (sym (ap (λ (e : Pair). e.0) p) ∙ sym (tied_equal c.key x.0 o)))
      go Equal o ih (inr k) = Member-append-right (put_of c) es e k
      go Greater o ih (inl p) = inl p
      go Greater o ih (inr k) = inr (ih k)

  -- ---- order
  put_above : (k : List ℕ) (es : List Pair) → AreSorted es → Above c.key es → AreSorted (put_of c ++ es)
  put_above k es h a = go c.value
    where
      go : (v : Option (List ℕ)) → AreSorted (pair_of c.key v ++ es)
      go None = h
      go (Some v) = (a, h)

  pub with_change-AreSorted : (es : List Pair) → AreSorted es → AreSorted (with_change c es)
  with_change-AreSorted [] h = go c.value
    where
      go : (v : Option (List ℕ)) → AreSorted (pair_of c.key v)
      go None = tt
      go (Some v) = (tt, tt)
  with_change-AreSorted (x ∷ es) h = go (bytes_cmp c.key x.0) refl (with_change-AreSorted es h.1)
    where
      above : bytes_cmp c.key x.0 ≡ Greater → (e : Pair) → Member (with_change c es) e → bytes_cmp x.0 e.0 ≡ Less
      above o e n = elim (with_change-of es h.1 e n) [
        | inl k ↦ subst (λ q. bytes_cmp x.0 q ≡ Less) (sym (put_of-of c e k).0) (turned c.key x.0 Greater o)
        | inr k ↦ head_below x es e h k.0
      ]

      go : (o : Ordering) → bytes_cmp c.key x.0 ≡ o → AreSorted (with_change c es) → AreSorted (match_ordering o (put_of c ++ x ∷ es) (put_of c ++ es) (x ∷ with_change c es))
      go Less o ih = put_above c.key (x ∷ es) h (o, All-of (λ (f : Pair). bytes_cmp c.key f.0 ≡ Less) es (λ f n. nat_list_cmp_total.trans c.key x.0 f.0 o (head_below x es f h n)))
      go Equal o ih = put_above c.key es h.1 (subst (λ q. Above q es) (sym (tied_equal c.key x.0 o)) h.0)
      go Greater o ih = (All-of (λ (f : Pair). bytes_cmp x.0 f.0 ≡ Less) (with_change c es) (above o), ih)

-- ---- maps
module _ (r : Range) where
  -- the pairs of a map in a range after a change of a key of it
  one_change : (m : Map) (c : Change) → holds r c.key ≡ true → with_change c (pairs_in m r) ≡ pairs_in (put_or_removed m c.key c.value) r
  one_change m c inside =
      let after = put_or_removed m c.key c.value in
      let es = pairs_in m r in
      same_pairs (with_change c es) (pairs_in after r) (with_change-AreSorted c es (pairs_in-AreSorted m r)) (pairs_in-AreSorted after r)
      (λ e n. elim (with_change-of c es (pairs_in-AreSorted m r) e n) [
        | inl k ↦
            let p = put_of-of c e k in
            pairs_in-in after r e (ap (get after) p.0 ∙ get-at m c.key c.value ∙ p.1) (ap (holds r) p.0 ∙ inside)
        | inr k ↦
            let x = pairs_in-of m r e k.0 in
            pairs_in-in after r e (get-beside m c.key c.value e.0 k.1 ∙ x.0) x.1
      ])
      (λ e n. back e (pairs_in-of after r e n) (at_or_apart e.0 c.key))
    where
      back : (e : Pair) → (get (put_or_removed m c.key c.value) e.0 ≡ Some e.1) × (holds r e.0 ≡ true) → At e.0 c.key → Member (with_change c (pairs_in m r)) e
      back e x (here s) = with_change-puts c (pairs_in m r) e (put_of-in c e s (sym (get-at m c.key c.value) ∙ ap (get (put_or_removed m c.key c.value)) (sym s) ∙ x.0))
      back e x (apart f) = with_change-keeps c (pairs_in m r) e (pairs_in-in m r e (sym (get-beside m c.key c.value e.0 f) ∙ x.0) x.1) f

  -- and after all of some changes
  pub laid-pairs_in : (cs : List Change) (m : Map) → AllByRecursion (λ (c : Change). holds r c.key ≡ true) cs → laid (pairs_in m r) cs ≡ pairs_in (after_batch m cs) r
  laid-pairs_in [] m h = refl
  laid-pairs_in (c ∷ cs) m h = ap (λ es. laid es cs) (one_change m c h.0) ∙ laid-pairs_in cs (put_or_removed m c.key c.value) h.1

  -- a key of the range is found among the pairs as in the map
  pub find-pairs_in : (m : Map) (k : List ℕ) → holds r k ≡ true → find bytes_cmp k (pairs_in m r) ≡ get m k
  find-pairs_in m k h =
      find-where_key bytes_cmp (holds r) k (λ x t. ap (holds r) (sym (tied_equal k x t))) (entries m)
      ∙ ap (λ b. cond b (find bytes_cmp k (entries m)) None) h
      ∙ sym (get-entries m k)
