-- Pairs in the order of their keys, the last of them, and the range that they tell of.
use Rattle.std.proofs.Common.{◌≡◌, ℕ, ◌≤◌, Bool, true, false, List, [], ◌∷◌, ◌++◌, length, refl, ap, ◌∙◌, subst, ◌⊎◌, inl, inr, Option, Some, None, Less}
use Rattle.std.specs.Ordering.{is_le}
use Rattle.std.specs.Cmp.{tied_itself}
use Rattle.std.proofs.lemmas.Cmp.{nat_list_cmp_total}
use Rattle.base_model.specs.Bytes.{AreBytes, bytes_cmp}
use Rattle.base_model.specs.Member.{Member}
use Rattle.trie_model.specs.Maps.{Limits}
use Rattle.trie_model.proofs.KeySets.{All-of}
use Rattle.trie_model.proofs.Lists.{Member-append-left, Member-append-right}
use Rattle.range_model.specs.Ranges.{Range, IsRange, holds, is_from, is_up_to, are_in_order, bound_limit}
use Rattle.proof_model.specs.Proofs.{Pair}
use Rattle.proof_model.specs.RangeProofs.{keys_of, reached_range}
use Rattle.proof_model.specs.SoundProofs.{AreSorted}
use Rattle.proof_model.specs.TakenEntries.{last_key, end_or}
use Rattle.proof_model.proofs.SortedPairs.{head_below}
use Rattle.proof_model.proofs.TrueClaims.{both}

-- ---- the last pair
-- there is none, or one that no key is above
pub data Last (es : List Pair) : Type 0 where
  none : es ≡ [] → last_key (keys_of es) ≡ None → Last es
  one : (e : Pair) → Member es e → last_key (keys_of es) ≡ Some e.0 → ((f : Pair) → Member es f → is_le (bytes_cmp f.0 e.0) ≡ true) → Last es

pub last_of : (es : List Pair) → AreSorted es → Last es
last_of [] h = none refl refl
last_of (e ∷ []) h = one e (inl refl) refl (λ f m. elim m [
  | inl p ↦ subst (λ (f : Pair). is_le (bytes_cmp f.0 e.0) ≡ true) p (ap is_le (tied_itself nat_list_cmp_total e.0))
  | inr n ↦ absurd n
])
last_of (e ∷ f ∷ es) h = go (last_of (f ∷ es) h.1)
  where
    go : Last (f ∷ es) → Last (e ∷ f ∷ es)
    go (none p q) = absurd cc
    go (one g m q u) = one g (inr m) q (λ x n. elim n [
      | inl p ↦ subst (λ (x : Pair). is_le (bytes_cmp x.0 g.0) ≡ true) p (ap is_le (head_below e (f ∷ es) g h m))
      | inr k ↦ u x k
    ])

-- ---- pairs in two parts
-- the front of sorted pairs is sorted, and below all that follow
pub AreSorted-front : (es fs : List Pair) → AreSorted (es ++ fs) → AreSorted es × ((e f : Pair) → Member es e → Member fs f → bytes_cmp e.0 f.0 ≡ Less)
AreSorted-front [] fs h = (tt, λ e f m n. absurd m)
AreSorted-front (x ∷ es) fs h = go (AreSorted-front es fs h.1)
  where
    go : AreSorted es × ((e f : Pair) → Member es e → Member fs f → bytes_cmp e.0 f.0 ≡ Less) → AreSorted (x ∷ es) × ((e f : Pair) → Member (x ∷ es) e → Member fs f → bytes_cmp e.0 f.0 ≡ Less)
    go ih = (
      (All-of (λ (f : Pair). bytes_cmp x.0 f.0 ≡ Less) es (λ f m. head_below x (es ++ fs) f h (Member-append-left es fs f m)), ih.0),
      λ e f m n. elim m [
        | inl p ↦ subst (λ (e : Pair). bytes_cmp e.0 f.0 ≡ Less) p (head_below x (es ++ fs) f h (Member-append-right es fs f n))
        | inr k ↦ ih.1 e f k n
      ],
    )

-- ---- the range that pairs tell of
-- all of the range, or its front up to the last pair
pub data Reach (r : Range) (cut : Bool) (es : List Pair) : Type 0 where
  whole : reached_range r cut es ≡ r → Reach r cut es
  up_to : (e : Pair) → Member es e → ((f : Pair) → Member es f → is_le (bytes_cmp f.0 e.0) ≡ true) → reached_range r cut es ≡ end_or (Some e.0) r → Reach r cut es

pub reach_of : (r : Range) (cut : Bool) (es : List Pair) → AreSorted es → Reach r cut es
reach_of r false es h = whole refl
reach_of r true es h = go (last_of es h)
  where
    go : Last es → Reach r true es
    go (none p q) = whole (ap (λ o. end_or o r) q)
    go (one e m q u) = up_to e m u (ap (λ o. end_or o r) q)

-- pairs that are not cut, and no pairs, tell of all of it
pub all_reached : (r : Range) (cut : Bool) (es : List Pair) → (cut ≡ false) ⊎ (es ≡ []) → reached_range r cut es ≡ r
all_reached r cut es (inl e) = ap (λ c. reached_range r c es) e
all_reached r cut es (inr e) = ap (reached_range r cut) e ∙ nothing cut
  where
    nothing : (cut : Bool) → reached_range r cut [] ≡ r
    nothing true = refl
    nothing false = refl

-- a range up to a key of it is a range
pub up_to-IsRange : (l : Limits) (r : Range) (last : List ℕ) → IsRange l r → AreBytes last → length last ≤ bound_limit l → holds r last ≡ true → IsRange l (end_or (Some last) r)
up_to-IsRange l r last fits bytes short inside = record {
  start_bytes = fits.start_bytes;
  end_bytes = bytes;
  start_short = fits.start_short;
  end_short = short;
  order = from r.start (both (is_from r.start last) (is_up_to r.end last) inside).0;
}
  where
    from : (o : Option (List ℕ)) → is_from o last ≡ true → are_in_order o (Some last) ≡ true
    from None e = refl
    from (Some a) e = e

-- what lies in a range and is at most a key lies in the range up to it
pub holds-up_to : (r : Range) (key last : List ℕ) → holds r key ≡ true → is_le (bytes_cmp key last) ≡ true → holds (end_or (Some last) r) key ≡ true
holds-up_to r key last inside below = rw ((both (is_from r.start key) (is_up_to r.end key) inside).0, below) refl
