-- The keys of a map in a range, one after another.
use Rattle.std.proofs.Common.{◌≡◌, ℕ, Bool, true, false, cond, ◌&&◌, List, [], ◌∷◌, ◌++◌, map, refl, sym, ap, ◌∙◌, subst, inl, Option, Some, None, Ordering, Less, Equal, Greater}
use Rattle.std.specs.List.{filter, AllByRecursion}
use Rattle.std.specs.Ordering.{is_le}
use Rattle.std.specs.Cmp.{tied_itself}
use Rattle.std.specs.FinMap.{entries, get}
use Rattle.std.proofs.lemmas.Cmp.{nat_list_cmp_total}
use Rattle.base_model.specs.Bytes.{bytes_cmp}
use Rattle.base_model.specs.Member.{Member}
use Rattle.trie_model.specs.Maps.{Map}
use Rattle.trie_model.proofs.Entries.{entries-IsAscending, get_of_member}
use Rattle.trie_model.proofs.Lists.{All-weaker, Member-append-right, Member-filter-of}
use Rattle.range_model.specs.Ranges.{Range, holds, is_from, is_up_to}
use Rattle.trie_items.specs.Sources.{is_ahead, next_key, map_keys}
use Rattle.proof_model.specs.Proofs.{Pair}
use Rattle.proof_model.specs.RangeProofs.{pairs_in}
use Rattle.proof_model.specs.SoundProofs.{AreSorted}
use Rattle.proof_model.proofs.SortedPairs.{head_below, AreSorted-IsAscending}
use Rattle.proof_model.proofs.TrueClaims.{le-through, up_to-through}
use Rattle.proof_model.proofs.TruePoints.{turned}
use Rattle.range_proof.specs.TakenKeys.{in_range, least_of}

-- the key of the first of some pairs
abbrev pub first_key : List Pair → Option (List ℕ)
first_key [] = None
first_key (e ∷ es) = Some e.0

abbrev keys : List Pair → List (List ℕ)
keys es = map (λ (e : Pair). e.0) es

-- what follows a key from the start on is from the start on
from_through : (o : Option (List ℕ)) (a b : List ℕ) → is_from o a ≡ true → bytes_cmp a b ≡ Less → is_from o b ≡ true
from_through None a b p h = refl
from_through (Some s) a b p h = le-through s a b p (ap is_le h)

-- what follows a key above the end is above the end
above_through : (o : Option (List ℕ)) (a b : List ℕ) → is_up_to o a ≡ false → bytes_cmp a b ≡ Less → is_up_to o b ≡ false
above_through o a b p h = go (is_up_to o b) refl
  where
    go : (t : Bool) → is_up_to o b ≡ t → is_up_to o b ≡ false
    go true q = absurd (let s = up_to-through o a b (ap is_le h) q in cc)
    go false q = q

-- the first of keys that are all above a key
first_above : (k : List ℕ) (es : List Pair) → AllByRecursion (λ (f : Pair). bytes_cmp k f.0 ≡ Less) es → next_key true k (keys es) ≡ first_key es
first_above k [] h = refl
first_above k (f ∷ es) h = rw (h.0) refl

-- what the search starts from is at most the keys from the start on, and above the others
least_is : (o : Option (List ℕ)) (k : List ℕ) → is_ahead false (bytes_cmp (least_of o) k) ≡ is_from o k
least_is None [] = refl
least_is None (x ∷ k) = refl
least_is (Some a) k = go (bytes_cmp a k)
  where
    go : (o : Ordering) → is_ahead false o ≡ is_le o
    go Less = refl
    go Equal = refl
    go Greater = refl

module _ (r : Range) where
  abbrev lies : Pair → Bool
  lies e = holds r e.0

  -- a pair in front of the start, or behind the end, is left out
  left_out : (a b : Bool) (e : Pair) (es : List Pair) → (a && b) ≡ false → cond (a && b) (e ∷ es) es ≡ es
  left_out a b e es h = rw h refl

  before_start : (e : Pair) (es : List Pair) → is_from r.start e.0 ≡ false → filter lies (e ∷ es) ≡ filter lies es
  before_start e es p = left_out (is_from r.start e.0) (is_up_to r.end e.0) e (filter lies es) (rw p refl)

  behind_end : (a b : Bool) → b ≡ false → (a && b) ≡ false
  behind_end true b h = h
  behind_end false b h = refl

  -- behind a key above the end there is none
  none_behind : (e : Pair) (es : List Pair) → AllByRecursion (λ (f : Pair). bytes_cmp e.0 f.0 ≡ Less) es → is_up_to r.end e.0 ≡ false → filter lies es ≡ []
  none_behind e [] h p = refl
  none_behind e (f ∷ es) h p =
      left_out (is_from r.start f.0) (is_up_to r.end f.0) f (filter lies es) (behind_end (is_from r.start f.0) (is_up_to r.end f.0) (above_through r.end e.0 f.0 p h.0))
      ∙ none_behind e es h.1 p

  -- of keys from the start on, the first one lies in the range, or none does
  first_inside : (es : List Pair) → AllByRecursion (λ (f : Pair). is_from r.start f.0 ≡ true) es → AreSorted es → in_range r (first_key es) ≡ first_key (filter lies es)
  first_inside [] a h = refl
  first_inside (e ∷ es) a h = go (is_from r.start e.0) (is_up_to r.end e.0) a.0 refl
    where
      go : (a b : Bool) → a ≡ true → is_up_to r.end e.0 ≡ b → cond (a && b) (Some e.0) None ≡ first_key (cond (a && b) (e ∷ filter lies es) (filter lies es))
      go true true p q = refl
      go true false p q = ap first_key (sym (none_behind e es h.0 q))
      go false b p q = absurd cc

  all_from : (e : Pair) (es : List Pair) → is_from r.start e.0 ≡ true → AllByRecursion (λ (f : Pair). bytes_cmp e.0 f.0 ≡ Less) es → AllByRecursion (λ (f : Pair). is_from r.start f.0 ≡ true) es
  all_from e es p h = All-weaker (λ (f : Pair). bytes_cmp e.0 f.0 ≡ Less) (λ (f : Pair). is_from r.start f.0 ≡ true) es (λ f k. from_through r.start e.0 f.0 p k) h

  -- the first key of the range
  first_found : (from : List ℕ) → ((k : List ℕ) → is_ahead false (bytes_cmp from k) ≡ is_from r.start k) → (es : List Pair) → AreSorted es → in_range r (next_key false from (keys es)) ≡ first_key (filter lies es)
  first_found from same [] h = refl
  first_found from same (e ∷ es) h = go (is_from r.start e.0) refl (first_found from same es h.1)
    where
      ahead : (a : Bool) → is_from r.start e.0 ≡ a → in_range r (next_key false from (keys (e ∷ es))) ≡ in_range r (cond a (Some e.0) (next_key false from (keys es)))
      ahead a p = ap (λ b. in_range r (cond b (Some e.0) (next_key false from (keys es)))) (same e.0 ∙ p)

      go : (a : Bool) → is_from r.start e.0 ≡ a → in_range r (next_key false from (keys es)) ≡ first_key (filter lies es) → in_range r (next_key false from (keys (e ∷ es))) ≡ first_key (filter lies (e ∷ es))
      go true p ih = ahead true p ∙ first_inside (e ∷ es) (p, all_from e es p h.0) h
      go false p ih = ahead false p ∙ ih ∙ ap first_key (sym (before_start e es p))

  -- the key behind one of the range
  next_found : (es : List Pair) → AreSorted es → (front rest : List Pair) (e : Pair) → filter lies es ≡ front ++ e ∷ rest → in_range r (next_key true e.0 (keys es)) ≡ first_key rest
  next_found [] h front rest e q = absurd (nothing front q)
    where
      nothing : (front : List Pair) → [] ≡ front ++ e ∷ rest → ⊥
      nothing [] q = cc
      nothing (f ∷ fs) q = cc
  next_found (x ∷ es) h front rest e q = go (holds r x.0) refl front q (next_found es h.1)
    where
      there : (fs : List Pair) → filter lies es ≡ fs ++ e ∷ rest → Member es e
      there fs s = (Member-filter-of lies es e (subst (λ l. Member l e) (sym s) (Member-append-right fs (e ∷ rest) e (inl refl)))).0

      skipped : (k : List ℕ) → is_ahead true (bytes_cmp k x.0) ≡ false → in_range r (next_key true k (keys (x ∷ es))) ≡ in_range r (next_key true k (keys es))
      skipped k p = ap (λ b. in_range r (cond b (Some x.0) (next_key true k (keys es)))) p

      below : (fs : List Pair) → filter lies es ≡ fs ++ e ∷ rest → is_ahead true (bytes_cmp e.0 x.0) ≡ false
      below fs s = ap (is_ahead true) (turned x.0 e.0 Less (head_below x es e h (there fs s)))

      from_start : (a b : Bool) → (a && b) ≡ true → a ≡ true
      from_start true b p = refl
      from_start false b p = absurd cc

      at_head : holds r x.0 ≡ true → x ≡ e → filter lies es ≡ rest → in_range r (next_key true e.0 (keys (x ∷ es))) ≡ first_key rest
      at_head p s t =
          let here : in_range r (next_key true x.0 (keys (x ∷ es))) ≡ first_key (filter lies es) =
          skipped x.0 (ap (is_ahead true) (tied_itself nat_list_cmp_total x.0))
          ∙ ap (in_range r) (first_above x.0 es h.0)
          ∙ first_inside es (all_from x es (from_start (is_from r.start x.0) (is_up_to r.end x.0) p) h.0) h.1
          in subst (λ (e : Pair). in_range r (next_key true e.0 (keys (x ∷ es))) ≡ first_key rest) s (here ∙ ap first_key t)

      go : (b : Bool) → holds r x.0 ≡ b → (front : List Pair) → cond b (x ∷ filter lies es) (filter lies es) ≡ front ++ e ∷ rest
          → ((front rest : List Pair) (e : Pair) → filter lies es ≡ front ++ e ∷ rest → in_range r (next_key true e.0 (keys es)) ≡ first_key rest)
          → in_range r (next_key true e.0 (keys (x ∷ es))) ≡ first_key rest
      go true p [] q ih = at_head p (let s : x ≡ e = cc in s) (let t : filter lies es ≡ rest = cc in t)
      go true p (f ∷ fs) q ih = let s : filter lies es ≡ fs ++ e ∷ rest = cc in skipped e.0 (below fs s) ∙ ih fs rest e s
      go false p front q ih = skipped e.0 (below front q) ∙ ih front rest e q

-- ---- maps
module _ (m : Map) (r : Range) where
  entries-AreSorted : AreSorted (entries m)
  entries-AreSorted = AreSorted-IsAscending (entries m) (entries-IsAscending m)

  pub first_of_map : (ks : List (List ℕ)) (from : List ℕ) → ks ≡ map_keys m → from ≡ least_of r.start → in_range r (next_key false from ks) ≡ first_key (pairs_in m r)
  first_of_map ks from e f = rw (e, f) (first_found r (least_of r.start) (least_is r.start) (entries m) entries-AreSorted)

  module _ (front rest : List Pair) (e : Pair) (parts : pairs_in m r ≡ front ++ e ∷ rest) where
    pub next_of_map : (ks : List (List ℕ)) → ks ≡ map_keys m → in_range r (next_key true e.0 ks) ≡ first_key rest
    next_of_map ks q = rw q (next_found r (entries m) entries-AreSorted front rest e parts)

    pub value_of_map : get m e.0 ≡ Some e.1
    value_of_map =
        get_of_member m e.0 e.1 (Member-filter-of (λ (e : Pair). holds r e.0) (entries m) e (subst (λ l. Member l e) (sym parts) (Member-append-right front (e ∷ rest) e (inl refl)))).0
