-- The pairs of a range of a source, one after another.
use Rattle.std.proofs.Common.{◌≡◌, ℕ, zero, ◌<◌, ◌≤◌, Bool, true, false, cond, List, [], ◌∷◌, ◌++◌, length, refl, sym, ap, ◌∙◌, subst, arith, ◌⊎◌, inl, inr, Option, Some, None, Ordering, Less, Equal, Greater, append_assoc, append-nil}
use Rattle.std.specs.Prelude.{IfSome}
use Rattle.std.specs.FinMap.{get}
use Rattle.std.specs.List.{filter, AllByRecursion}
use Rattle.std.specs.Ordering.{is_le}
use Rattle.std.specs.Cmp.{tied_itself}
use Rattle.std.proofs.lemmas.Cmp.{nat_list_cmp_total}
use Rattle.base_model.specs.Bytes.{bytes_cmp}
use Rattle.base_model.specs.Member.{Member}
use Rattle.trie_model.specs.Maps.{Map}
use Rattle.trie_model.proofs.KeySets.{All-of}
use Rattle.trie_model.proofs.Lists.{All-member, All-weaker, Member-filter-in, filter-filter, filter_shrinks}
use Rattle.trie_model.proofs.PartsOfValues.{All-append}
use Rattle.range_model.specs.Ranges.{Range, holds}
use Rattle.trie_items.specs.Sources.{is_ahead, next_key, map_keys}
use Rattle.proof_model.specs.Proofs.{Pair}
use Rattle.proof_model.specs.RangeProofs.{pairs_in}
use Rattle.proof_model.specs.SoundProofs.{AreSorted}
use Rattle.proof_model.proofs.TrueClaims.{le-through}
use Rattle.proof_model.proofs.TruePoints.{turned}
use Rattle.range_proof.specs.TakenKeys.{in_range, least_of}
use Rattle.range_proof.proofs.KeysInRange.{first_key, first_of_map, next_of_map, value_of_map}

-- ---- of a map that is told
-- some of all pairs are listed, and the first key of the rest is known
pub record OnListing (m : Map) (r : Range) (so_far : List Pair) (next : Option (List ℕ)) : Type 0 where
  pub rest : List Pair
  pub parts : pairs_in m r ≡ so_far ++ rest
  pub ahead : next ≡ first_key rest

module _ (m : Map) (r : Range) where
  pub starts : (ks : List (List ℕ)) (from : List ℕ) (next : Option (List ℕ)) (so_far : List Pair) → ks ≡ map_keys m → from ≡ least_of r.start → next ≡ in_range r (next_key false from ks) → so_far ≡ [] → OnListing m r so_far next
  starts ks from next so_far e f q s = rw s (record { rest = pairs_in m r; parts = refl; ahead = q ∙ first_of_map m r ks from e f })

  pub ends : (so_far : List Pair) (next : Option (List ℕ)) → next ≡ None → OnListing m r so_far next → so_far ≡ pairs_in m r
  ends so_far next e t = sym (t.parts ∙ ap (λ r. so_far ++ r) (no_key t.rest (sym e ∙ t.ahead)) ∙ append-nil so_far)
    where
      no_key : (rest : List Pair) → None ≡ first_key rest → rest ≡ []
      no_key [] e = refl
      no_key (e ∷ es) q = absurd cc

  module _ (so_far : List Pair) (next : Option (List ℕ)) (key : List ℕ) (here : next ≡ Some key) (t : OnListing m r so_far next) (got : Option (List ℕ)) (found : got ≡ get m key) where
    -- the key has a value
    has_value : (rest : List Pair) → t.rest ≡ rest → (x : Pair) × (xs : List Pair) × (rest ≡ x ∷ xs) × (x.0 ≡ key) × (got ≡ Some x.1)
    has_value [] e = absurd (let k : Some key ≡ None = sym here ∙ t.ahead ∙ ap first_key e in cc)
    has_value (x ∷ xs) e =
        let k : Some key ≡ Some x.0 = sym here ∙ t.ahead ∙ ap first_key e in
        let same : x.0 ≡ key = cc in
        let v = value_of_map m r so_far xs x (t.parts ∙ ap (λ r. so_far ++ r) e) in
        (x, xs, refl, same, found ∙ sym (ap (get m) same) ∙ v)

    pub never_none : got ≡ None → ⊥
    never_none e = let h = has_value t.rest refl in let v = h.4 in cc

    -- so where its pair was added to the others, the listing goes on
    pub steps : (value : List ℕ) (ks : List (List ℕ)) (after : Option (List ℕ)) (now : List Pair) → got ≡ Some value → ks ≡ map_keys m → after ≡ in_range r (next_key true key ks) → now ≡ so_far ++ (key, value) ∷ [] → OnListing m r now after
    steps value ks after now e q a p =
        let h = has_value t.rest refl in
        let v : Some h.0.1 ≡ Some value = sym h.4 ∙ e in
        let w : h.0.1 ≡ value = cc in
        let k = h.3 in
        let pair : h.0 ≡ (key, value) = λ i. (k i, w i) in
        let parts : pairs_in m r ≡ so_far ++ (key, value) ∷ h.1 = t.parts ∙ ap (λ r. so_far ++ r) (h.2 ∙ ap (λ (x : Pair). x ∷ h.1) pair) in
        rw p (record { rest = h.1; parts = parts ∙ sym (append_assoc so_far ((key, value) ∷ []) h.1); ahead = a ∙ next_of_map m r so_far h.1 (key, value) parts ks q })

-- ---- of any source
-- what is found of keys
next_key-of : (past : Bool) (from : List ℕ) (ks : List (List ℕ)) (k : List ℕ) → next_key past from ks ≡ Some k → Member ks k × (is_ahead past (bytes_cmp from k) ≡ true)
next_key-of past from [] k e = absurd cc
next_key-of past from (x ∷ ks) k e = go (is_ahead past (bytes_cmp from x)) refl e (next_key-of past from ks k)
  where
    go : (b : Bool) → is_ahead past (bytes_cmp from x) ≡ b → cond b (Some x) (next_key past from ks) ≡ Some k → (next_key past from ks ≡ Some k → Member ks k × (is_ahead past (bytes_cmp from k) ≡ true)) → Member (x ∷ ks) k × (is_ahead past (bytes_cmp from k) ≡ true)
    go true q e ih = let s : x ≡ k = cc in (inl s, subst (λ k. is_ahead past (bytes_cmp from k) ≡ true) s q)
    go false q e ih = let h = ih e in (inr h.0, h.1)

in_range-of : (r : Range) (o : Option (List ℕ)) (k : List ℕ) → in_range r o ≡ Some k → (o ≡ Some k) × (holds r k ≡ true)
in_range-of r None k e = absurd cc
in_range-of r (Some x) k e = go (holds r x) refl e
  where
    go : (b : Bool) → holds r x ≡ b → cond b (Some x) None ≡ Some k → (Some x ≡ Some k) × (holds r k ≡ true)
    go true q e = let s : x ≡ k = cc in (e, subst (λ k. holds r k ≡ true) s q)
    go false q e = absurd cc

past_less : (o : Ordering) → is_ahead true o ≡ true → o ≡ Less
past_less Less e = refl
past_less Equal e = absurd cc
past_less Greater e = absurd cc

-- the next key is one of a source, in the range, and above all that are listed
pub record IsNext (r : Range) (ks : List (List ℕ)) (so_far : List Pair) (k : List ℕ) : Type 0 where
  pub there : Member ks k
  pub inside : holds r k ≡ true
  pub above : AllByRecursion (λ (e : Pair). bytes_cmp e.0 k ≡ Less) so_far

-- pairs in order in a range, and what comes next
pub record InOrder (r : Range) (ks : List (List ℕ)) (so_far : List Pair) (next : Option (List ℕ)) : Type 0 where
  pub sorted : AreSorted so_far
  pub inside : AllByRecursion (λ (e : Pair). holds r e.0 ≡ true) so_far
  pub follows : IfSome next (IsNext r ks so_far)

sorted_then : (es : List Pair) (e : Pair) → AreSorted es → AllByRecursion (λ (f : Pair). bytes_cmp f.0 e.0 ≡ Less) es → AreSorted (es ++ e ∷ [])
sorted_then [] e h a = (tt, tt)
sorted_then (x ∷ es) e h a = (All-append (λ (f : Pair). bytes_cmp x.0 f.0 ≡ Less) es (e ∷ []) h.0 (a.0, tt), sorted_then es e h.1 a.1)

module _ (r : Range) (ks : List (List ℕ)) where
  pub starts_in_order : (past : Bool) (from : List ℕ) (next : Option (List ℕ)) (so_far : List Pair) → next ≡ in_range r (next_key past from ks) → so_far ≡ [] → InOrder r ks so_far next
  starts_in_order past from next so_far q s = rw s (record { sorted = tt; inside = tt; follows = go next q })
    where
      go : (o : Option (List ℕ)) → o ≡ in_range r (next_key past from ks) → IfSome o (IsNext r ks [])
      go None q = tt
      go (Some k) q =
          let x = in_range-of r (next_key past from ks) k (sym q) in
          record { there = (next_key-of past from ks k x.0).0; inside = x.1; above = tt }

  next_is : (so_far : List Pair) (o : Option (List ℕ)) (k : List ℕ) → o ≡ Some k → IfSome o (IsNext r ks so_far) → IsNext r ks so_far k
  next_is so_far o k e h = subst (λ o. IfSome o (IsNext r ks so_far)) e h

  module _ (so_far : List Pair) (next : Option (List ℕ)) (key : List ℕ) (here : next ≡ Some key) (h : InOrder r ks so_far next) (after : Option (List ℕ)) (follows : after ≡ in_range r (next_key true key ks)) where
    pub steps_in_order : (value : List ℕ) (now : List Pair) → now ≡ so_far ++ (key, value) ∷ [] → InOrder r ks now after
    steps_in_order value now p =
        let k = next_is so_far next key here h.follows in
        rw p (record {
          sorted = sorted_then so_far (key, value) h.sorted k.above;
          inside = All-append (λ (e : Pair). holds r e.0 ≡ true) so_far ((key, value) ∷ []) h.inside (k.inside, tt);
          follows = go after follows;
        })
      where
        go : (o : Option (List ℕ)) → o ≡ in_range r (next_key true key ks) → IfSome o (IsNext r ks (so_far ++ (key, value) ∷ []))
        go None q = tt
        go (Some n) q =
            let x = in_range-of r (next_key true key ks) n (sym q) in
            let y = next_key-of true key ks n x.0 in
            let l = past_less (bytes_cmp key n) y.1 in
            let k = next_is so_far next key here h.follows in
            record {
              there = y.0;
              inside = x.1;
              above = All-append (λ (e : Pair). bytes_cmp e.0 n ≡ Less) so_far ((key, value) ∷ []) (All-weaker (λ (e : Pair). bytes_cmp e.0 key ≡ Less) (λ (e : Pair). bytes_cmp e.0 n ≡ Less) so_far (λ e a. nat_list_cmp_total.trans e.0 key n a l) k.above) (l, tt);
            }

-- ---- how many keys are left
abbrev is_left : List ℕ → List ℕ → Bool
is_left k q = is_le (bytes_cmp k q)

abbrev pub left : List (List ℕ) → Option (List ℕ) → ℕ
left ks None = 0
left ks (Some k) = length (filter (is_left k) ks)

-- one less behind a key
pub fewer : (r : Range) (ks : List (List ℕ)) (so_far : List Pair) (next after : Option (List ℕ)) (key : List ℕ) → next ≡ Some key → InOrder r ks so_far next → after ≡ in_range r (next_key true key ks) → left ks after < left ks next
fewer r ks so_far next after key here h follows = subst (λ o. left ks after < left ks o) (sym here) (go after follows)
  where
    there : Member (filter (is_left key) ks) key
    there = Member-filter-in (is_left key) ks key (next_is r ks so_far next key here h.follows).there (ap is_le (tied_itself nat_list_cmp_total key))

    some : (xs : List (List ℕ)) → Member xs key → 0 < length xs
    some [] n = absurd n
    some (x ∷ xs) n = omega arith

    go : (o : Option (List ℕ)) → o ≡ in_range r (next_key true key ks) → left ks o < length (filter (is_left key) ks)
    go None q = some (filter (is_left key) ks) there
    go (Some n) q =
        let x = in_range-of r (next_key true key ks) n (sym q) in
        let l = past_less (bytes_cmp key n) (next_key-of true key ks n x.0).1 in
        let same = filter-filter (is_left n) (is_left key) ks (λ q t. le-through key n q (ap is_le l) t) in
        subst (λ xs. length xs < length (filter (is_left key) ks)) same
        (elim (filter_shrinks (is_left n) (filter (is_left key) ks)) [
          | inl s ↦ s
          | inr s ↦
              let t : is_le (bytes_cmp n key) ≡ true = All-member (λ q. is_left n q ≡ true) (filter (is_left key) ks) key s.0 there in
              let g : bytes_cmp n key ≡ Greater = turned key n Less l in
              absurd (let f = sym t ∙ ap is_le g in cc)
        ])
