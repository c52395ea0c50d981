-- Pairs of a range of a map, taken one after another.
use Rattle.std.proofs.Common.{◌≡◌, ℕ, zero, suc, ◌+◌, ◌-◌, ◌<◌, ◌≤◌, Bool, true, false, cond, ltb, List, [], ◌∷◌, ◌++◌, length, refl, sym, ap, ◌∙◌, arith, Option, Some, None, append_assoc, append-nil, length-append}
use Rattle.std.specs.FinMap.{get}
use Rattle.std.proofs.lemmas.Bool.Decides.{nat_tests}
use Rattle.trie_model.specs.Maps.{Map}
use Rattle.range_model.specs.Ranges.{Range}
use Rattle.trie_items.specs.Sources.{next_key, map_keys}
use Rattle.proof_model.specs.Proofs.{Pair, pair_size}
use Rattle.proof_model.specs.RangeProofs.{pairs_in}
use Rattle.proof_model.specs.TakenEntries.{taken, taken_behind}
use Rattle.range_proof.specs.TakenKeys.{IsTaken, in_range, least_of, is_taken}
use Rattle.range_proof.proofs.KeysInRange.{first_key, first_of_map, next_of_map, value_of_map}

-- what is taken of the rest, behind pairs that have used some bytes
abbrev pub more : ℕ → ℕ → ℕ → List Pair → List Pair → List Pair
more n z used [] rest = taken pair_size n z rest
more n z used (e ∷ es) rest = taken_behind pair_size (n - length (e ∷ es)) z used rest

-- some of all pairs are taken, and then what more is taken of the rest; its first key is known
pub record OnTaking (n z : ℕ) (all so_far : List Pair) (used : ℕ) (next : Option (List ℕ)) : Type 0 where
  pub rest : List Pair
  pub parts : all ≡ so_far ++ rest
  pub ahead : next ≡ first_key rest
  pub whole : so_far ++ more n z used so_far rest ≡ taken pair_size n z all

-- ---- tests of lengths
same_length : (n : ℕ) → ltb n n ≡ false
same_length n = grind (arith, nat_tests)

less_length : (a b : ℕ) → a < b → ltb a b ≡ true
less_length a b h = grind (arith, nat_tests)

-- ---- the end
nothing_more : (n z used : ℕ) (so_far : List Pair) → more n z used so_far [] ≡ []
unfolding taken
nothing_more n z used [] = refl
nothing_more n z used (e ∷ es) = refl

module _ (n z : ℕ) (all so_far : List Pair) where
  -- where nothing remains, nothing is cut
  ended : (used : ℕ) (rest : List Pair) → rest ≡ [] → all ≡ so_far ++ rest → so_far ++ more n z used so_far rest ≡ taken pair_size n z all → IsTaken n z all so_far false
  ended used rest e p q =
      let got : so_far ≡ taken pair_size n z all = sym (append-nil so_far) ∙ ap (λ r. so_far ++ r) (sym (ap (more n z used so_far) e ∙ nothing_more n z used so_far)) ∙ q in
      let same : all ≡ so_far = p ∙ ap (λ r. so_far ++ r) e ∙ append-nil so_far in
      record { listed = got; known = sym (ap (λ (t : List Pair). ltb (length t) (length all)) (sym got) ∙ ap (λ (a : List Pair). ltb (length so_far) (length a)) same ∙ same_length (length so_far)) }

  -- where something remains of which nothing is taken, pairs are cut
  cut_off : (used : ℕ) (rest : List Pair) → 0 < length rest → more n z used so_far rest ≡ [] → all ≡ so_far ++ rest → so_far ++ more n z used so_far rest ≡ taken pair_size n z all → IsTaken n z all so_far true
  cut_off used rest l e p q =
      let got : so_far ≡ taken pair_size n z all = sym (append-nil so_far) ∙ ap (λ r. so_far ++ r) (sym e) ∙ q in
      let size : length all ≡ length so_far + length rest = ap length p ∙ length-append so_far rest in
      record { listed = got; known = sym (ap (λ (t : List Pair). ltb (length t) (length all)) (sym got) ∙ less_length (length so_far) (length all) (omega (arith, size, l))) }

no_key : (rest : List Pair) → None ≡ first_key rest → rest ≡ []
no_key [] e = refl
no_key (e ∷ es) q = absurd cc

a_key : (rest : List Pair) (k : List ℕ) → Some k ≡ first_key rest → 0 < length rest
a_key [] k e = absurd cc
a_key (e ∷ es) k q = omega arith

-- where as many pairs are taken as are allowed, no more are
full : (n z used : ℕ) (so_far rest : List Pair) → 1 ≤ n → n ≤ length so_far → more n z used so_far rest ≡ []
full n z used [] rest p l = absurd (omega arith)
full n z used (e ∷ es) rest p l = ap (λ i. taken_behind pair_size i z used rest) (let h : n - length (e ∷ es) ≡ 0 = omega (arith, l) in h) ∙ none rest
  where
    none : (rest : List Pair) → taken_behind pair_size 0 z used rest ≡ []
    none [] = refl
    none (x ∷ xs) = refl

-- where a pair has no room, nothing is taken from it on
no_room : (n z used : ℕ) (so_far : List Pair) (x : Pair) (xs : List Pair) → is_taken so_far used (pair_size x) z ≡ false → more n z used so_far (x ∷ xs) ≡ []
no_room n z used [] x xs h = absurd cc
no_room n z used (e ∷ es) x xs h = none (n - length (e ∷ es))
  where
    none : (i : ℕ) → taken_behind pair_size i z used (x ∷ xs) ≡ []
    none zero = refl
    none (suc i) = rw h refl

-- and where it has, it is taken
one_more : (n z used : ℕ) (so_far : List Pair) (x : Pair) (xs : List Pair) → length so_far < n → (so_far ≡ [] → used ≡ 0) → is_taken so_far used (pair_size x) z ≡ true
    → more n z used so_far (x ∷ xs) ≡ x ∷ more n z (used + pair_size x) (so_far ++ x ∷ []) xs
unfolding taken
one_more n z used [] x xs l f h =
    let u : used ≡ 0 = f refl in
    ap (λ u. x ∷ taken_behind pair_size (n - 1) z u xs) (let e : pair_size x ≡ used + pair_size x = omega arith in e)
one_more n z used (e ∷ es) x xs l f h =
    let size : length (es ++ x ∷ []) ≡ length es + 1 = length-append es (x ∷ []) in
    ap (λ i. taken_behind pair_size i z used (x ∷ xs)) (let d : n - length (e ∷ es) ≡ suc (n - length (e ∷ (es ++ x ∷ []))) = omega (arith, size, l) in d)
    ∙ ap (λ b. cond b (x ∷ taken_behind pair_size (n - length (e ∷ (es ++ x ∷ []))) z (used + pair_size x) xs) []) h

-- ---- in a map
module _ (n z : ℕ) (m : Map) (r : Range) where
  pub starts : (ks : List (List ℕ)) (from : List ℕ) (next : Option (List ℕ)) (so_far : List Pair) (used : ℕ) → ks ≡ map_keys m → from ≡ least_of r.start → next ≡ in_range r (next_key false from ks) → so_far ≡ [] → used ≡ 0
      → OnTaking n z (pairs_in m r) so_far used next
  starts ks from next so_far used e f q s u =
      rw (s, u) (record { rest = pairs_in m r; parts = refl; ahead = q ∙ first_of_map m r ks from e f; whole = refl })

  pub ends : (so_far : List Pair) (used : ℕ) (next : Option (List ℕ)) → next ≡ None → OnTaking n z (pairs_in m r) so_far used next → IsTaken n z (pairs_in m r) so_far false
  ends so_far used next e t = ended n z (pairs_in m r) so_far used t.rest (no_key t.rest (sym e ∙ t.ahead)) t.parts t.whole

  pub ends_full : (so_far : List Pair) (used : ℕ) (next : Option (List ℕ)) (key : List ℕ) → next ≡ Some key → 1 ≤ n → n ≤ length so_far → OnTaking n z (pairs_in m r) so_far used next → IsTaken n z (pairs_in m r) so_far true
  ends_full so_far used next key e p l t =
      cut_off n z (pairs_in m r) so_far used t.rest (a_key t.rest key (sym e ∙ t.ahead)) (full n z used so_far t.rest p l) t.parts t.whole

  module _ (so_far : List Pair) (used : ℕ) (next : Option (List ℕ)) (key : List ℕ) (here : next ≡ Some key) (t : OnTaking n z (pairs_in m r) so_far used next) (got : Option (List ℕ)) (found : got ≡ get m key) where
    -- the key has a value
    has_value : (rest : List Pair) → t.rest ≡ rest → (x : Pair) × (xs : List Pair) × (rest ≡ x ∷ xs) × (x.0 ≡ key) × (got ≡ Some x.1)
    has_value [] e = absurd (let k : Some key ≡ None = sym here ∙ t.ahead ∙ ap first_key e in cc)
    has_value (x ∷ xs) e =
        let k : Some key ≡ Some x.0 = sym here ∙ t.ahead ∙ ap first_key e in
        let same : x.0 ≡ key = cc in
        let v = value_of_map m r so_far xs x (t.parts ∙ ap (λ r. so_far ++ r) e) in
        (x, xs, refl, same, found ∙ sym (ap (get m) same) ∙ v)

    pub never_none : got ≡ None → ⊥
    never_none e = let h = has_value t.rest refl in let v = h.4 in cc

    -- so the pair is the first of the rest
    first_pair : (value : List ℕ) → got ≡ Some value → (xs : List Pair) × (t.rest ≡ (key, value) ∷ xs)
    first_pair value e =
        let h = has_value t.rest refl in
        let v : Some h.0.1 ≡ Some value = sym h.4 ∙ e in
        let w : h.0.1 ≡ value = cc in
        let k = h.3 in
        let pair : h.0 ≡ (key, value) = λ i. (k i, w i) in
        (h.1, h.2 ∙ ap (λ (x : Pair). x ∷ h.1) pair)

    pub ends_behind : (value : List ℕ) → got ≡ Some value → is_taken so_far used (pair_size (key, value)) z ≡ false → IsTaken n z (pairs_in m r) so_far true
    ends_behind value e h =
        let x = first_pair value e in
        cut_off n z (pairs_in m r) so_far used t.rest (a_key t.rest key (sym here ∙ t.ahead)) (ap (more n z used so_far) x.1 ∙ no_room n z used so_far (key, value) x.0 h) t.parts t.whole

    pub steps : (value : List ℕ) (ks : List (List ℕ)) (after : Option (List ℕ)) → got ≡ Some value → length so_far < n → (so_far ≡ [] → used ≡ 0) → is_taken so_far used (pair_size (key, value)) z ≡ true
        → ks ≡ map_keys m → after ≡ in_range r (next_key true key ks) → OnTaking n z (pairs_in m r) (so_far ++ (key, value) ∷ []) (used + pair_size (key, value)) after
    steps value ks after e l f h q a =
        let x = first_pair value e in
        let here_parts : pairs_in m r ≡ so_far ++ (key, value) ∷ x.0 = t.parts ∙ ap (λ r. so_far ++ r) x.1 in
        record {
          rest = x.0;
          parts = here_parts ∙ sym (append_assoc so_far ((key, value) ∷ []) x.0);
          ahead = a ∙ next_of_map m r so_far x.0 (key, value) here_parts ks q;
          whole =
              append_assoc so_far ((key, value) ∷ []) (more n z (used + pair_size (key, value)) (so_far ++ (key, value) ∷ []) x.0)
              ∙ ap (λ r. so_far ++ r) (sym (one_more n z used so_far (key, value) x.0 l f h))
              ∙ ap (λ r. so_far ++ more n z used so_far r) (sym x.1)
              ∙ t.whole;
        }

    -- so where a pair was added to the others, and its size to the bytes
    pub steps_to : (value : List ℕ) (ks : List (List ℕ)) (after : Option (List ℕ)) (now : List Pair) (size : ℕ) → got ≡ Some value → length so_far < n → (so_far ≡ [] → used ≡ 0) → is_taken so_far used (pair_size (key, value)) z ≡ true
        → ks ≡ map_keys m → after ≡ in_range r (next_key true key ks) → now ≡ so_far ++ (key, value) ∷ [] → size ≡ pair_size (key, value) → OnTaking n z (pairs_in m r) now (used + size) after
    steps_to value ks after now size e l f h q a p s = rw (p, s) (steps value ks after e l f h q a)

-- a list with a pair at its end is not empty
pub never_empty : (now so_far : List Pair) (e : Pair) → now ≡ so_far ++ e ∷ [] → now ≡ [] → ⊥
never_empty now so_far e p q = let l = ap length (sym q ∙ p) ∙ length-append so_far (e ∷ []) in absurd (omega arith)

-- what the test of a pair answers
pub tested : (others so_far : List Pair) (used size z : ℕ) (e : Pair) (result b : Bool) → result ≡ is_taken others used size z → others ≡ so_far → size ≡ pair_size e → result ≡ b → is_taken so_far used (pair_size e) z ≡ b
tested others so_far used size z e result b h o q k =
    ap (λ (t : List Pair). is_taken t used (pair_size e) z) (sym o) ∙ ap (λ s. is_taken others used s z) (sym q) ∙ sym h ∙ k

pub sized : (a b key value : List ℕ) (size : ℕ) → size ≡ pair_size (a, b) → a ≡ key → b ≡ value → size ≡ pair_size (key, value)
sized a b key value size h p q = h ∙ ap (λ a. pair_size (a, b)) p ∙ ap (λ b. pair_size (key, b)) q
