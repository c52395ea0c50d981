-- The node keys that are met on the way down to a key are the keys of its path.
use Rattle.std.proofs.Common.{◌≡◌, ℕ, zero, suc, ◌+◌, ◌-◌, ◌*◌, ◌<◌, ◌≤◌, Less, Bool, true, false, cond, ltb, leb, ◌&&◌, List, [], ◌∷◌, ◌++◌, length, take, refl, sym, ap, ◌∙◌, arith, subst, inl, inr, Option, Some, None}
use Rattle.std.specs.List.{filter}
use Rattle.std.proofs.lemmas.Bool.Decides.{nat_tests}
use Rattle.std.proofs.lemmas.List.{length-take-le}
use Rattle.base_model.specs.Member.{Member}
use Rattle.trie_model.specs.Bits.{is_prefix, key_cmp, IsRising}
use Rattle.trie_model.specs.Table.{shortest}
use Rattle.trie_model.proofs.KeySets.{IsRising-filter}
use Rattle.trie_model.proofs.Lists.{All-member, Member-filter-of, Member-filter-in}
use Rattle.trie_model.proofs.Prefixes.{is_prefix-take, is_prefix-through, length-is_prefix, whole_step}
use Rattle.trie_model.proofs.Rising.{not_after}
use Rattle.proof_model.proofs.PathKeys.{Least, AreNodeKeys, keys_at, keys_in, key_toward, with_key_toward, last_key_of, path_keys, shorter_begins, below_begins, shortest_in, one_key}
use Rattle.proof_model.proofs.PathKeys as keys
use Rattle.point_proof.specs.WaysDown.{goes_on, go_on}

-- the node key toward k below n
abbrev pub next_key_on : ℕ → List (List Bool) → List Bool → List Bool → Option (List Bool)
next_key_on w ks k n = cond (goes_on w k n) (shortest (filter (is_prefix (take (length n + w) k)) ks)) None

-- at most f node keys, from n on toward k
unfoldable pub walk : ℕ → ℕ → List (List Bool) → List Bool → List Bool → List (List Bool)
walk w zero ks k n = []
walk w (suc f) ks k n = n ∷ go_on (next_key_on w ks k n) (walk w f ks k)

abbrev pub first_of : List (List Bool) → Option (List Bool)
first_of [] = None
first_of (k ∷ ks) = Some k

-- the keys on the way behind n
record Behind (ks : List (List Bool)) (k n : List Bool) (ds : List (List Bool)) : Type 0 where
  rises : IsRising ds
  of : (c : List Bool) → Member ds c → Member ks c × (is_prefix c k ≡ true) × (length n < length c)
  each : (c : List Bool) → Member ks c → is_prefix c k ≡ true → length n < length c → Member ds c

longer_test : (a b : ℕ) → ltb a b ≡ false → b ≤ a
longer_test a b h = grind (arith, nat_tests)

shorter_test : (a b : ℕ) → ltb a b ≡ true → a < b
shorter_test a b h = grind (arith, nat_tests)

fits_test : (a b : ℕ) → a ≤ b → leb a b ≡ true
fits_test a b h = grind (arith, nat_tests)

gap_test : (a b : ℕ) → b < a → leb a b ≡ false
gap_test a b h = grind (arith, nat_tests)

module _ (w : ℕ) (ks : List (List Bool)) (v : AreNodeKeys w ks) (k : List Bool) (tall : (n : ℕ) × (length k ≡ w * n)) where
  -- a shorter key of whole tokens is shorter by a token
  step_to : (n c : List Bool) → (a : ℕ) × (length n ≡ w * a) → (b : ℕ) × (length c ≡ w * b) → length n < length c → length n + w ≤ length c
  step_to n c a b l = elim (whole_step w a.0 b.0 (omega (arith, l, a.1, b.1))) [
    | inl e ↦ absurd (omega (arith, e, l, a.1, b.1))
    | inr e ↦ omega (arith, e, a.1, b.1)
  ]

  -- k goes on behind a shorter key that begins it
  goes : (n : List Bool) → is_prefix n k ≡ true → length n + w ≤ length k → goes_on w k n ≡ true
  goes n p l = rw (p, fits_test (length n + w) (length k) l) refl

  -- and not behind one as long, or one that does not begin it
  ends_long : (n : List Bool) → length k ≤ length n → goes_on w k n ≡ false
  ends_long n l = go (is_prefix n k) (leb (length n + w) (length k)) (gap_test (length n + w) (length k) (let p = v.pos in omega arith))
    where
      go : (a b : Bool) → b ≡ false → (a && b) ≡ false
      go true b e = e
      go false b e = refl

  ends_apart : (n : List Bool) → is_prefix n k ≡ false → goes_on w k n ≡ false
  ends_apart n p = rw p refl

  -- the walk stops where k does not go on
  stops : (f : ℕ) (n : List Bool) → goes_on w k n ≡ false → walk w (suc f) ks k n ≡ n ∷ []
  unfolding walk
  stops f n e = ap (λ b. n ∷ go_on (cond b (shortest (filter (is_prefix (take (length n + w) k)) ks)) None) (walk w f ks k)) e

  -- and else has the child toward k next
  moves : (f : ℕ) (n : List Bool) (o : Option (List Bool)) → goes_on w k n ≡ true → shortest (filter (is_prefix (take (length n + w) k)) ks) ≡ o → walk w (suc f) ks k n ≡ n ∷ go_on o (walk w f ks k)
  unfolding walk
  moves f n o e h =
      ap (λ b. n ∷ go_on (cond b (shortest (filter (is_prefix (take (length n + w) k)) ks)) None) (walk w f ks k)) e
      ∙ ap (λ o. n ∷ go_on o (walk w f ks k)) h

  -- the deepest key on the way, and the child toward k below it
  at_last : (f : ℕ) (n : List Bool) → Member ks n → is_prefix n k ≡ true → length k - length n < suc f → Behind ks k n [] → walk w (suc f) ks k n ≡ n ∷ key_toward w k n ks
  at_last f n m p h t = go (ltb (length n) (length k)) refl
    where
      apart : (x : List Bool) (b : Bool) → is_prefix x k ≡ b → Member ks x → length n < length x → is_prefix x k ≡ false
      apart x true e q l = absurd (t.each x q e l)
      apart x false e q l = e

      alone : (g : ℕ) (x : List Bool) → 0 < g → goes_on w k x ≡ false → walk w g ks k x ≡ x ∷ []
      alone zero x l e = absurd (omega arith)
      alone (suc g) x l e = stops g x e

      below : (l : length n + w ≤ length k) (o : Option (List Bool)) → shortest (filter (is_prefix (take (length n + w) k)) ks) ≡ o → n ∷ go_on o (walk w f ks k) ≡ n ∷ keys_at o ks
      below l None e = refl
      below l (Some x) e =
          let s = take (length n + w) k in
          let q = Member-filter-of (is_prefix s) ks x (shortest_in (filter (is_prefix s) ks) x e) in
          let pos = v.pos in
          let long : length n < length x = omega (arith, length-is_prefix s x q.1, length-take-le (length n + w) k l) in
          ap (λ r. n ∷ r) (alone f x (omega arith) (ends_apart x (apart x (is_prefix x k) refl q.0 long)) ∙ sym (one_key x ks v.rises q.0))

      go : (b : Bool) → ltb (length n) (length k) ≡ b → walk w (suc f) ks k n ≡ n ∷ cond b (keys_in (take (length n + w) k) ks) []
      go false e = stops f n (ends_long n (longer_test (length n) (length k) e))
      go true e =
          let l = step_to n k (v.whole n m) tall (shorter_test (length n) (length k) e) in
          moves f n (shortest (filter (is_prefix (take (length n + w) k)) ks)) (goes n p l) refl ∙ below l (shortest (filter (is_prefix (take (length n + w) k)) ks)) refl

  -- the child toward k is the next key on the way, where there is one
  module _ (n d : List Bool) (es : List (List Bool)) (m : Member ks n) (p : is_prefix n k ≡ true) (t : Behind ks k n (d ∷ es)) where
    room : length n + w ≤ length k
    room = let q = t.of d (inl refl) in let l = length-is_prefix d k q.1 in step_to n k (v.whole n m) tall (omega (arith, l, q.2))

    next_is : shortest (filter (is_prefix (take (length n + w) k)) ks) ≡ Some d
    next_is =
        let s = take (length n + w) k in
        let q = t.of d (inl refl) in
        let whole = v.whole n m in
        let size = length-take-le (length n + w) k room in
        let far = step_to n d whole (v.whole d q.0) q.2 in
        let begins = shorter_begins s d k (is_prefix-take (length n + w) k) q.1 (omega (arith, size, far)) in
        let x = v.least (suc whole.0) s d (omega (arith, size, whole.1)) q.0 begins in
        let short = x.each d q.0 begins in
        let pos = v.pos in
        let there = t.each x.key x.member (is_prefix-through x.key d k short q.1) (omega (arith, length-is_prefix s x.key x.begins, size)) in
        x.found ∙ ap Some (same x.key short there)
      where
        same : (x : List Bool) → is_prefix x d ≡ true → Member (d ∷ es) x → x ≡ d
        same x b (inl e) = sym e
        same x b (inr i) = absurd (not_after x d b (All-member (λ c. key_cmp d c ≡ Less) es x t.rises.0 i))

    behind_next : Behind ks k d es
    behind_next = record { rises = t.rises.1; of = of; each = each }
      where
        of : (c : List Bool) → Member es c → Member ks c × (is_prefix c k ≡ true) × (length d < length c)
        of c i =
            let q = t.of c (inr i) in
            (q.0, q.1, (below_begins d c k (t.of d (inl refl)).1 q.1 (All-member (λ c. key_cmp d c ≡ Less) es c t.rises.0 i)).1)

        each : (c : List Bool) → Member ks c → is_prefix c k ≡ true → length d < length c → Member es c
        each c i b l = elim (t.each c i b (let q = (t.of d (inl refl)).2 in omega arith)) [
          | inl e ↦ absurd (let f = ap length e in omega arith)
          | inr j ↦ j
        ]

  -- from a key on the way the walk has the keys behind it, and then the child toward k of the last
  walked : (f : ℕ) (n : List Bool) (ds : List (List Bool)) → Member ks n → is_prefix n k ≡ true → length k - length n < f → Behind ks k n ds → walk w f ks k n ≡ n ∷ (ds ++ key_toward w k (last_key_of n ds) ks)
  walked zero n ds m p h t = absurd (omega arith)
  walked (suc f) n [] m p h t = at_last f n m p h t
  walked (suc f) n (d ∷ es) m p h t =
      let q = t.of d (inl refl) in
      let l = length-is_prefix d k q.1 in
      moves f n (Some d) (goes n p (room n d es m p t)) (next_is n d es m p t)
      ∙ ap (λ r. n ∷ r) (walked f d es q.0 q.1 (omega (arith, l, q.2, h)) (behind_next n d es m p t))

  -- from the first of all on it is the path
  pub walked_whole : go_on (first_of ks) (walk w (suc (length k)) ks k) ≡ path_keys w k ks
  unfolding path_keys
  walked_whole = go (keys.way k ks) refl
    where
      on_way : (c : List Bool) (ds : List (List Bool)) → keys.way k ks ≡ c ∷ ds → (x : List Bool) → Member (c ∷ ds) x → Member ks x × (is_prefix x k ≡ true)
      on_way c ds e x m = Member-filter-of (λ c. is_prefix c k) ks x (subst (λ l. Member l x) (sym e) m)

      risen : (c : List Bool) (ds : List (List Bool)) → keys.way k ks ≡ c ∷ ds → IsRising (c ∷ ds)
      risen c ds e = subst IsRising e (IsRising-filter (λ c. is_prefix c k) ks v.rises)

      behind_first : (c : List Bool) (ds : List (List Bool)) → keys.way k ks ≡ c ∷ ds → Behind ks k c ds
      behind_first c ds e = record { rises = (risen c ds e).1; of = of; each = each }
        where
          of : (x : List Bool) → Member ds x → Member ks x × (is_prefix x k ≡ true) × (length c < length x)
          of x i =
              let q = on_way c ds e x (inr i) in
              (q.0, q.1, (below_begins c x k (on_way c ds e c (inl refl)).1 q.1 (All-member (λ x. key_cmp c x ≡ Less) ds x (risen c ds e).0 i)).1)

          each : (x : List Bool) → Member ks x → is_prefix x k ≡ true → length c < length x → Member ds x
          each x i b l = elim (subst (λ l. Member l x) e (Member-filter-in (λ c. is_prefix c k) ks x i b)) [
            | inl f ↦ absurd (let g = ap length f in omega arith)
            | inr j ↦ j
          ]

      -- the first key begins each
      first_begins : (r : List Bool) (rs : List (List Bool)) → ks ≡ r ∷ rs → (c : List Bool) → Member ks c → is_prefix r c ≡ true
      first_begins r rs e c i =
          let x = v.least 0 [] r (omega arith) (subst (λ l. Member l r) (sym e) (inl refl)) refl in
          subst (λ r. is_prefix r c ≡ true) (same x.key (x.each r (subst (λ l. Member l r) (sym e) (inl refl)) refl) (subst (λ l. Member l x.key) e x.member)) (x.each c i refl)
        where
          same : (x : List Bool) → is_prefix x r ≡ true → Member (r ∷ rs) x → x ≡ r
          same x b (inl e) = sym e
          same x b (inr i) = absurd (not_after x r b (All-member (λ c. key_cmp r c ≡ Less) rs x (subst IsRising e v.rises).0 i))

      first_is : (c : List Bool) (ds : List (List Bool)) → keys.way k ks ≡ c ∷ ds → (xs : List (List Bool)) → ks ≡ xs → first_of xs ≡ Some c
      first_is c ds e [] f = absurd (subst (λ l. Member l c) f (on_way c ds e c (inl refl)).0)
      first_is c ds e (r ∷ rs) f = ap Some (same (subst (λ l. Member l c) f q.0))
        where
          q : Member ks c × (is_prefix c k ≡ true)
          q = on_way c ds e c (inl refl)

          begins : is_prefix r c ≡ true
          begins = first_begins r rs f c q.0

          same : Member (r ∷ rs) c → r ≡ c
          same (inl g) = g
          same (inr i) =
              let low : key_cmp r c ≡ Less = All-member (λ c. key_cmp r c ≡ Less) rs c (subst IsRising f v.rises).0 i in
              elim (subst (λ l. Member l r) e (Member-filter-in (λ c. is_prefix c k) ks r (subst (λ l. Member l r) (sym f) (inl refl)) (is_prefix-through r c k begins q.1))) [
                | inl g ↦ sym g
                | inr j ↦ absurd (not_after r c begins (All-member (λ x. key_cmp c x ≡ Less) ds r (risen c ds e).0 j))
              ]

      none_on_way : (xs : List (List Bool)) → ks ≡ xs → keys.way k ks ≡ [] → go_on (first_of xs) (walk w (suc (length k)) ks k) ≡ take 1 xs
      none_on_way [] e h = refl
      none_on_way (r ∷ rs) e h = stops (length k) r (ends_apart r (apart (is_prefix r k) refl))
        where
          apart : (b : Bool) → is_prefix r k ≡ b → is_prefix r k ≡ false
          apart true g = absurd (subst (λ l. Member l r) h (Member-filter-in (λ c. is_prefix c k) ks r (subst (λ l. Member l r) (sym e) (inl refl)) g))
          apart false g = g

      go : (cs : List (List Bool)) → keys.way k ks ≡ cs → go_on (first_of ks) (walk w (suc (length k)) ks k) ≡ with_key_toward w k ks cs
      go [] e = none_on_way ks refl e
      go (c ∷ ds) e =
          let q = on_way c ds e c (inl refl) in
          ap (λ o. go_on o (walk w (suc (length k)) ks k)) (first_is c ds e ks refl)
          ∙ walked (suc (length k)) c ds q.0 q.1 (omega arith) (behind_first c ds e)
