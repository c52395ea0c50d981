-- Calls keep it so that live views stand on the store or on live views.
use Rattle.std.proofs.Common.{◌≡◌, ◌⊎◌, inl, inr, ℕ, ◌+◌, ◌≤◌, true, false, nat_eq, List, [], ◌∷◌, ◌++◌, length, refl, sym, ap, ◌∙◌, subst, arith, length-append, append-nil, Option, Some, None, option_map, ◌<◌}
use Rattle.std.specs.Option.{option_or}
use Rattle.std.proofs.lemmas.Bool.{and_parts, and_from, or_cases, eqb-true, eq-eqb, false_from_ne_true, both_ways}
use Rattle.std.proofs.lemmas.List.{length-map}
use Rattle.batch_model.specs.Batch.{Change}
use Rattle.view_model.specs.Forest.{View, Forest, Live, no_views, is_prefix, is_proper_prefix, is_among, view_of, state, path_of, stands_on, next_number}
use Rattle.view_model.specs.Calls.{Call, Make, Direct, Close, Commit, Answer, Given, Done, Refused, NoMemory, Steps, made, committed, directed, closed, closed_by, kept_by, MayCommit, parent_refused, parent_path, make_refused, limit_passed}
use Rattle.view_model.specs.Standing.{IsForest, IsOpen, parent_of}
use Rattle.view_model.specs.Laws.{ForestsAreReached, CallsKeepForests}
use Rattle.view_model.proofs.Prefixes.{after_prefix, is_prefix-append, is_prefix_itself, length-prefix, prefix_of_prefix, proper_parts, proper_from, is_among-append}
use Rattle.view_model.proofs.Found.{found-append}
use Rattle.view_model.proofs.Commits.{path_found, commits_keep_what_stands_on}
use Rattle.view_model.proofs.DeadViews.{live_ahead, live_unless_refused}
use Rattle.view_model.proofs.LiveViews.{IsAlive, alive, live_found, parent_found, path_by_parent, new_view, found_cases, found_last, closed_view, IsSpared, spared, left_alone, committed_view, parent_of-committed, path_of-committed}

-- ---- paths

-- a path begins with another one: it is that, or goes on behind it
prefix_cases : (xs ys : List ℕ) → is_prefix xs ys ≡ true → (ys ≡ xs) ⊎ (is_proper_prefix xs ys ≡ true)
prefix_cases xs ys h = go (after_prefix xs ys h).0 (after_prefix xs ys h).1
  where
    go : (rest : List ℕ) → ys ≡ xs ++ rest → (ys ≡ xs) ⊎ (is_proper_prefix xs ys ≡ true)
    go [] e = inl (e ∙ append-nil xs)
    go (r ∷ rest) e = inr (proper_from xs ys h (omega (arith, ap length e, length-append xs (r ∷ rest))))

-- of two prefixes of a path the one that is no longer begins the other one
shorter_first : (xs ys zs : List ℕ) → is_prefix xs zs ≡ true → is_prefix ys zs ≡ true → length xs ≤ length ys → is_prefix xs ys ≡ true
shorter_first [] ys zs h k l = refl
shorter_first (x ∷ xs) [] zs h k l = absurd (omega arith)
shorter_first (x ∷ xs) (y ∷ ys) [] h k l = absurd (cc)
shorter_first (x ∷ xs) (y ∷ ys) (z ∷ zs) h k l =
    let a = and_parts (nat_eq x z) (is_prefix xs zs) h in
    let b = and_parts (nat_eq y z) (is_prefix ys zs) k in
    and_from (nat_eq x y) (is_prefix xs ys) (eq-eqb x y (eqb-true x z a.0 ∙ sym (eqb-true y z b.0))) (shorter_first xs ys zs a.1 b.1 (omega arith))

-- what begins a path properly begins it without its last number
prefix_of_parent : (xs ys : List ℕ) (n : ℕ) → is_proper_prefix xs (ys ++ n ∷ []) ≡ true → is_prefix xs ys ≡ true
prefix_of_parent xs ys n h =
    let p = proper_parts xs (ys ++ n ∷ []) h in
    shorter_first xs ys (ys ++ n ∷ []) p.0 (is_prefix-append ys (n ∷ [])) (omega (arith, p.1, length-append ys (n ∷ [])))

-- ---- numbers that were not given

pub not_yet : (f : Forest) → IsForest f → view_of f (next_number f) ≡ None
not_yet f h = go (view_of f (next_number f)) refl
  where
    go : (o : Option View) → view_of f (next_number f) ≡ o → view_of f (next_number f) ≡ None
    go None e = e
    go (Some v) e = let l = (h.given (next_number f) v e).1 in absurd (omega (arith, l))

-- ---- one more

pub new_found : (f : Forest) (parent : Option ℕ) (batch : List Change) → IsForest f → view_of (made f parent batch) (next_number f) ≡ Some (new_view f parent batch)
new_found f parent batch h = found_last (next_number f) f.views (new_view f parent batch) (not_yet f h) refl

pub new_path : (f : Forest) (parent : Option ℕ) (batch : List Change) → IsForest f → path_of (made f parent batch) (next_number f) ≡ parent_path f parent ++ next_number f ∷ []
new_path f parent batch h = path_found (made f parent batch) (next_number f) (new_view f parent batch) (new_found f parent batch h)

pub parent_begins : (f : Forest) (parent : Option ℕ) → parent_refused f parent ≡ None → is_prefix f.store (parent_path f parent) ≡ true
parent_begins f None h = is_prefix_itself f.store
parent_begins f (Some p) h = (proper_parts f.store (path_of f p) (live_ahead f p (live_unless_refused (state f p) h))).0

pub new_live : (f : Forest) (parent : Option ℕ) (batch : List Change) → IsForest f → parent_refused f parent ≡ None → state (made f parent batch) (next_number f) ≡ Some Live
new_live f parent batch h may = live_found (made f parent batch) (next_number f) (new_view f parent batch) (new_found f parent batch h) (record {
  waits = false_from_ne_true _ (λ t. let l = h.done (next_number f) t in absurd (omega (arith, l)));
  opened = refl;
  ahead =
      let path : List ℕ = parent_path f parent in
      let begins = parent_begins f parent may in
      proper_from f.store (path ++ next_number f ∷ []) (prefix_of_prefix f.store path (path ++ next_number f ∷ []) begins (is_prefix-append path (next_number f ∷ [])))
      (omega (arith, length-prefix f.store path begins, length-append path (next_number f ∷ [])));
})

made_open : (f : Forest) (parent : Option ℕ) (batch : List Change) (p : List ℕ) → IsOpen f p → IsOpen (made f parent batch) p
made_open f parent batch p (inl e) = inl e
made_open f parent batch p (inr (n, live, e)) =
    let a = alive f n live in
    let there = found-append n f.views (new_view f parent batch ∷ []) a.view a.is in
    inr (n, live_found (made f parent batch) n a.view there a.live, e ∙ (path_found f n a.view a.is ∙ sym (path_found (made f parent batch) n a.view there)))

parent_open : (f : Forest) (parent : Option ℕ) → parent_refused f parent ≡ None → IsOpen f (parent_path f parent)
parent_open f None h = inl refl
parent_open f (Some p) h = inr (p, live_unless_refused (state f p) h, refl)

pub made-IsForest : (f : Forest) (parent : Option ℕ) (batch : List Change) → IsForest f → parent_refused f parent ≡ None → IsForest (made f parent batch)
made-IsForest f parent batch h may = record {
  given = λ n v e. elim (found_cases n f.views (new_view f parent batch) v e) [
    | inl old ↦ let l = h.given n v old in (l.0, omega (arith, l.1, more))
    | inr new ↦ (omega (arith, new.1), omega (arith, new.1, more))
  ];
  done = λ n t. let l = h.done n t in omega (arith, l, more);
  stands = λ n live. stands n (alive (made f parent batch) n live);
}
  where
    more : length (f.views ++ new_view f parent batch ∷ []) ≡ length f.views + 1
    more = length-append f.views (new_view f parent batch ∷ [])

    stands : (n : ℕ) → IsAlive (made f parent batch) n → IsOpen (made f parent batch) (parent_of (made f parent batch) n)
    stands n a = elim (found_cases n f.views (new_view f parent batch) a.view a.is) [
      | inl old ↦
          subst (IsOpen (made f parent batch)) (parent_found f n a.view old ∙ sym (parent_found (made f parent batch) n a.view a.is)) (made_open f parent batch (parent_of f n) (h.stands n (live_found f n a.view old a.live)))
      | inr new ↦
          subst (IsOpen (made f parent batch)) (ap (λ (v : View). v.parent) new.0 ∙ sym (parent_found (made f parent batch) n a.view a.is)) (made_open f parent batch (parent_path f parent) (parent_open f parent may))
    ]

-- ---- closing

pub closed-IsForest : (f : Forest) (c : ℕ) → IsForest f → IsForest (closed f c)
closed-IsForest f c h = record {
  given = λ n v e. given n v e (view_of f n) refl;
  done = λ n t. let l = h.done n t in omega (arith, l, same);
  stands = λ n live. stands n (spared f c n (alive (closed f c) n live));
}
  where
    same : length (closed f c).views ≡ length f.views
    same = length-map f.views (closed_by (path_of f c))

    given : (n : ℕ) (v : View) → view_of (closed f c) n ≡ Some v → (o : Option View) → view_of f n ≡ o → (0 < n) × (n ≤ length (closed f c).views)
    given n v e None is = let no : None ≡ Some v = sym (closed_view f c n ∙ ap (option_map (closed_by (path_of f c))) is) ∙ e in absurd (cc)
    given n v e (Some u) is = let l = h.given n u is in (l.0, omega (arith, l.1, same))

    -- the parent of a view that was spared is spared
    over : (n p : ℕ) → IsSpared f c n → state f p ≡ Some Live → parent_of f n ≡ path_of f p → IsOpen (closed f c) (parent_of f n)
    over n p s live e =
        let a = alive f p live in
        let begins : is_prefix (path_of f p) (path_of f n) ≡ true = subst (λ (q : List ℕ). is_prefix (path_of f p) q ≡ true) (sym (path_by_parent f n s.before.view s.before.is ∙ ap (λ (q : List ℕ). q ++ n ∷ []) e)) (is_prefix-append (path_of f p) (n ∷ [])) in
        let off : is_prefix (path_of f c) (path_of f p) ≡ false = false_from_ne_true _ (λ t. both_ways _ s.beside (prefix_of_prefix (path_of f c) (path_of f p) (path_of f n) t begins)) in
        let there = left_alone f c p a.view a.is off in
        inr (p, live_found (closed f c) p a.view there a.live, e ∙ (path_found f p a.view a.is ∙ sym (path_found (closed f c) p a.view there)))

    from : (n : ℕ) → IsSpared f c n → IsOpen f (parent_of f n) → IsOpen (closed f c) (parent_of f n)
    from n s (inl e) = inl e
    from n s (inr (p, live, e)) = over n p s live e

    stands : (n : ℕ) → IsSpared f c n → IsOpen (closed f c) (parent_of (closed f c) n)
    stands n s =
        subst (IsOpen (closed f c)) (parent_found f n s.before.view s.before.is ∙ sym (parent_found (closed f c) n s.before.view (s.same ∙ s.before.is)))
        (from n s (h.stands n (live_found f n s.before.view s.before.is s.before.live)))

-- ---- commits

pub committed-IsForest : (f : Forest) (c : ℕ) → IsForest f → MayCommit f c → IsForest (committed f c)
committed-IsForest f c h may = record {
  given = λ n v e. given n v e (view_of f n) refl;
  done = done;
  stands = λ n live. stands n live ((commits_keep_what_stands_on f c n may).0 live);
}
  where
    same : length (committed f c).views ≡ length f.views
    same = length-map f.views (kept_by (f.store ++ c ∷ []))

    given : (n : ℕ) (v : View) → view_of (committed f c) n ≡ Some v → (o : Option View) → view_of f n ≡ o → (0 < n) × (n ≤ length (committed f c).views)
    given n v e None is = let no : None ≡ Some v = sym (committed_view f c n ∙ ap (option_map (kept_by (f.store ++ c ∷ []))) is) ∙ e in absurd (cc)
    given n v e (Some u) is = let l = h.given n u is in (l.0, omega (arith, l.1, same))

    done : (n : ℕ) → is_among n (f.store ++ c ∷ []) ≡ true → n ≤ length (committed f c).views
    done n t = elim (or_cases (is_among n f.store) (is_among n (c ∷ [])) (sym (is_among-append n f.store (c ∷ [])) ∙ t)) [
      | inl e ↦ let l = h.done n e in omega (arith, l, same)
      | inr e ↦ elim (or_cases (nat_eq c n) false e) [
        | inl own ↦ let a = alive f c may.0 in let l = (h.given c a.view a.is).1 in omega (arith, l, same, eqb-true c n own)
        | inr none ↦ absurd (cc)
      ]
    ]

    -- the parent of a view that stays live is the view that was committed, or stays live
    over : (n p : ℕ) → is_prefix (f.store ++ c ∷ []) (parent_of f n) ≡ true → state f p ≡ Some Live → parent_of f n ≡ path_of f p → IsOpen (committed f c) (parent_of f n)
    over n p begins live e = elim (prefix_cases (f.store ++ c ∷ []) (path_of f p) (subst (λ (q : List ℕ). is_prefix (f.store ++ c ∷ []) q ≡ true) e begins)) [
      | inl here ↦ inl (e ∙ here)
      | inr ahead ↦
          let on : stands_on f p c ≡ true = subst (λ (q : List ℕ). is_proper_prefix q (path_of f p) ≡ true) (sym may.1) ahead in
          inr (p, (commits_keep_what_stands_on f c p may).1 (live, on), e ∙ sym (path_of-committed f c p))
    ]

    from : (n : ℕ) → is_prefix (f.store ++ c ∷ []) (parent_of f n) ≡ true → IsOpen f (parent_of f n) → IsOpen (committed f c) (parent_of f n)
    from n begins (inl e) =
        absurd (omega (arith, length-prefix (f.store ++ c ∷ []) (parent_of f n) begins, ap length e, length-append f.store (c ∷ [])))
    from n begins (inr (p, live, e)) = over n p begins live e

    stands : (n : ℕ) → state (committed f c) n ≡ Some Live → (state f n ≡ Some Live) × (stands_on f n c ≡ true) → IsOpen (committed f c) (parent_of (committed f c) n)
    stands n live was =
        let a = alive f n was.0 in
        let on : is_proper_prefix (f.store ++ c ∷ []) (parent_of f n ++ n ∷ []) ≡ true =
        subst (λ (q : List ℕ). is_proper_prefix q (parent_of f n ++ n ∷ []) ≡ true) may.1 (subst (λ (q : List ℕ). is_proper_prefix (path_of f c) q ≡ true) (path_by_parent f n a.view a.is) was.1) in
        subst (IsOpen (committed f c)) (sym (parent_of-committed f c n)) (from n (prefix_of_parent (f.store ++ c ∷ []) (parent_of f n) n on) (h.stands n was.0))

-- ---- batches that are committed at once

pub direct_may : (f : Forest) → IsForest f → MayCommit (made f None []) (next_number f)
direct_may f h = (new_live f None [] h refl, new_path f None [] h)

pub directed-IsForest : (f : Forest) → IsForest f → IsForest (directed f)
directed-IsForest f h = committed-IsForest (made f None []) (next_number f) (made-IsForest f None [] h refl) (direct_may f h)

-- ---- lists of calls

pub parent_passed : (f : Forest) (parent : Option ℕ) (batch : List Change) → make_refused f parent batch ≡ None → parent_refused f parent ≡ None
parent_passed f parent batch h = go (parent_refused f parent) refl h
  where
    go : (o : Option _) → parent_refused f parent ≡ o → option_or o (limit_passed f parent batch) ≡ None → parent_refused f parent ≡ None
    go None e h = e
    go (Some r) e h = absurd (cc)

pub calls_keep_forests : CallsKeepForests
calls_keep_forests f g (Make parent batch) (Given n) h s = subst IsForest (sym s.2) (made-IsForest f parent batch h (parent_passed f parent batch s.0))
calls_keep_forests f g (Make parent batch) (Refused r) h s = subst IsForest (sym s.1) h
calls_keep_forests f g (Make parent batch) NoMemory h s = subst IsForest (sym s.1) h
calls_keep_forests f g (Make parent batch) Done h s = absurd s
calls_keep_forests f g Direct (Given n) h s = subst IsForest (sym s.2) (directed-IsForest f h)
calls_keep_forests f g Direct (Refused r) h s = subst IsForest (sym s.2) h
calls_keep_forests f g Direct NoMemory h s = subst IsForest (sym s) h
calls_keep_forests f g Direct Done h s = absurd s
calls_keep_forests f g (Close n) Done h s = subst IsForest (sym s.1) (closed-IsForest f n h)
calls_keep_forests f g (Close n) (Refused r) h s = subst IsForest (sym s.1) h
calls_keep_forests f g (Close n) (Given m) h s = absurd s
calls_keep_forests f g (Close n) NoMemory h s = absurd s
calls_keep_forests f g (Commit n) Done h s = subst IsForest (sym s.1) (committed-IsForest f n h s.0)
calls_keep_forests f g (Commit n) (Refused r) h s = absurd s
calls_keep_forests f g (Commit n) (Given m) h s = absurd s
calls_keep_forests f g (Commit n) NoMemory h s = absurd s

pub no_views-IsForest : IsForest no_views
no_views-IsForest = record {
  given = λ n v e. absurd (cc);
  done = λ n t. absurd (cc);
  stands = λ n live. absurd (cc);
}

reached : (calls : List (Call × Answer)) (f g : Forest) → IsForest f → Steps f calls g → IsForest g
reached [] f g h s = subst IsForest (sym s) h
reached (x ∷ calls) f g h (between, first, others) = reached calls between g (calls_keep_forests f between x.0 x.1 h first) others

pub forests_are_reached : ForestsAreReached
forests_are_reached calls f s = reached calls no_views f no_views-IsForest s
