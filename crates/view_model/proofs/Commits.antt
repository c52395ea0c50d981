-- What a commit makes of the states of views.
use Rattle.std.proofs.Common.{◌≡◌, ◌↔◌, ℕ, true, false, List, [], ◌∷◌, ◌++◌, refl, sym, ap, ◌∙◌, subst, lit<, Option, Some, None, option_map, unwrap_or, length, arith, length-append, ◌+◌}
use Rattle.std.proofs.lemmas.Bool.Decides.{Decides-eqb}
use Rattle.std.proofs.lemmas.List.{same_from_push}
use Rattle.std.proofs.lemmas.Option.{same_Some}
use Rattle.std.proofs.lemmas.Slice.Eq.{slice_eq-Decides}
use Rattle.view_model.specs.Forest.{View, Forest, Live, Committed, Invalid, path, is_proper_prefix, is_among, state_of, view_of, state, path_of}
use Rattle.view_model.specs.Calls.{committed, kept_by, is_next}
use Rattle.view_model.specs.Laws.{CommitsKeepWhatStandsOn, CommitsEndTheOthers, NextIsTold, OneNumberMore}
use Rattle.view_model.proofs.Prefixes.{proper_parts, proper_not_itself, proper_shorter, not_among_more, not_among_less, among_last, after_prefix}
use Rattle.view_model.proofs.States.{LiveIn, live_parts, live_from, committed_from, invalid_from}
use Rattle.view_model.proofs.Found.{found_number, found-map}

-- what is kept of a view does not change its state
state_of_kept : (store : List ℕ) (o : Option View) → option_map (state_of store) (option_map (kept_by store) o) ≡ option_map (state_of store) o
state_of_kept store None = refl
state_of_kept store (Some v) = refl

pub state-committed : (f : Forest) (n m : ℕ) → state (committed f n) m ≡ option_map (state_of (f.store ++ n ∷ [])) (view_of f m)
state-committed f n m =
    let store : List ℕ = f.store ++ n ∷ [] in
    ap (option_map (state_of store)) (found-map (kept_by store) (λ v. refl) m f.views) ∙ state_of_kept store (view_of f m)

-- a view that is found has its own path
pub path_found : (f : Forest) (n : ℕ) (v : View) → view_of f n ≡ Some v → path_of f n ≡ path v
path_found f n v e = ap (λ (o : Option View). unwrap_or (option_map path o) []) e

-- ---- what stays live

still_live : (store : List ℕ) (n : ℕ) (u : View) → LiveIn store u → (u.number ≡ n → ⊥) → is_proper_prefix (store ++ n ∷ []) (path u) ≡ true → LiveIn (store ++ n ∷ []) u
still_live store n u h apart ahead = record { waits = not_among_more u.number n store h.waits apart; opened = h.opened; ahead = ahead }

was_live : (store : List ℕ) (n : ℕ) (u : View) → LiveIn (store ++ n ∷ []) u → LiveIn store u
was_live store n u h =
    record { waits = not_among_less u.number store (n ∷ []) h.waits; opened = h.opened; ahead = proper_shorter store (n ∷ []) (path u) (proper_parts (store ++ n ∷ []) (path u) h.ahead).0 (lit< tt) }

-- a view whose path goes on behind that of another is not that one
other_number : (f : Forest) (n m : ℕ) (u : View) → path_of f n ≡ f.store ++ n ∷ [] → view_of f m ≡ Some u → is_proper_prefix (f.store ++ n ∷ []) (path u) ≡ true → u.number ≡ n → ⊥
other_number f n m u way e ahead same =
    let at : m ≡ n = sym (found_number m f.views u e) ∙ same in
    let here : path u ≡ f.store ++ n ∷ [] = sym (path_found f n u (subst (λ (k : ℕ). view_of f k ≡ Some u) at e)) ∙ way in
    proper_not_itself (f.store ++ n ∷ []) (path u) ahead here

keeps : (f : Forest) (n m : ℕ) → path_of f n ≡ f.store ++ n ∷ [] → (o : Option View) → view_of f m ≡ o
    → (option_map (state_of (f.store ++ n ∷ [])) o ≡ Some Live) ↔ ((option_map (state_of f.store) o ≡ Some Live) × (is_proper_prefix (f.store ++ n ∷ []) (unwrap_or (option_map path o) []) ≡ true))
keeps f n m way None e = ((λ h. absurd (cc)), (λ h. absurd (cc)))
keeps f n m way (Some u) e = (to, from)
  where
    to : Some (state_of (f.store ++ n ∷ []) u) ≡ Some Live → (Some (state_of f.store u) ≡ Some Live) × (is_proper_prefix (f.store ++ n ∷ []) (path u) ≡ true)
    to h = let l = live_parts (f.store ++ n ∷ []) u (same_Some _ _ h) in (ap Some (live_from f.store u (was_live f.store n u l)), l.ahead)

    from : (Some (state_of f.store u) ≡ Some Live) × (is_proper_prefix (f.store ++ n ∷ []) (path u) ≡ true) → Some (state_of (f.store ++ n ∷ []) u) ≡ Some Live
    from h =
        let l = live_parts f.store u (same_Some _ _ h.0) in
        ap Some (live_from (f.store ++ n ∷ []) u (still_live f.store n u l (other_number f n m u way e h.1) h.1))

pub commits_keep_what_stands_on : CommitsKeepWhatStandsOn
commits_keep_what_stands_on f n m may =
    let both = keeps f n m may.1 (view_of f m) refl in (
      (λ h. let r = both.0 (sym (state-committed f n m) ∙ h) in (r.0, ap (λ p. is_proper_prefix p (path_of f m)) may.1 ∙ r.1)),
      (λ h. state-committed f n m ∙ both.1 (h.0, sym (ap (λ p. is_proper_prefix p (path_of f m)) may.1) ∙ h.1)),
    )

-- ---- what does not

ends : (f : Forest) (n m : ℕ) → path_of f n ≡ f.store ++ n ∷ [] → (m ≡ n → ⊥) → (o : Option View) → view_of f m ≡ o → option_map (state_of f.store) o ≡ Some Live
    → is_proper_prefix (f.store ++ n ∷ []) (unwrap_or (option_map path o) []) ≡ false → option_map (state_of (f.store ++ n ∷ [])) o ≡ Some Invalid
ends f n m way apart None e h k = absurd (cc)
ends f n m way apart (Some u) e h k =
    let l = live_parts f.store u (same_Some _ _ h) in
    let other : u.number ≡ n → ⊥ = λ s. apart (sym (found_number m f.views u e) ∙ s) in
    ap Some (invalid_from (f.store ++ n ∷ []) u (not_among_more u.number n f.store l.waits other) l.opened k)

is_committed : (f : Forest) (n : ℕ) (o : Option View) → view_of f n ≡ o → option_map (state_of f.store) o ≡ Some Live → option_map (state_of (f.store ++ n ∷ [])) o ≡ Some Committed
is_committed f n None e h = absurd (cc)
is_committed f n (Some u) e h =
    ap Some (committed_from (f.store ++ n ∷ []) u (subst (λ (k : ℕ). is_among k (f.store ++ n ∷ []) ≡ true) (sym (found_number n f.views u e)) (among_last n f.store)))

pub commits_end_the_others : CommitsEndTheOthers
commits_end_the_others f n may = (
  state-committed f n n ∙ is_committed f n (view_of f n) refl may.0,
  (λ m apart live beside. state-committed f n m ∙ ends f n m may.1 apart (view_of f m) refl live (sym (ap (λ p. is_proper_prefix p (path_of f m)) may.1) ∙ beside)),
)

-- ---- the test

pub next_is_told : NextIsTold
next_is_told f n = slice_eq-Decides Decides-eqb (path_of f n) (f.store ++ n ∷ []) (is_next f n) refl

-- ---- by the length of the path

one_more : (f : Forest) (n : ℕ) (o : Option View) → view_of f n ≡ o → option_map (state_of f.store) o ≡ Some Live → length (unwrap_or (option_map path o) []) ≡ length f.store + 1 → unwrap_or (option_map path o) [] ≡ f.store ++ n ∷ []
one_more f n None e h l = absurd (cc)
one_more f n (Some v) e h l =
    let ahead = (proper_parts f.store (path v) (live_parts f.store v (same_Some _ _ h)).ahead).0 in
    go (after_prefix f.store (path v) ahead)
  where
    go : (rest : List ℕ) × (path v ≡ f.store ++ rest) → path v ≡ f.store ++ n ∷ []
    go (rest, is) = alone rest is (omega (arith, ap length is, length-append f.store rest, l))
      where
        alone : (rest : List ℕ) → path v ≡ f.store ++ rest → length rest ≡ 1 → path v ≡ f.store ++ n ∷ []
        alone [] is one = absurd (omega (arith, one))
        alone (x ∷ []) is one = is ∙ ap (λ k. f.store ++ k ∷ []) (sym (same_from_push v.parent f.store v.number x is).1 ∙ found_number n f.views v e)
        alone (x ∷ y ∷ more) is one = absurd (omega (arith, one))

pub one_number_more : OneNumberMore
one_number_more f n h l = (h, one_more f n (view_of f n) refl h l)
