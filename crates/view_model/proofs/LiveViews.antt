-- Live views, and those that a call leaves live.
use Rattle.std.proofs.Common.{◌≡◌, ◌⊎◌, inl, inr, ℕ, Bool, true, false, cond, nat_eq, List, [], ◌∷◌, ◌++◌, refl, sym, ap, ◌∙◌, subst, Option, Some, None, option_map, unwrap_or}
use Rattle.std.specs.Option.{option_or}
use Rattle.std.proofs.lemmas.Bool.{eqb-true, eq-eqb}
use Rattle.std.proofs.lemmas.List.Folds.{find-append}
use Rattle.std.proofs.lemmas.Option.{same_Some}
use Rattle.batch_model.specs.Batch.{Change}
use Rattle.view_model.specs.Forest.{View, Forest, Live, path, is_prefix, state_of, view_of, state, path_of, next_number}
use Rattle.view_model.specs.Calls.{committed, closed, closed_by, kept_by, parent_path}
use Rattle.view_model.specs.Standing.{parent_of}
use Rattle.view_model.proofs.States.{LiveIn, live_parts, live_from}
use Rattle.view_model.proofs.Found.{found, found_number, found-map}
use Rattle.view_model.proofs.Numbers.{number-closed_by}
use Rattle.view_model.proofs.Commits.{path_found}

-- the view of a number is live
pub record IsAlive (f : Forest) (n : ℕ) : Type 0 where
  pub view : View
  pub is : view_of f n ≡ Some view
  pub live : LiveIn f.store view

pub alive : (f : Forest) (n : ℕ) → state f n ≡ Some Live → IsAlive f n
alive f n h = go (view_of f n) refl h
  where
    go : (o : Option View) → view_of f n ≡ o → option_map (state_of f.store) o ≡ Some Live → IsAlive f n
    go None e h = absurd (cc)
    go (Some v) e h = record { view = v; is = e; live = live_parts f.store v (same_Some _ _ h) }

pub live_found : (f : Forest) (n : ℕ) (v : View) → view_of f n ≡ Some v → LiveIn f.store v → state f n ≡ Some Live
live_found f n v e l = ap (option_map (state_of f.store)) e ∙ ap Some (live_from f.store v l)

pub parent_found : (f : Forest) (n : ℕ) (v : View) → view_of f n ≡ Some v → parent_of f n ≡ v.parent
parent_found f n v e = ap (λ (o : Option View). unwrap_or (option_map (λ (v : View). v.parent) o) []) e

-- the path of a view that is there is that of its parent, and its number
pub path_by_parent : (f : Forest) (n : ℕ) (v : View) → view_of f n ≡ Some v → path_of f n ≡ parent_of f n ++ n ∷ []
path_by_parent f n v e =
    path_found f n v e ∙ (ap (λ k. v.parent ++ k ∷ []) (found_number n f.views v e) ∙ ap (λ (p : List ℕ). p ++ n ∷ []) (sym (parent_found f n v e)))

-- ---- one more

-- the view that is made
abbrev pub new_view : Forest → Option ℕ → List Change → View
new_view f parent batch = record { number = next_number f; parent = parent_path f parent; batch = Some batch; closed = false }

-- a view is found among one more where it was there, or is the new one
pub found_cases : (n : ℕ) (vs : List View) (w v : View) → found n (vs ++ w ∷ []) ≡ Some v → (found n vs ≡ Some v) ⊎ ((w ≡ v) × (w.number ≡ n))
found_cases n vs w v h = go (found n vs) refl (sym (find-append (λ (u : View). nat_eq u.number n) vs (w ∷ [])) ∙ h)
  where
    last : (b : Bool) → nat_eq w.number n ≡ b → cond b (Some w) None ≡ Some v → (found n vs ≡ Some v) ⊎ ((w ≡ v) × (w.number ≡ n))
    last true e h = inr (same_Some _ _ h, eqb-true w.number n e)
    last false e h = absurd (cc)

    go : (o : Option View) → found n vs ≡ o → option_or o (found n (w ∷ [])) ≡ Some v → (found n vs ≡ Some v) ⊎ ((w ≡ v) × (w.number ≡ n))
    go None e h = last (nat_eq w.number n) refl h
    go (Some u) e h = inl (e ∙ h)

pub found_last : (n : ℕ) (vs : List View) (w : View) → found n vs ≡ None → w.number ≡ n → found n (vs ++ w ∷ []) ≡ Some w
found_last n vs w h e =
    find-append (λ (u : View). nat_eq u.number n) vs (w ∷ [])
    ∙ (ap (λ (o : Option View). option_or o (found n (w ∷ []))) h ∙ ap (λ b. cond b (Some w) None) (eq-eqb w.number n e))

-- ---- closing

pub closed_view : (f : Forest) (c n : ℕ) → view_of (closed f c) n ≡ option_map (closed_by (path_of f c)) (view_of f n)
closed_view f c n = found-map (closed_by (path_of f c)) (number-closed_by (path_of f c)) n f.views

-- a view is live after another one was closed, and it was so before
pub record IsSpared (f : Forest) (c n : ℕ) : Type 0 where
  pub before : IsAlive f n
  pub same : view_of (closed f c) n ≡ view_of f n
  pub beside : is_prefix (path_of f c) (path_of f n) ≡ false

pub spared : (f : Forest) (c n : ℕ) → IsAlive (closed f c) n → IsSpared f c n
spared f c n a = go (view_of f n) refl (sym (closed_view f c n) ∙ a.is)
  where
    by : (v : View) → view_of f n ≡ Some v → (b : Bool) → is_prefix (path_of f c) (path v) ≡ b → cond b (record v { batch = None; closed = true }) v ≡ a.view → IsSpared f c n
    by v e true t h = let no : true ≡ false = ap (λ (u : View). u.closed) h ∙ a.live.opened in absurd (cc)
    by v e false t h = record {
      before = record { view = v; is = e; live = subst (LiveIn f.store) (sym h) a.live };
      same = a.is ∙ (ap Some (sym h) ∙ sym e);
      beside = ap (is_prefix (path_of f c)) (path_found f n v e) ∙ t;
    }

    go : (o : Option View) → view_of f n ≡ o → option_map (closed_by (path_of f c)) o ≡ Some a.view → IsSpared f c n
    go None e h = absurd (cc)
    go (Some v) e h = by v e (is_prefix (path_of f c) (path v)) refl (same_Some _ _ h)

-- a view is left alone where one is closed that is not on its path
pub left_alone : (f : Forest) (c n : ℕ) (v : View) → view_of f n ≡ Some v → is_prefix (path_of f c) (path_of f n) ≡ false → view_of (closed f c) n ≡ Some v
left_alone f c n v e beside =
    let off : is_prefix (path_of f c) (path v) ≡ false = ap (is_prefix (path_of f c)) (sym (path_found f n v e)) ∙ beside in
    let stays : closed_by (path_of f c) v ≡ v = ap (λ b. cond b (record v { batch = None; closed = true }) v) off in
    closed_view f c n ∙ (ap (option_map (closed_by (path_of f c))) e ∙ ap Some stays)

-- ---- commits

pub committed_view : (f : Forest) (c n : ℕ) → view_of (committed f c) n ≡ option_map (kept_by (f.store ++ c ∷ [])) (view_of f n)
committed_view f c n = found-map (kept_by (f.store ++ c ∷ [])) (λ v. refl) n f.views

pub parent_of-committed : (f : Forest) (c n : ℕ) → parent_of (committed f c) n ≡ parent_of f n
parent_of-committed f c n = ap (λ (o : Option View). unwrap_or (option_map (λ (v : View). v.parent) o) []) (committed_view f c n) ∙ go (view_of f n)
  where
    go : (o : Option View) → unwrap_or (option_map (λ (v : View). v.parent) (option_map (kept_by (f.store ++ c ∷ [])) o)) [] ≡ unwrap_or (option_map (λ (v : View). v.parent) o) []
    go None = refl
    go (Some v) = refl

pub path_of-committed : (f : Forest) (c n : ℕ) → path_of (committed f c) n ≡ path_of f n
path_of-committed f c n = ap (λ (o : Option View). unwrap_or (option_map path o) []) (committed_view f c n) ∙ go (view_of f n)
  where
    go : (o : Option View) → unwrap_or (option_map path (option_map (kept_by (f.store ++ c ∷ [])) o)) [] ≡ unwrap_or (option_map path o) []
    go None = refl
    go (Some v) = refl
