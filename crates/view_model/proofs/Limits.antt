-- No limit is passed.
use Rattle.std.proofs.Common.{◌≡◌, ◌⊎◌, inl, inr, ℕ, ◌+◌, ◌-◌, ◌<◌, ◌≤◌, Bool, true, false, cond, nat_eq, List, [], ◌∷◌, ◌++◌, map, length, refl, sym, ap, ◌∙◌, subst, arith, length-append, lit<, Option, Some, None, option_map, unwrap_or}
use Rattle.std.specs.Option.{option_or}
use Rattle.std.specs.List.{sum_by}
use Rattle.std.proofs.lemmas.Bool.{leb-false, ltb-false}
use Rattle.std.proofs.lemmas.List.{length-map, map_push}
use Rattle.std.proofs.lemmas.List.Sums.{sum_by-cons, sum_by_push}
use Rattle.std.proofs.lemmas.Option.{same_Some}
use lib.Dec.{ltb, leb}
use Rattle.batch_model.specs.Batch.{Change}
use Rattle.view_model.specs.Forest.{View, Forest, ViewState, Live, Committed, Invalid, Closed, no_views, path, is_prefix, is_proper_prefix, is_among, state_of, is_live, view_of, state, path_of, next_number, payload, batch_payload, view_weight, weight}
use Rattle.view_model.specs.Calls.{number_limit, depth_limit, weight_limit, Refusal, TooMany, TooDeep, TooHeavy, parent_refused, parent_path, new_depth, limit_passed, make_refused, made, kept_by, committed, directed, closed_by, closed, Call, Make, Direct, Close, Commit, Answer, Given, Done, Refused, NoMemory, Step, Steps}
use Rattle.view_model.specs.Laws.{KeepsLimits, LimitsHold}
use Rattle.view_model.proofs.Prefixes.{proper_parts, proper_shorter, not_among_less, among_last}
use Rattle.view_model.proofs.States.{LiveIn, live_parts, live_from, committed_from}
use Rattle.view_model.proofs.Found.{found}

-- ---- how far live views are from the store

abbrev IsNear : List ℕ → View → Type 0
IsNear store v = state_of store v ≡ Live → length (path v) ≤ length store + depth_limit

abbrev AreNear : List ℕ → List View → Type 0
AreNear store [] = Unit {0}
AreNear store (v ∷ vs) = IsNear store v × AreNear store vs

near_found : (store : List ℕ) (n : ℕ) (vs : List View) → AreNear store vs → (v : View) → found n vs ≡ Some v → IsNear store v
near_found store n [] h v e = absurd (cc)
near_found store n (x ∷ xs) h v e = go (nat_eq x.number n) e (near_found store n xs h.1 v)
  where
    go : (b : Bool) → cond b (Some x) (found n xs) ≡ Some v → (found n xs ≡ Some v → IsNear store v) → IsNear store v
    go true e ih = subst (IsNear store) (same_Some x v e) h.0
    go false e ih = ih e

near_push : (store : List ℕ) (vs : List View) (v : View) → AreNear store vs → IsNear store v → AreNear store (vs ++ v ∷ [])
near_push store [] v h k = (k, tt)
near_push store (x ∷ xs) v h k = (h.0, near_push store xs v h.1 k)

near_map : (old new : List ℕ) (g : View → View) → ((v : View) → IsNear old v → IsNear new (g v)) → (vs : List View) → AreNear old vs → AreNear new (map g vs)
near_map old new g each [] h = tt
near_map old new g each (v ∷ vs) h = (each v h.0, near_map old new g each vs h.1)

-- what is live after a commit was so before
live_before : (store : List ℕ) (n : ℕ) (v : View) → state_of (store ++ n ∷ []) v ≡ Live → state_of store v ≡ Live
live_before store n v h =
    let l = live_parts (store ++ n ∷ []) v h in
    live_from store v (record { waits = not_among_less v.number store (n ∷ []) l.waits; opened = l.opened; ahead = proper_shorter store (n ∷ []) (path v) (proper_parts (store ++ n ∷ []) (path v) l.ahead).0 (lit< tt) })

near_kept : (store : List ℕ) (n : ℕ) (v : View) → IsNear store v → IsNear (store ++ n ∷ []) (kept_by (store ++ n ∷ []) v)
near_kept store n v h l = omega (arith, h (live_before store n v l), length-append store (n ∷ []))

near_closed : (store through : List ℕ) (v : View) → IsNear store v → IsNear store (closed_by through v)
near_closed store through v h = go (is_prefix through (path v))
  where
    go : (b : Bool) → IsNear store (cond b (record v { batch = None; closed = true }) v)
    go false = λ l. h l
    go true = λ l. absurd (let opened : true ≡ false = (live_parts store (record v { batch = None; closed = true }) l).opened in cc)

-- ---- weight

told_live : (store : List ℕ) (v : View) → is_live store v ≡ true → state_of store v ≡ Live
told_live store v h = go (state_of store v) refl h
  where
    go : (s : ViewState) → state_of store v ≡ s → elim s [ Live ↦ true | Committed ↦ false | Invalid ↦ false | Closed ↦ false ] ≡ true → state_of store v ≡ Live
    go Live e h = e
    go Committed e h = absurd (cc)
    go Invalid e h = absurd (cc)
    go Closed e h = absurd (cc)

tells_live : (store : List ℕ) (v : View) → state_of store v ≡ Live → is_live store v ≡ true
tells_live store v h = ap (λ s. elim s [ Live ↦ true | Committed ↦ false | Invalid ↦ false | Closed ↦ false ]) h

-- no view weighs more than its changes
view_weight-le : (store : List ℕ) (v : View) → view_weight store v ≤ batch_payload v.batch
view_weight-le store v = go (is_live store v)
  where
    go : (b : Bool) → cond b (batch_payload v.batch) 0 ≤ batch_payload v.batch
    go true = omega arith
    go false = omega arith

lighter_kept : (store : List ℕ) (n : ℕ) (v : View) → view_weight (store ++ n ∷ []) (kept_by (store ++ n ∷ []) v) ≤ view_weight store v
lighter_kept store n v = go (is_live (store ++ n ∷ []) v) refl
  where
    go : (b : Bool) → is_live (store ++ n ∷ []) v ≡ b → cond b (batch_payload (cond b v.batch None)) 0 ≤ view_weight store v
    go false e = omega arith
    go true e =
        let was : is_live store v ≡ true = tells_live store v (live_before store n v (told_live (store ++ n ∷ []) v e)) in
        let same : view_weight store v ≡ batch_payload v.batch = ap (λ b. cond b (batch_payload v.batch) 0) was in
        omega (arith, same)

lighter_closed : (store through : List ℕ) (v : View) → view_weight store (closed_by through v) ≤ view_weight store v
lighter_closed store through v = go (is_prefix through (path v))
  where
    none : (b : Bool) → ◌≡◌ {A = ℕ} (cond b 0 0) 0
    none true = refl
    none false = refl

    go : (b : Bool) → view_weight store (cond b (record v { batch = None; closed = true }) v) ≤ view_weight store v
    go false = omega arith
    go true = omega (arith, none (is_live store (record v { batch = None; closed = true })))

lighter_map : (old new : List ℕ) (g : View → View) → ((v : View) → view_weight new (g v) ≤ view_weight old v) → (vs : List View) → sum_by (view_weight new) (map g vs) ≤ sum_by (view_weight old) vs
lighter_map old new g each [] = omega arith
lighter_map old new g each (v ∷ vs) =
    omega (arith, each v, lighter_map old new g each vs, sum_by-cons (view_weight new) (g v) (map g vs), sum_by-cons (view_weight old) v vs)

-- ---- each call

record Within (f : Forest) : Type 0 where
  few : length f.views ≤ number_limit
  light : weight f ≤ weight_limit
  near : AreNear f.store f.views

-- where no limit is passed
record May (f : Forest) (parent : Option ℕ) (batch : List Change) : Type 0 where
  few : length f.views < number_limit
  near : new_depth f parent ≤ depth_limit
  light : weight f + payload batch ≤ weight_limit

may : (f : Forest) (parent : Option ℕ) (batch : List Change) → make_refused f parent batch ≡ None → May f parent batch
may f parent batch h = go (parent_refused f parent) h
  where
    limits : (a b c : Bool) → leb number_limit (length f.views) ≡ a → ltb depth_limit (new_depth f parent) ≡ b → ltb weight_limit (weight f + payload batch) ≡ c → cond a (Some TooMany) (cond b (Some TooDeep) (cond c (Some TooHeavy) None)) ≡ None → May f parent batch
    limits true b c ea eb ec e = absurd (cc)
    limits false true c ea eb ec e = absurd (cc)
    limits false false true ea eb ec e = absurd (cc)
    limits false false false ea eb ec e = record {
      few = leb-false number_limit (length f.views) ea;
      near = ltb-false depth_limit (new_depth f parent) eb;
      light = ltb-false weight_limit (weight f + payload batch) ec;
    }

    go : (o : Option Refusal) → option_or o (limit_passed f parent batch) ≡ None → May f parent batch
    go None e = limits (leb number_limit (length f.views)) (ltb depth_limit (new_depth f parent)) (ltb weight_limit (weight f + payload batch)) refl refl refl e
    go (Some r) e = absurd (cc)

within_made : (f : Forest) (parent : Option ℕ) (batch : List Change) → Within f → make_refused f parent batch ≡ None → Within (made f parent batch)
within_made f parent batch w h =
    let m = may f parent batch h in
    let v : View = record { number = next_number f; parent = parent_path f parent; batch = Some batch; closed = false } in
    record {
      few = omega (arith, m.few, length-append f.views (v ∷ []));
      light = omega (arith, m.light, sum_by_push (view_weight f.store) f.views v, view_weight-le f.store v);
      near = near_push f.store f.views v w.near (λ l. omega (arith, m.near, length-append (parent_path f parent) (next_number f ∷ [])));
    }

within_committed : (f : Forest) (n : ℕ) → Within f → Within (committed f n)
within_committed f n w = record {
  few = omega (arith, w.few, length-map f.views (kept_by (f.store ++ n ∷ [])));
  light = omega (arith, w.light, lighter_map f.store (f.store ++ n ∷ []) (kept_by (f.store ++ n ∷ [])) (lighter_kept f.store n) f.views);
  near = near_map f.store (f.store ++ n ∷ []) (kept_by (f.store ++ n ∷ [])) (near_kept f.store n) f.views w.near;
}

within_closed : (f : Forest) (n : ℕ) → Within f → Within (closed f n)
within_closed f n w = record {
  few = omega (arith, w.few, length-map f.views (closed_by (path_of f n)));
  light = omega (arith, w.light, lighter_map f.store f.store (closed_by (path_of f n)) (lighter_closed f.store (path_of f n)) f.views);
  near = near_map f.store f.store (closed_by (path_of f n)) (near_closed f.store (path_of f n)) f.views w.near;
}

within_directed : (f : Forest) → Within f → length f.views < number_limit → Within (directed f)
within_directed f w few =
    let n : ℕ = next_number f in
    let store : List ℕ = f.store ++ n ∷ [] in
    let v : View = record { number = n; parent = f.store; batch = Some []; closed = false } in
    let done : state_of store v ≡ Committed = committed_from store v (among_last n f.store) in
    let nothing : view_weight store (kept_by store v) ≡ 0 = ap (λ s. cond (elim s [ Live ↦ true | Committed ↦ false | Invalid ↦ false | Closed ↦ false ]) (batch_payload (cond (is_live store v) (Some []) None)) 0) done in
    let all : map (kept_by store) (f.views ++ v ∷ []) ≡ map (kept_by store) f.views ++ kept_by store v ∷ [] = map_push (kept_by store) f.views v in
    record {
      few = omega (arith, few, length-map (f.views ++ v ∷ []) (kept_by store), length-append f.views (v ∷ []));
      light = omega (arith, w.light, nothing, ap (sum_by (view_weight store)) all, sum_by_push (view_weight store) (map (kept_by store) f.views) (kept_by store v), lighter_map f.store store (kept_by store) (lighter_kept f.store n) f.views);
      near = subst (AreNear store) (sym all) (near_push store (map (kept_by store) f.views) (kept_by store v) (near_map f.store store (kept_by store) (near_kept f.store n) f.views w.near) (λ l. absurd (let no : Committed ≡ Live = sym done ∙ l in cc)));
    }

within_step : (f g : Forest) (c : Call) (a : Answer) → Within f → Step f c a g → Within g
within_step f g (Make parent batch) (Given n) w h = subst Within (sym h.2) (within_made f parent batch w h.0)
within_step f g (Make parent batch) (Refused r) w h = subst Within (sym h.1) w
within_step f g (Make parent batch) NoMemory w h = subst Within (sym h.1) w
within_step f g (Make parent batch) Done w h = absurd h
within_step f g Direct (Given n) w h = subst Within (sym h.2) (within_directed f w h.0)
within_step f g Direct (Refused r) w h = subst Within (sym h.2) w
within_step f g Direct NoMemory w h = subst Within (sym h) w
within_step f g Direct Done w h = absurd h
within_step f g (Close n) Done w h = subst Within (sym h.1) (within_closed f n w)
within_step f g (Close n) (Refused r) w h = subst Within (sym h.1) w
within_step f g (Close n) (Given m) w h = absurd h
within_step f g (Close n) NoMemory w h = absurd h
within_step f g (Commit n) Done w h = subst Within (sym h.1) (within_committed f n w)
within_step f g (Commit n) (Refused r) w h = absurd h
within_step f g (Commit n) (Given m) w h = absurd h
within_step f g (Commit n) NoMemory w h = absurd h

within_steps : (f g : Forest) (ss : List (Call × Answer)) → Within f → Steps f ss g → Within g
within_steps f g [] w h = subst Within (sym h) w
within_steps f g (s ∷ ss) w (between, first, others) = within_steps between g ss (within_step f between s.0 s.1 w first) others

near_of : (f : Forest) (n : ℕ) → Within f → state f n ≡ Some Live → length (path_of f n) ≤ length f.store + depth_limit
near_of f n w h = go (view_of f n) refl h
  where
    go : (o : Option View) → view_of f n ≡ o → option_map (state_of f.store) o ≡ Some Live → length (path_of f n) ≤ length f.store + depth_limit
    go None e h = absurd (cc)
    go (Some v) e h = omega (arith, near_found f.store n f.views w.near v e (same_Some _ _ h), ap (λ (o : Option View). length (unwrap_or (option_map path o) [])) e)

pub limits_hold : LimitsHold
limits_hold calls f h =
    let w = within_steps no_views f calls (record { few = omega arith; light = omega arith; near = tt }) h in
    record { few = w.few; light = w.light; near = λ n live. near_of f n w live }
