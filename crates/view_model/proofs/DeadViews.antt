-- Views that are no longer live stay what they are.
use Rattle.std.proofs.Common.{◌≡◌, ◌≢◌, ℕ, ◌+◌, ◌<◌, Bool, true, false, cond, List, [], ◌∷◌, ◌++◌, length, refl, sym, ap, ◌∙◌, subst, arith, lit<, Option, Some, None, option_map}
use Rattle.std.proofs.lemmas.Bool.{false_from_ne_true, both_ways}
use Rattle.std.proofs.lemmas.Option.{same_Some}
use Rattle.view_model.specs.Forest.{View, Forest, ViewState, Live, Committed, Invalid, Closed, no_views, path, is_prefix, is_proper_prefix, state_of, view_of, state, path_of, next_number}
use Rattle.view_model.specs.Calls.{Call, Make, Direct, Close, Commit, Answer, Given, Done, Refused, NoMemory, Step, Steps, made, committed, directed, closed, closed_by, view_refused, refused_in}
use Rattle.view_model.specs.Laws.{DeadViewsStay}
use Rattle.view_model.proofs.Prefixes.{proper_parts, proper_shorter, proper_of_prefix, not_among_more, among_more}
use Rattle.view_model.proofs.States.{Dead, ByCommit, ByClose, ByOthers, live_parts, dead_parts, committed_from, closed_from, invalid_from}
use Rattle.view_model.proofs.Found.{found_number, found-map, found-append}
use Rattle.view_model.proofs.Commits.{state-committed, path_found}
use Rattle.view_model.proofs.Numbers.{AreNumbered, number-closed_by, number_within, numbered_step, numbered_steps}

-- the state of a view that is not live, and the view
pub record IsDead (f : Forest) (n : ℕ) (s : ViewState) : Type 0 where
  pub view : View
  pub is : view_of f n ≡ Some view
  pub dead : Dead f.store view s

pub is_dead : (f : Forest) (n : ℕ) (s : ViewState) → state f n ≡ Some s → s ≢ Live → IsDead f n s
is_dead f n s h apart = go (view_of f n) refl h
  where
    go : (o : Option View) → view_of f n ≡ o → option_map (state_of f.store) o ≡ Some s → IsDead f n s
    go None e h = absurd (cc)
    go (Some v) e h =
        let same : state_of f.store v ≡ s = same_Some _ _ h in
        record { view = v; is = e; dead = subst (Dead f.store v) same (dead_parts f.store v (λ l. apart (sym same ∙ l))) }

-- by what tells it
state_dead : (store : List ℕ) (v : View) (s : ViewState) → Dead store v s → state_of store v ≡ s
state_dead store v Live d = elim d [ ]
state_dead store v Committed (ByCommit a) = committed_from store v a
state_dead store v Closed (ByClose a c) = closed_from store v a c
state_dead store v Invalid (ByOthers a c p) = invalid_from store v a c p

-- the path of the store goes on by a number that is not the view's
dead_more : (store : List ℕ) (n : ℕ) (v : View) (s : ViewState) → (v.number ≡ n → ⊥) → Dead store v s → Dead (store ++ n ∷ []) v s
dead_more store n v Live apart d = elim d [ ]
dead_more store n v Committed apart (ByCommit a) = ByCommit (among_more v.number store (n ∷ []) a)
dead_more store n v Closed apart (ByClose a c) = ByClose (not_among_more v.number n store a apart) c
dead_more store n v Invalid apart (ByOthers a c p) =
    ByOthers (not_among_more v.number n store a apart) c
    (false_from_ne_true _ (λ t. both_ways _ p (proper_shorter store (n ∷ []) (path v) (proper_parts (store ++ n ∷ []) (path v) t).0 (lit< tt))))

-- ---- each call

made_dead : (f : Forest) (parent : Option ℕ) (batch : _) (n : ℕ) (s : ViewState) → IsDead f n s → state (made f parent batch) n ≡ Some s
made_dead f parent batch n s d =
    ap (option_map (state_of f.store)) (found-append n f.views _ d.view d.is) ∙ ap Some (state_dead f.store d.view s d.dead)

-- a number is committed that the view does not have
committed_dead : (f : Forest) (m n : ℕ) (s : ViewState) → IsDead f n s → (n ≡ m → ⊥) → state (committed f m) n ≡ Some s
committed_dead f m n s d apart =
    let own : d.view.number ≡ n = found_number n f.views d.view d.is in
    state-committed f m n
    ∙ (ap (option_map (state_of (f.store ++ m ∷ []))) d.is ∙ ap Some (state_dead (f.store ++ m ∷ []) d.view s (dead_more f.store m d.view s (λ e. apart (sym own ∙ e)) d.dead)))

directed_dead : (f : Forest) (n : ℕ) (s : ViewState) → AreNumbered 1 f.views → IsDead f n s → state (directed f) n ≡ Some s
directed_dead f n s counted d =
    let after : IsDead (made f None []) n s = record { view = d.view; is = found-append n f.views _ d.view d.is; dead = d.dead } in
    let low : n < 1 + length f.views = (number_within 1 n f.views d.view counted d.is).1 in
    committed_dead (made f None []) (next_number f) n s after (λ e. absurd (omega arith))

-- ---- closing

-- what is closed stays closed, and what stood behind no path that is ahead of the store is left alone
dead_closed : (store through : List ℕ) (v : View) (s : ViewState) → is_proper_prefix store through ≡ true → Dead store v s → state_of store (closed_by through v) ≡ s
dead_closed store through v s ahead d = go (is_prefix through (path v)) refl s d
  where
    go : (b : Bool) → is_prefix through (path v) ≡ b → (s : ViewState) → Dead store v s → state_of store (cond b (record v { batch = None; closed = true }) v) ≡ s
    go false e s d = state_dead store v s d
    go true e Live d = elim d [ ]
    go true e Committed (ByCommit a) = committed_from store (record v { batch = None; closed = true }) a
    go true e Closed (ByClose a c) = closed_from store (record v { batch = None; closed = true }) a refl
    go true e Invalid (ByOthers a c p) = absurd (both_ways _ p (proper_of_prefix store through (path v) ahead e))

-- the path of a live view is ahead of the store
pub live_ahead : (f : Forest) (m : ℕ) → state f m ≡ Some Live → is_proper_prefix f.store (path_of f m) ≡ true
live_ahead f m h = go (view_of f m) refl h
  where
    go : (o : Option View) → view_of f m ≡ o → option_map (state_of f.store) o ≡ Some Live → is_proper_prefix f.store (path_of f m) ≡ true
    go None e h = absurd (cc)
    go (Some v) e h = ap (is_proper_prefix f.store) (path_found f m v e) ∙ (live_parts f.store v (same_Some _ _ h)).ahead

pub live_unless_refused : (o : Option ViewState) → refused_in o ≡ None → o ≡ Some Live
live_unless_refused None h = absurd (cc)
live_unless_refused (Some Live) h = refl
live_unless_refused (Some Committed) h = absurd (cc)
live_unless_refused (Some Invalid) h = absurd (cc)
live_unless_refused (Some Closed) h = absurd (cc)

closed_dead : (f : Forest) (m n : ℕ) (s : ViewState) → view_refused f m ≡ None → IsDead f n s → state (closed f m) n ≡ Some s
closed_dead f m n s open' d =
    ap (option_map (state_of f.store)) (found-map (closed_by (path_of f m)) (number-closed_by (path_of f m)) n f.views ∙ ap (option_map (closed_by (path_of f m))) d.is)
    ∙ ap Some (dead_closed f.store (path_of f m) d.view s (live_ahead f m (live_unless_refused (state f m) open')) d.dead)

-- ---- lists of calls

unchanged : (f g : Forest) (n : ℕ) (s : ViewState) → g ≡ f → state f n ≡ Some s → state g n ≡ Some s
unchanged f g n s e h = ap (λ (k : Forest). state k n) e ∙ h

stays : (f g : Forest) (c : Call) (a : Answer) (n : ℕ) (s : ViewState) → AreNumbered 1 f.views → Step f c a g → state f n ≡ Some s → s ≢ Live → state g n ≡ Some s
stays f g (Make parent batch) (Given k) n s counted h e apart = ap (λ (x : Forest). state x n) h.2 ∙ made_dead f parent batch n s (is_dead f n s e apart)
stays f g (Make parent batch) (Refused r) n s counted h e apart = unchanged f g n s h.1 e
stays f g (Make parent batch) NoMemory n s counted h e apart = unchanged f g n s h.1 e
stays f g (Make parent batch) Done n s counted h e apart = absurd h
stays f g Direct (Given k) n s counted h e apart = ap (λ (x : Forest). state x n) h.2 ∙ directed_dead f n s counted (is_dead f n s e apart)
stays f g Direct (Refused r) n s counted h e apart = unchanged f g n s h.2 e
stays f g Direct NoMemory n s counted h e apart = unchanged f g n s h e
stays f g Direct Done n s counted h e apart = absurd h
stays f g (Close m) Done n s counted h e apart = ap (λ (x : Forest). state x n) h.1 ∙ closed_dead f m n s h.0 (is_dead f n s e apart)
stays f g (Close m) (Refused r) n s counted h e apart = unchanged f g n s h.1 e
stays f g (Close m) (Given k) n s counted h e apart = absurd h
stays f g (Close m) NoMemory n s counted h e apart = absurd h
stays f g (Commit m) Done n s counted h e apart =
    let other : n ≡ m → ⊥ = λ same. let live : state f n ≡ Some Live = ap (state f) same ∙ h.0.0 in apart (same_Some _ _ (sym e ∙ live)) in
    ap (λ (x : Forest). state x n) h.1 ∙ committed_dead f m n s (is_dead f n s e apart) other
stays f g (Commit m) (Refused r) n s counted h e apart = absurd h
stays f g (Commit m) (Given k) n s counted h e apart = absurd h
stays f g (Commit m) NoMemory n s counted h e apart = absurd h

all_stay : (f g : Forest) (ss : List (Call × Answer)) (n : ℕ) (s : ViewState) → AreNumbered 1 f.views → Steps f ss g → state f n ≡ Some s → s ≢ Live → state g n ≡ Some s
all_stay f g [] n s counted h e apart = unchanged f g n s h e
all_stay f g (x ∷ ss) n s counted (between, first, others) e apart =
    all_stay between g ss n s (numbered_step f between x.0 x.1 counted first) others (stays f between x.0 x.1 n s counted first e apart) apart

pub dead_views_stay : DeadViewsStay
dead_views_stay before after f g h k n s e apart = all_stay f g after n s (numbered_steps no_views f before tt h) k e apart
