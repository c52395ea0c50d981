-- The maps of live views.
use Rattle.std.proofs.Common.{◌≡◌, ◌⊎◌, inl, inr, ℕ, zero, suc, ◌≤◌, true, false, cond, List, [], ◌∷◌, ◌++◌, drop, length, refl, sym, ap, ◌∙◌, subst, arith, length-append, append_assoc, Option, Some, None, option_map, unwrap_or}
use Rattle.std.specs.Option.{option_and_then}
use Rattle.std.proofs.Math.Seq.{drop-length, drop-append_seam}
use Rattle.std.proofs.lemmas.List.{drop-append-le}
use Rattle.std.proofs.lemmas.Option.{same_Some}
use Rattle.trie_model.specs.Maps.{Map}
use Rattle.batch_model.specs.Batch.{Change, after_batch}
use Rattle.view_model.specs.Forest.{View, Forest, ViewState, Live, Committed, Invalid, Closed, path, is_prefix, is_proper_prefix, state_of, view_of, state, path_of, next_number}
use Rattle.view_model.specs.Calls.{Make, Direct, Close, Commit, Given, Done, Refused, NoMemory, made, committed, closed, kept_by, MayCommit, parent_refused, parent_path}
use Rattle.view_model.specs.Maps.{changes_of, laid, view_map, parent_map}
use Rattle.view_model.specs.Standing.{IsForest, IsOpen, AreLive, parent_of}
use Rattle.view_model.specs.Laws.{DirectsEndAll, MadeOnParents, LiveMapsStay, CommitsTakeMaps}
use Rattle.view_model.proofs.Prefixes.{after_prefix, length-prefix, proper_parts, proper_not_itself}
use Rattle.view_model.proofs.States.{LiveIn, live_from}
use Rattle.view_model.proofs.Found.{found-append}
use Rattle.view_model.proofs.Commits.{path_found, next_is_told, commits_keep_what_stands_on}
use Rattle.view_model.proofs.DeadViews.{live_ahead, live_unless_refused}
use Rattle.view_model.proofs.LiveViews.{IsAlive, alive, live_found, path_by_parent, new_view, found_cases, spared, committed_view, path_of-committed}
use Rattle.view_model.proofs.Forests.{not_yet, new_found, new_path, new_live, parent_begins, closed-IsForest, committed-IsForest, direct_may}

-- ---- laying batches on

pub laid-append : (f : Forest) (m : Map) (ns more : List ℕ) → laid f m (ns ++ more) ≡ laid f (laid f m ns) more
laid-append f m [] more = refl
laid-append f m (n ∷ ns) more = laid-append f (after_batch m (changes_of f n)) ns more

AreLive-append : (f : Forest) (ns more : List ℕ) → AreLive f ns → AreLive f more → AreLive f (ns ++ more)
AreLive-append f [] more h k = k
AreLive-append f (n ∷ ns) more h k = (h.0, AreLive-append f ns more h.1 k)

-- where live views have the same changes in two forests, they are laid on alike
pub laid_alike : (f g : Forest) (m : Map) (ns : List ℕ) → AreLive f ns → ((n : ℕ) → state f n ≡ Some Live → changes_of g n ≡ changes_of f n) → laid g m ns ≡ laid f m ns
laid_alike f g m [] h same = refl
laid_alike f g m (n ∷ ns) h same = ap (λ cs. laid g (after_batch m cs) ns) (same n h.0) ∙ laid_alike f g (after_batch m (changes_of f n)) ns h.1 same

-- ---- the views on a path

-- the path of a live view goes on behind that of the store
past_store : (f : Forest) (n : ℕ) → state f n ≡ Some Live → length f.store ≤ length (parent_of f n)
past_store f n live =
    let a = alive f n live in
    let p = proper_parts f.store (path_of f n) (live_ahead f n live) in
    omega (arith, p.1, ap length (path_by_parent f n a.view a.is), length-append (parent_of f n) (n ∷ []))

chain_within : (most : ℕ) (f : Forest) (n : ℕ) → IsForest f → length (path_of f n) ≤ most → state f n ≡ Some Live → AreLive f (drop (length f.store) (path_of f n))
chain_within zero f n h l live = let p = (proper_parts f.store (path_of f n) (live_ahead f n live)).1 in absurd (omega (arith, p))
chain_within (suc most) f n h l live =
    subst (AreLive f) (sym split) (AreLive-append f (drop (length f.store) (parent_of f n)) (n ∷ []) (from (h.stands n live) (λ p l on. chain_within most f p h l on)) (live, tt))
  where
    a : IsAlive f n
    a = alive f n live

    split : drop (length f.store) (path_of f n) ≡ drop (length f.store) (parent_of f n) ++ n ∷ []
    split = ap (drop (length f.store)) (path_by_parent f n a.view a.is) ∙ drop-append-le (length f.store) (parent_of f n) (n ∷ []) (past_store f n live)

    from : IsOpen f (parent_of f n) → ((p : ℕ) → length (path_of f p) ≤ most → state f p ≡ Some Live → AreLive f (drop (length f.store) (path_of f p))) → AreLive f (drop (length f.store) (parent_of f n))
    from (inl e) ih = subst (AreLive f) (sym (ap (drop (length f.store)) e ∙ drop-length f.store)) tt
    from (inr (p, on, e)) ih =
        let shorter : length (path_of f p) ≤ most = omega (arith, l, ap length e, ap length (path_by_parent f n a.view a.is), length-append (parent_of f n) (n ∷ [])) in
        subst (λ (q : List ℕ). AreLive f (drop (length f.store) q)) (sym e) (ih p shorter on)

-- the views on the path of a live one, behind that of the store, are live
pub chain : (f : Forest) (n : ℕ) → IsForest f → state f n ≡ Some Live → AreLive f (drop (length f.store) (path_of f n))
chain f n h live = chain_within (length (path_of f n)) f n h (omega arith) live

-- ---- changes that stay

pub changes_found : (f : Forest) (n : ℕ) (v : View) → view_of f n ≡ Some v → changes_of f n ≡ unwrap_or v.batch []
changes_found f n v e = ap (λ (o : Option View). unwrap_or (option_and_then (λ (v : View). v.batch) o) []) e

pub same_changes : (f g : Forest) (n : ℕ) → view_of g n ≡ view_of f n → changes_of g n ≡ changes_of f n
same_changes f g n e = ap (λ (o : Option View). unwrap_or (option_and_then (λ (v : View). v.batch) o) []) e

same_path : (f g : Forest) (n : ℕ) → view_of g n ≡ view_of f n → path_of g n ≡ path_of f n
same_path f g n e = ap (λ (o : Option View). unwrap_or (option_map path o) []) e

pub made_view : (f : Forest) (parent : Option ℕ) (batch : List Change) (n : ℕ) → state f n ≡ Some Live → view_of (made f parent batch) n ≡ view_of f n
made_view f parent batch n live = let a = alive f n live in found-append n f.views (new_view f parent batch ∷ []) a.view a.is ∙ sym a.is

closed_view-live : (f : Forest) (c n : ℕ) → state (closed f c) n ≡ Some Live → view_of (closed f c) n ≡ view_of f n
closed_view-live f c n live = (spared f c n (alive (closed f c) n live)).same

-- of a view that is live in a store's path the changes are kept
batch-kept_by : (store : List ℕ) (v : View) → LiveIn store v → (kept_by store v).batch ≡ v.batch
batch-kept_by store v l = go (state_of store v) (live_from store v l)
  where
    go : (s : ViewState) → s ≡ Live → cond (elim s [ Live ↦ true | Committed ↦ false | Invalid ↦ false | Closed ↦ false ]) v.batch None ≡ v.batch
    go s e = subst (λ (s : ViewState). cond (elim s [ Live ↦ true | Committed ↦ false | Invalid ↦ false | Closed ↦ false ]) v.batch None ≡ v.batch) (sym e) refl

pub changes_of-committed : (f : Forest) (c n : ℕ) → state (committed f c) n ≡ Some Live → changes_of (committed f c) n ≡ changes_of f n
changes_of-committed f c n live = go (view_of f n) refl (alive (committed f c) n live)
  where
    go : (o : Option View) → view_of f n ≡ o → IsAlive (committed f c) n → changes_of (committed f c) n ≡ changes_of f n
    go None e a = let none : None ≡ Some a.view = sym (committed_view f c n ∙ ap (option_map (kept_by (f.store ++ c ∷ []))) e) ∙ a.is in absurd (cc)
    go (Some v) e a =
        let store : List ℕ = f.store ++ c ∷ [] in
        let is : view_of (committed f c) n ≡ Some (kept_by store v) = committed_view f c n ∙ ap (option_map (kept_by store)) e in
        let l : LiveIn store (kept_by store v) = subst (LiveIn store) (same_Some _ _ (sym a.is ∙ is)) a.live in
        changes_found (committed f c) n (kept_by store v) is
        ∙ (ap (λ (b : Option (List Change)). unwrap_or b []) (batch-kept_by store v (record { waits = l.waits; opened = l.opened; ahead = l.ahead })) ∙ sym (changes_found f n v e))

-- ---- maps that stay

pub view_map-made : (f : Forest) (parent : Option ℕ) (batch : List Change) (m : Map) (n : ℕ) → IsForest f → state f n ≡ Some Live → view_map (made f parent batch) m n ≡ view_map f m n
view_map-made f parent batch m n h live =
    ap (λ (q : List ℕ). laid (made f parent batch) m (drop (length f.store) q)) (same_path f (made f parent batch) n (made_view f parent batch n live))
    ∙ laid_alike f (made f parent batch) m (drop (length f.store) (path_of f n)) (chain f n h live) (λ k on. same_changes f (made f parent batch) k (made_view f parent batch k on))

pub view_map-closed : (f : Forest) (c : ℕ) (m : Map) (n : ℕ) → IsForest f → state (closed f c) n ≡ Some Live → view_map (closed f c) m n ≡ view_map f m n
view_map-closed f c m n h live =
    sym (laid_alike (closed f c) f m (drop (length f.store) (path_of (closed f c) n)) (chain (closed f c) n (closed-IsForest f c h) live) (λ k on. sym (same_changes f (closed f c) k (closed_view-live f c k on))))
    ∙ ap (λ (q : List ℕ). laid f m (drop (length f.store) q)) (same_path f (closed f c) n (closed_view-live f c n live))

-- the map of what is committed next is the map with its changes laid on
next_map : (f : Forest) (m : Map) (n : ℕ) → path_of f n ≡ f.store ++ n ∷ [] → view_map f m n ≡ after_batch m (changes_of f n)
next_map f m n e = ap (laid f m) (ap (drop (length f.store)) e ∙ drop-append_seam f.store (n ∷ []))

pub view_map-committed : (f : Forest) (c : ℕ) (m : Map) (n : ℕ) → IsForest f → MayCommit f c → state (committed f c) n ≡ Some Live
    → view_map (committed f c) (after_batch m (changes_of f c)) n ≡ view_map f m n
view_map-committed f c m n h may live = let r = after_prefix (f.store ++ c ∷ []) (path_of f n) begins in go r.0 r.1
  where
    begins : is_prefix (f.store ++ c ∷ []) (path_of f n) ≡ true
    begins = (proper_parts (f.store ++ c ∷ []) (path_of f n) (subst (λ (q : List ℕ). is_proper_prefix q (path_of f n) ≡ true) may.1 ((commits_keep_what_stands_on f c n may).0 live).1)).0

    go : (rest : List ℕ) → path_of f n ≡ (f.store ++ c ∷ []) ++ rest → view_map (committed f c) (after_batch m (changes_of f c)) n ≡ view_map f m n
    go rest e =
        let after : drop (length (f.store ++ c ∷ [])) (path_of (committed f c) n) ≡ rest =
        ap (drop (length (f.store ++ c ∷ []))) (path_of-committed f c n ∙ e) ∙ drop-append_seam (f.store ++ c ∷ []) rest in
        let before : drop (length f.store) (path_of f n) ≡ c ∷ rest = ap (drop (length f.store)) (e ∙ append_assoc f.store (c ∷ []) rest) ∙ drop-append_seam f.store (c ∷ rest) in
        let on : AreLive (committed f c) rest = subst (AreLive (committed f c)) after (chain (committed f c) n (committed-IsForest f c h may) live) in
        ap (laid (committed f c) (after_batch m (changes_of f c))) after
        ∙ (sym (laid_alike (committed f c) f (after_batch m (changes_of f c)) rest on (λ k l. sym (changes_of-committed f c k l)))
        ∙ ap (laid f m) (sym before))

-- ---- after a batch that is committed at once

-- the first number behind the path of the store is that of a live view
first_live : (f : Forest) (n k : ℕ) (rest : List ℕ) → IsForest f → state f n ≡ Some Live → path_of f n ≡ (f.store ++ k ∷ []) ++ rest → state f k ≡ Some Live
first_live f n k rest h live e =
    let parts : drop (length f.store) (path_of f n) ≡ k ∷ rest = ap (drop (length f.store)) (e ∙ append_assoc f.store (k ∷ []) rest) ∙ drop-append_seam f.store (k ∷ rest) in
    (subst (AreLive f) parts (chain f n h live)).0

-- a view on one that is only made now was not there before
none_on_new : (f : Forest) (n : ℕ) → IsForest f → IsAlive (made f None []) n → is_proper_prefix (f.store ++ next_number f ∷ []) (path_of (made f None []) n) ≡ true → ⊥
none_on_new f n h a on = go (found_cases n f.views (new_view f None []) a.view a.is)
  where
    way : path_of (made f None []) n ≡ path a.view
    way = path_found (made f None []) n a.view a.is

    not_given : IsAlive f (next_number f) → ⊥
    not_given first = let none : Some first.view ≡ None = sym first.is ∙ not_yet f h in absurd (cc)

    before : view_of f n ≡ Some a.view → ⊥
    before old =
        let r = after_prefix (f.store ++ next_number f ∷ []) (path_of (made f None []) n) (proper_parts (f.store ++ next_number f ∷ []) (path_of (made f None []) n) on).0 in
        not_given (alive f (next_number f) (first_live f n (next_number f) r.0 h (live_found f n a.view old a.live) (path_found f n a.view old ∙ (sym way ∙ r.1))))

    go : (view_of f n ≡ Some a.view) ⊎ ((new_view f None [] ≡ a.view) × (next_number f ≡ n)) → ⊥
    go (inl old) = before old
    go (inr new) = proper_not_itself _ _ on (way ∙ ap path (sym new.0))

pub directs_end_all : DirectsEndAll
directs_end_all f n h live =
    let was = (commits_keep_what_stands_on (made f None []) (next_number f) n (direct_may f h)).0 live in
    none_on_new f n h (alive (made f None []) n was.0) (subst (λ (q : List ℕ). is_proper_prefix q (path_of (made f None []) n) ≡ true) (new_path f None [] h) was.1)

-- ---- the laws

pub made_on_parents : MadeOnParents
made_on_parents f m parent batch h may = (new_live f parent batch h may, ap (laid (made f parent batch) m) split ∙ (laid-append (made f parent batch) m (drop (length f.store) (parent_path f parent)) (next_number f ∷ []) ∙ both))
  where
    split : drop (length f.store) (path_of (made f parent batch) (next_number f)) ≡ drop (length f.store) (parent_path f parent) ++ next_number f ∷ []
    split =
        ap (drop (length f.store)) (new_path f parent batch h)
        ∙ drop-append-le (length f.store) (parent_path f parent) (next_number f ∷ []) (length-prefix f.store (parent_path f parent) (parent_begins f parent may))

    base : (parent : Option ℕ) → parent_refused f parent ≡ None → laid (made f parent batch) m (drop (length f.store) (parent_path f parent)) ≡ parent_map f m parent
    base None may = ap (laid (made f None batch) m) (drop-length f.store)
    base (Some p) may =
        let live : state f p ≡ Some Live = live_unless_refused (state f p) may in
        laid_alike f (made f (Some p) batch) m (drop (length f.store) (path_of f p)) (chain f p h live) (λ k on. same_changes f (made f (Some p) batch) k (made_view f (Some p) batch k on))

    both : after_batch (laid (made f parent batch) m (drop (length f.store) (parent_path f parent))) (changes_of (made f parent batch) (next_number f)) ≡ after_batch (parent_map f m parent) batch
    both =
        ap (λ k. after_batch k (changes_of (made f parent batch) (next_number f))) (base parent may)
        ∙ ap (after_batch (parent_map f m parent)) (changes_found (made f parent batch) (next_number f) (new_view f parent batch) (new_found f parent batch h))

stays : (f g : Forest) (m k : Map) (n : ℕ) → g ≡ f → k ≡ m → view_map g k n ≡ view_map f m n
stays f g m k n e d = ap (λ (x : Forest). view_map x k n) e ∙ ap (λ (x : Map). view_map f x n) d

pub live_maps_stay : LiveMapsStay
live_maps_stay f g (Make parent batch) (Given n) m k h s moves i before after = stays (made f parent batch) g m k i s.2 moves ∙ view_map-made f parent batch m i h before
live_maps_stay f g (Make parent batch) (Refused r) m k h s moves i before after = stays f g m k i s.1 moves
live_maps_stay f g (Make parent batch) NoMemory m k h s moves i before after = stays f g m k i s.1 moves
live_maps_stay f g (Make parent batch) Done m k h s moves i before after = absurd s
live_maps_stay f g Direct (Given n) m k h s moves i before after = absurd (directs_end_all f i h (subst (λ (x : Forest). state x i ≡ Some Live) s.2 after))
live_maps_stay f g Direct (Refused r) m k h s moves i before after = stays f g m k i s.2 moves
live_maps_stay f g Direct NoMemory m k h s moves i before after = stays f g m k i s moves
live_maps_stay f g Direct Done m k h s moves i before after = absurd s
live_maps_stay f g (Close n) Done m k h s moves i before after = stays (closed f n) g m k i s.1 moves ∙ view_map-closed f n m i h (subst (λ (x : Forest). state x i ≡ Some Live) s.1 after)
live_maps_stay f g (Close n) (Refused r) m k h s moves i before after = stays f g m k i s.1 moves
live_maps_stay f g (Close n) (Given j) m k h s moves i before after = absurd s
live_maps_stay f g (Close n) NoMemory m k h s moves i before after = absurd s
live_maps_stay f g (Commit n) Done m k h s moves i before after =
    stays (committed f n) g (after_batch m (changes_of f n)) k i s.1 moves ∙ view_map-committed f n m i h s.0 (subst (λ (x : Forest). state x i ≡ Some Live) s.1 after)
live_maps_stay f g (Commit n) (Refused r) m k h s moves i before after = absurd s
live_maps_stay f g (Commit n) (Given j) m k h s moves i before after = absurd s
live_maps_stay f g (Commit n) NoMemory m k h s moves i before after = absurd s

pub commits_take_maps : CommitsTakeMaps
commits_take_maps f m n h = sym (next_map f m n ((next_is_told f n).0 h))
