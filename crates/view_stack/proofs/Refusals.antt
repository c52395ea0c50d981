-- Why a view is not made, or nothing is done with one.
use Rattle.std.proofs.Common.{◌≡◌, inl, inr, ℕ, zero, suc, [], ◌+◌, ◌<◌, ◌≤◌, Bool, true, false, cond, List, ◌++◌, drop, length, refl, sym, ap, ◌∙◌, subst, arith, Option, Some, None, option_map, unwrap_or, Result, Ok, Err}
use Rattle.std.specs.Option.{option_or, MatchOption, option_and_then}
use Rattle.std.specs.Result.{IsOkAnd, IfOk}
use Rattle.std.proofs.lemmas.Bool.{le-leb, lt-leb, lt-ltb, le-ltb, leb-false, ltb-false, cases_lt}
use Rattle.std.proofs.lemmas.Option.{same_Some}
use Rattle.std.proofs.lemmas.List.{drop_at}
use lib.Dec.{ltb, leb}
use Rattle.batch_model.specs.Batch.{Change}
use Rattle.view_model.specs.Forest.{View, ViewState as State, Live as live, Committed as committed, Invalid as invalid, Closed as closed, state, path_of, weight, payload}
use Rattle.view_model.specs.Calls.{Refusal, Unknown as unknown, NotLive as not_live, TooMany as too_many, TooDeep as too_deep, TooHeavy as too_heavy, number_limit, depth_limit, weight_limit, refused_in, view_refused, parent_path, new_depth, limit_passed}
use Rattle.view_model.specs.Maps.{changes_of}
use Rattle.view_stack.specs.declared.state.ViewState.TheVariants.{Live as is_live}
use Rattle.view_stack.specs.declared.fault.ViewFault.{ViewFault}
use Rattle.view_stack.specs.declared.slot.Kept.{Kept}
use Rattle.view_stack.specs.declared.slot.Kept.TheVariants.{Live, Committed, Invalid, Closed}
use Rattle.view_stack.specs.Slots.{TreeState}
use Rattle.view_stack.specs.Tree.{Has, kept_at, live_at, is_live_kept}
use Rattle.view_stack.specs.Links.{IsOpen}
use Rattle.view_stack.specs.Paths.{tree_path}
use Rattle.view_stack.specs.Forests.{kept_batch, kept_state, forest_of, IsTree}
use Rattle.view_stack.specs.ViewAnswers.{state_told, fault_told}
use Rattle.view_stack.proofs.WrittenViews.{live_has}
use Rattle.view_stack.proofs.Forests.{view_of-forest, state-forest, state-none, store-forest, path_of-forest, count-forest, weight-forest}

-- ---- variants

pub match_some : {A : Type 0} (P : Type 0) (Q : A → Type 0) (o : Option A) (x : A) → o ≡ Some x → Q x → MatchOption o P Q
match_some {A} P Q o x e h = subst (λ (w : Option A). MatchOption w P Q) (sym e) h

pub match_none : {A : Type 0} (P : Type 0) (Q : A → Type 0) (o : Option A) → o ≡ None → P → MatchOption o P Q
match_none {A} P Q o e h = subst (λ (w : Option A). MatchOption w P Q) (sym e) h

pub match_weaker : {A : Type 0} (P R : Type 0) (Q : A → Type 0) (o : Option A) → MatchOption o P Q → (P → R) → MatchOption o R Q
match_weaker P R Q None h f = f h
match_weaker P R Q (Some x) h f = h

pub ok_weaker : {A E : Type 0} (P Q : A → Type 0) (r : Result A E) → IsOkAnd r P → ((x : A) → P x → Q x) → IsOkAnd r Q
ok_weaker P Q (Ok x) h f = f x h
ok_weaker P Q (Err e) h f = h

-- ---- one view

pub kept_live : (k : Kept) → state_told (kept_state k) ≡ is_live → (kept_state k ≡ live) × (is_live_kept k ≡ true)
kept_live (Live batch) h = (refl, refl)
kept_live Committed h = absurd (cc)
kept_live Invalid h = absurd (cc)
kept_live Closed h = absurd (cc)

pub live_kept : (k : Kept) → kept_state k ≡ live → is_live_kept k ≡ true
live_kept (Live batch) h = refl
live_kept Committed h = absurd (cc)
live_kept Invalid h = absurd (cc)
live_kept Closed h = absurd (cc)

pub kept_alive : (k : Kept) → is_live_kept k ≡ true → kept_state k ≡ live
kept_alive (Live batch) h = refl
kept_alive Committed h = absurd (cc)
kept_alive Invalid h = absurd (cc)
kept_alive Closed h = absurd (cc)

pub refused_dead : (s : State) → (state_told s ≡ is_live → ⊥) → refused_in (Some s) ≡ Some (not_live s)
refused_dead live h = absurd (h refl)
refused_dead committed h = refl
refused_dead invalid h = refl
refused_dead closed h = refl

pub view_refused-none : (t : TreeState) (n : ℕ) → (Has t n → ⊥) → view_refused (forest_of t) n ≡ Some unknown
view_refused-none t n h = ap refused_in (state-none t n h)

pub view_refused-kept : (t : TreeState) (n : ℕ) → IsTree t → Has t n → view_refused (forest_of t) n ≡ refused_in (Some (kept_state (kept_at t n)))
view_refused-kept t n tree h = ap refused_in (state-forest t n tree.sound.linked.rooted tree.marked h)

pub view_refused-live : (t : TreeState) (n : ℕ) → IsTree t → live_at t n ≡ true → view_refused (forest_of t) n ≡ None
view_refused-live t n tree h = view_refused-kept t n tree (live_has t n h) ∙ ap (λ s. refused_in (Some s)) (kept_alive (kept_at t n) h)

-- a view that is live in the forest is live in the tree
pub live_in_tree : (t : TreeState) (n : ℕ) → IsTree t → state (forest_of t) n ≡ Some live → live_at t n ≡ true
live_in_tree t zero tree h = absurd (let no : None ≡ Some live = sym (state-none t zero (λ k. absurd (omega (arith, k.given)))) ∙ h in cc)
live_in_tree t (suc i) tree h = elim (cases_lt i (length t.slots)) [ inl l ↦ made l | inr l ↦ absurd (past l) ]
  where
    made : i < length t.slots → live_at t (suc i) ≡ true
    made l = live_kept (kept_at t (suc i)) (same_Some _ _ (sym (state-forest t (suc i) tree.sound.linked.rooted tree.marked (record { given = omega arith; within = omega arith })) ∙ h))

    past : length t.slots ≤ i → ⊥
    past l = let no : None ≡ Some live = sym (state-none t (suc i) (λ k. absurd (omega (arith, k.within, l)))) ∙ h in cc

pub live_in_forest : (t : TreeState) (n : ℕ) → IsTree t → live_at t n ≡ true → state (forest_of t) n ≡ Some live
live_in_forest t n tree h = state-forest t n tree.sound.linked.rooted tree.marked (live_has t n h) ∙ ap Some (kept_alive (kept_at t n) h)

-- the changes that are held of it
pub changes-held : (t : TreeState) (n : ℕ) (changes : List Change) → IsTree t → live_at t n ≡ true → kept_batch (kept_at t n) ≡ Some changes → changes_of (forest_of t) n ≡ changes
changes-held t n changes tree h e =
    ap (λ (o : Option View). unwrap_or (option_and_then (λ (v : View). v.batch) o) []) (view_of-forest t n (live_has t n h)) ∙ ap (λ (o : Option (List Change)). unwrap_or o []) e

-- ---- parents

-- what is on the store, or on a live view
pub parent_store : (t : TreeState) → IsOpen t t.last × (tree_path t t.last ≡ parent_path (forest_of t) None)
parent_store t = (inl refl, sym (store-forest t))

pub parent_live : (t : TreeState) (n m : ℕ) → IsTree t → (m ≡ n) × (live_at t m ≡ true) → IsOpen t m × (tree_path t m ≡ parent_path (forest_of t) (Some n))
parent_live t n m tree h = (inr h.1, sym (path_of-forest t m tree.sound.linked.rooted.below (live_has t m h.1)) ∙ ap (path_of (forest_of t)) h.0)

-- ---- limits

module _ (t : TreeState) (p : Option ℕ) (batch : List Change) where
  pub told_too_many : number_limit ≤ length t.slots → limit_passed (forest_of t) p batch ≡ Some too_many
  told_too_many h = ap (λ b. cond b (Some too_many) (cond (ltb depth_limit (new_depth (forest_of t) p)) (Some too_deep) (cond (ltb weight_limit (weight (forest_of t) + payload batch)) (Some too_heavy) None))) (le-leb number_limit (length (forest_of t).views) (omega (arith, h, count-forest t)))

  few : length t.slots < number_limit → limit_passed (forest_of t) p batch ≡ cond (ltb depth_limit (new_depth (forest_of t) p)) (Some too_deep) (cond (ltb weight_limit (weight (forest_of t) + payload batch)) (Some too_heavy) None)
  few h = ap (λ b. cond b (Some too_many) (cond (ltb depth_limit (new_depth (forest_of t) p)) (Some too_deep) (cond (ltb weight_limit (weight (forest_of t) + payload batch)) (Some too_heavy) None))) (lt-leb number_limit (length (forest_of t).views) (omega (arith, h, count-forest t)))

  pub told_too_deep : length t.slots < number_limit → depth_limit < new_depth (forest_of t) p → limit_passed (forest_of t) p batch ≡ Some too_deep
  told_too_deep h d = few h ∙ ap (λ b. cond b (Some too_deep) (cond (ltb weight_limit (weight (forest_of t) + payload batch)) (Some too_heavy) None)) (lt-ltb depth_limit (new_depth (forest_of t) p) d)

  near : length t.slots < number_limit → new_depth (forest_of t) p ≤ depth_limit → limit_passed (forest_of t) p batch ≡ cond (ltb weight_limit (weight (forest_of t) + payload batch)) (Some too_heavy) None
  near h d = few h ∙ ap (λ b. cond b (Some too_deep) (cond (ltb weight_limit (weight (forest_of t) + payload batch)) (Some too_heavy) None)) (le-ltb depth_limit (new_depth (forest_of t) p) d)

  pub told_too_heavy : length t.slots < number_limit → new_depth (forest_of t) p ≤ depth_limit → weight_limit < weight (forest_of t) + payload batch → limit_passed (forest_of t) p batch ≡ Some too_heavy
  told_too_heavy h d w = near h d ∙ ap (λ b. cond b (Some too_heavy) None) (lt-ltb weight_limit (weight (forest_of t) + payload batch) w)

  pub told_nothing : length t.slots < number_limit → new_depth (forest_of t) p ≤ depth_limit → weight (forest_of t) + payload batch ≤ weight_limit → limit_passed (forest_of t) p batch ≡ None
  told_nothing h d w = near h d ∙ ap (λ b. cond b (Some too_heavy) None) (le-ltb weight_limit (weight (forest_of t) + payload batch) w)

-- by how far the parent is from the store
pub new_depth-walked : (t : TreeState) (p : Option ℕ) (parent depth : ℕ) → tree_path t parent ≡ parent_path (forest_of t) p → depth + length (tree_path t t.last) ≡ length (tree_path t parent) → new_depth (forest_of t) p ≡ depth + 1
new_depth-walked t p parent depth way e = omega (arith, e, ap length way, ap length (store-forest t))

-- ---- both

-- the fault that is told of a refusal
abbrev pub IsTold : ViewFault → Refusal → Type 0
IsTold fault r = ◌≡◌ {A = Result ℕ ViewFault} (Err fault) (Err (fault_told r))

pub refused_by_limit : (o l : Option Refusal) (fault : ViewFault) → o ≡ None → Some fault ≡ option_map fault_told l → MatchOption (option_or o l) ⊥ (IsTold fault)
refused_by_limit o None fault none e = absurd (cc)
refused_by_limit o (Some r) fault none e = match_some ⊥ (IsTold fault) (option_or o (Some r)) r (ap (λ (w : Option Refusal). option_or w (Some r)) none) (ap Err (same_Some fault (fault_told r) e))

pub refused_by_parent : (o l : Option Refusal) (fault : ViewFault) → MatchOption o ⊥ (IsTold fault) → MatchOption (option_or o l) ⊥ (IsTold fault)
refused_by_parent None l fault h = absurd h
refused_by_parent (Some r) l fault h = h

-- what is answered with a number is not refused
pub ok_admits : {Q : Type 0} (o : Option Refusal) (n : ℕ) → MatchOption o Q (λ r. ◌≡◌ {A = Result ℕ ViewFault} (Ok n) (Err (fault_told r))) → (o ≡ None) × Q
ok_admits {Q} None n h = (refl, h)
ok_admits {Q} (Some r) n h = absurd (cc)

pub none_parts : (o l : Option Refusal) → option_or o l ≡ None → (o ≡ None) × (l ≡ None)
none_parts None l h = (refl, h)
none_parts (Some r) l h = absurd (cc)

-- where no limit is passed
pub record IsWithin (t : TreeState) (batch : List Change) : Type 0 where
  pub few : length t.slots < number_limit
  pub light : t.weight + payload batch ≤ weight_limit

pub within_limits : (t : TreeState) (p : Option ℕ) (batch : List Change) → IsTree t → limit_passed (forest_of t) p batch ≡ None → IsWithin t batch
within_limits t p batch tree h = go (leb number_limit (length (forest_of t).views)) (ltb depth_limit (new_depth (forest_of t) p)) (ltb weight_limit (weight (forest_of t) + payload batch)) refl refl h
  where
    go : (a b c : Bool) → leb number_limit (length (forest_of t).views) ≡ a → ltb weight_limit (weight (forest_of t) + payload batch) ≡ c → cond a (Some too_many) (cond b (Some too_deep) (cond c (Some too_heavy) None)) ≡ None → IsWithin t batch
    go true b c ea ec e = absurd (cc)
    go false true c ea ec e = absurd (cc)
    go false false true ea ec e = absurd (cc)
    go false false false ea ec e = record {
      few = omega (arith, leb-false number_limit (length (forest_of t).views) ea, count-forest t);
      light = omega (arith, ltb-false weight_limit (weight (forest_of t) + payload batch) ec, weight-forest t tree.sound tree.marked);
    }

pub if_ok_weaker : {A E : Type 0} (P Q : A → Type 0) (r : Result A E) → IfOk r P → ((x : A) → P x → Q x) → IfOk r Q
if_ok_weaker P Q (Ok x) h f = f x h
if_ok_weaker P Q (Err e) h f = h

-- the numbers that a path has past that of the store
pub chain_past : (t : TreeState) (n : ℕ) (ns : List ℕ) → IsTree t → live_at t n ≡ true → tree_path t n ≡ tree_path t t.last ++ ns → ns ≡ drop (length (forest_of t).store) (path_of (forest_of t) n)
chain_past t n ns tree h e =
    sym (ap (λ s. drop (length s) (path_of (forest_of t) n)) (store-forest t)
    ∙ (ap (drop (length (tree_path t t.last))) (path_of-forest t n tree.sound.linked.rooted.below (live_has t n h) ∙ e) ∙ drop_at (tree_path t t.last) ns (length (tree_path t t.last)) refl))
