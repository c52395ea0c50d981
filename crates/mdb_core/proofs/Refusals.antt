-- Why calls on views are refused, as a store tells it.
use Rattle.std.proofs.Common.{◌≡◌, ℕ, true, false, List, [], ◌∷◌, ◌++◌, drop, length, refl, sym, ap, ◌∙◌, subst, arith, Option, Some, None, Result, Ok, Err}
use Rattle.std.specs.Prelude.{MatchOption}
use Rattle.std.proofs.Math.Seq.{drop-append_seam}
use Rattle.std.proofs.lemmas.List.{same_from_push, length-map}
use Rattle.batch_model.specs.Batch.{Change}
use Rattle.view_model.specs.Forest.{Forest, Live, state, path_of}
use Rattle.view_model.specs.Calls.{Refusal, Unknown, NotLive, TooMany, TooDeep, TooHeavy, view_refused, parent_refused, make_refused, MayCommit, is_next}
use Rattle.view_model.specs.Standing.{IsForest, AreLive, parent_of}
use Rattle.view_model.proofs.ViewMaps.{chain}
use Rattle.view_model.proofs.Prefixes.{after_prefix, proper_parts}
use Rattle.view_model.proofs.Commits.{next_is_told}
use Rattle.view_model.proofs.DeadViews.{live_ahead, live_unless_refused}
use Rattle.view_model.proofs.LiveViews.{alive, path_by_parent}
use Rattle.view_stack.specs.ViewAnswers.{fault_told, number_in, numbers}
use Rattle.view_stack.specs.declared.state.ViewId.{ViewId}
use Rattle.view_stack.specs.declared.fault.ViewFault.{ViewFault}
use Rattle.mdb_core.specs.Stores.{DbState, is_failed}
use Rattle.mdb_core.specs.Places.{fault_of_refusal, GetFails, number_at}
use Rattle.mdb_core.specs.Proposals.{MakeFails, TakeFails}
use Rattle.mdb_core.specs.Faults.{fault_of_view}
use Rattle.mdb_core.specs.declared.store.At.{At}
use Rattle.mdb_core.specs.declared.store.At.TheVariants.{View}
use Rattle.mdb_core.specs.declared.fault.DbFault.{DbFault}

-- ---- what an answer tells

-- an error has a refusal
pub refused_why : (o : Option Refusal) (res : Result (Unit {0}) DbFault) (fault : DbFault) → MatchOption o (res ≡ Ok tt) (λ r. res ≡ Err (fault_of_refusal r)) → res ≡ Err fault → (r : Refusal) × (o ≡ Some r) × (fault ≡ fault_of_refusal r)
refused_why None res fault h e = absurd (cc)
refused_why (Some r) res fault h e = (r, refl, let p : Err fault ≡ Err (fault_of_refusal r) = sym e ∙ h in cc)

pub not_refused : (o : Option Refusal) (res : Result (Unit {0}) DbFault) (x : Unit {0}) → MatchOption o (res ≡ Ok tt) (λ r. res ≡ Err (fault_of_refusal r)) → res ≡ Ok x → o ≡ None
not_refused None res x h e = refl
not_refused (Some r) res x h e = absurd (cc)

told_alike : (r : Refusal) → fault_of_view (fault_told r) ≡ fault_of_refusal r
told_alike Unknown = refl
told_alike (NotLive s) = refl
told_alike TooMany = refl
told_alike TooDeep = refl
told_alike TooHeavy = refl

pub view_refused_why : (o : Option Refusal) (res : Result (Unit {0}) ViewFault) (fault : ViewFault) → MatchOption o (res ≡ Ok tt) (λ r. res ≡ Err (fault_told r)) → res ≡ Err fault → (r : Refusal) × (o ≡ Some r) × (fault_of_view fault ≡ fault_of_refusal r)
view_refused_why None res fault h e = absurd (cc)
view_refused_why (Some r) res fault h e = (r, refl, (let p : Err fault ≡ Err (fault_told r) = sym e ∙ h in let q : fault ≡ fault_told r = cc in ap fault_of_view q) ∙ told_alike r)

-- ---- the faults of calls

get_refused : (s : DbState) (at : At) (r : Refusal) → is_failed s ≡ false → parent_refused s.forest (number_at at) ≡ Some r → GetFails s at (fault_of_refusal r)
get_refused s at Unknown works h = (works, Unknown, h, refl)
get_refused s at (NotLive x) works h = (works, NotLive x, h, refl)
get_refused s at TooMany works h = (works, TooMany, h, refl)
get_refused s at TooDeep works h = (works, TooDeep, h, refl)
get_refused s at TooHeavy works h = (works, TooHeavy, h, refl)

pub get_fails : (s : DbState) (at : At) (id : ViewId) (res : Result (Unit {0}) DbFault) (fault : DbFault) → is_failed s ≡ false → at ≡ View id → MatchOption (view_refused s.forest id.number) (res ≡ Ok tt) (λ r. res ≡ Err (fault_of_refusal r)) → res ≡ Err fault → GetFails s at fault
get_fails s at id res fault works place h e =
    let why = refused_why (view_refused s.forest id.number) res fault h e in
    subst (GetFails s at) (sym why.2) (get_refused s at why.0 works (ap (λ a. parent_refused s.forest (number_at a)) place ∙ why.1))

make_refuses : (s : DbState) (p : Option ℕ) (batch : List Change) (r : Refusal) → is_failed s ≡ false → make_refused s.forest p batch ≡ Some r → MakeFails s p batch (fault_of_refusal r)
make_refuses s p batch Unknown works h = (works, Unknown, h, refl)
make_refuses s p batch (NotLive x) works h = (works, NotLive x, h, refl)
make_refuses s p batch TooMany works h = (works, TooMany, h, refl)
make_refuses s p batch TooDeep works h = (works, TooDeep, h, refl)
make_refuses s p batch TooHeavy works h = (works, TooHeavy, h, refl)

pub make_fails : (s : DbState) (p : Option ℕ) (batch : List Change) (res : Result (Unit {0}) ViewFault) (fault : ViewFault) (told : DbFault) → is_failed s ≡ false → MatchOption (make_refused s.forest p batch) (res ≡ Ok tt) (λ r. res ≡ Err (fault_told r)) → res ≡ Err fault → told ≡ fault_of_view fault → MakeFails s p batch told
make_fails s p batch res fault told works h e is =
    let why = view_refused_why (make_refused s.forest p batch) res fault h e in
    subst (MakeFails s p batch) (sym (is ∙ why.2)) (make_refuses s p batch why.0 works why.1)

take_refuses : (s : DbState) (n : ℕ) (r : Refusal) → is_failed s ≡ false → view_refused s.forest n ≡ Some r → TakeFails s n (fault_of_refusal r)
take_refuses s n Unknown works h = (works, Unknown, h, refl)
take_refuses s n (NotLive x) works h = (works, NotLive x, h, refl)
take_refuses s n TooMany works h = (works, TooMany, h, refl)
take_refuses s n TooDeep works h = (works, TooDeep, h, refl)
take_refuses s n TooHeavy works h = (works, TooHeavy, h, refl)

pub take_fails : (s : DbState) (n : ℕ) (res : Result (Unit {0}) DbFault) (fault : DbFault) → is_failed s ≡ false → MatchOption (view_refused s.forest n) (res ≡ Ok tt) (λ r. res ≡ Err (fault_of_refusal r)) → res ≡ Err fault → TakeFails s n fault
take_fails s n res fault works h e =
    let why = refused_why (view_refused s.forest n) res fault h e in
    subst (TakeFails s n) (sym why.2) (take_refuses s n why.0 works why.1)

-- ---- views that may be committed

-- the chain of a live view that may be committed is the view alone
alone_next : (f : Forest) (n : ℕ) → is_next f n ≡ true → drop (length f.store) (path_of f n) ≡ n ∷ []
alone_next f n h = ap (drop (length f.store)) ((next_is_told f n).0 h) ∙ drop-append_seam f.store (n ∷ [])

one_behind : (store path : List ℕ) (parent : List ℕ) (n : ℕ) (rest : List ℕ) → path ≡ parent ++ n ∷ [] → path ≡ store ++ rest → length rest ≡ 1 → path ≡ store ++ n ∷ []
one_behind store path parent n [] is at one = absurd (omega (arith, one))
one_behind store path parent n (x ∷ y ∷ rest) is at one = absurd (omega (arith, one))
one_behind store path parent n (x ∷ []) is at one = at ∙ ap (λ k. store ++ k ∷ []) (same_from_push store parent x n (sym at ∙ is)).1

pub may_commit : (f : Forest) (n : ℕ) (ids : List ViewId) → state f n ≡ Some Live → numbers ids ≡ drop (length f.store) (path_of f n) → length ids ≡ 1 → MayCommit f n
may_commit f n ids live chain one =
    let a = alive f n live in
    let behind = after_prefix f.store (path_of f n) (proper_parts f.store (path_of f n) (live_ahead f n live)).0 in
    let rest : drop (length f.store) (path_of f n) ≡ behind.0 = ap (drop (length f.store)) behind.1 ∙ drop-append_seam f.store behind.0 in
    (live, one_behind f.store (path_of f n) (parent_of f n) n behind.0 (path_by_parent f n a.view a.is) behind.1 (omega (arith, ap length (chain ∙ rest), length-map ids (λ (i : ViewId). i.number), one)))

pub live_state : (f : Forest) (n : ℕ) → view_refused f n ≡ None → state f n ≡ Some Live
live_state f n h = live_unless_refused (state f n) h

-- the chain of a parent is of live views
pub chain_live : (s t : DbState) (parent : Option ViewId) (id : ViewId) (ids : List ViewId) → s ≡ t → IsForest s.forest → parent ≡ Some id → parent_refused t.forest (number_in parent) ≡ None
    → numbers ids ≡ drop (length s.forest.store) (path_of s.forest id.number) → AreLive t.forest (numbers ids)
chain_live s t parent id ids same h some may is =
    let live : state s.forest id.number ≡ Some Live = live_state s.forest id.number (ap (λ (x : DbState). view_refused x.forest id.number) same ∙ (sym (ap (λ p. parent_refused t.forest (number_in p)) some) ∙ may)) in
    subst (λ (x : DbState). AreLive x.forest (numbers ids)) same (subst (AreLive s.forest) (sym is) (chain s.forest id.number h live))

pub chain_forest : (s t : DbState) → s ≡ t → IsForest s.forest → IsForest t.forest
chain_forest s t same h = subst (λ (x : DbState). IsForest x.forest) same h
