-- The numbers of views.
use Rattle.std.proofs.Common.{◌≡◌, ℕ, suc, ◌+◌, ◌<◌, ◌≤◌, Bool, true, false, cond, nat_eq, List, [], ◌∷◌, ◌++◌, map, length, refl, sym, ap, ◌∙◌, subst, arith, Some, None, length-append}
use Rattle.std.proofs.lemmas.Bool.{eqb-true}
use Rattle.std.proofs.lemmas.List.{length-map}
use Rattle.view_model.specs.Forest.{View, Forest, no_views, path, is_prefix, next_number}
use Rattle.view_model.specs.Calls.{Call, Make, Direct, Close, Commit, Answer, Given, Done, Refused, NoMemory, Step, Steps, kept_by, closed_by, given, made}
use Rattle.view_model.specs.Laws.{AreFrom, NumbersAreGivenOnce}
use Rattle.view_model.proofs.Found.{found}

-- views with the numbers from k on
abbrev pub AreNumbered : ℕ → List View → Type 0
AreNumbered k [] = Unit {0}
AreNumbered k (v ∷ vs) = (v.number ≡ k) × AreNumbered (suc k) vs

pub number_within : (k n : ℕ) (vs : List View) (v : View) → AreNumbered k vs → found n vs ≡ Some v → (k ≤ n) × (n < k + length vs)
number_within k n [] v h e = absurd (cc)
number_within k n (x ∷ xs) v h e = go (nat_eq x.number n) refl e (number_within (suc k) n xs v h.1)
  where
    go : (b : Bool) → nat_eq x.number n ≡ b → cond b (Some x) (found n xs) ≡ Some v → (found n xs ≡ Some v → (suc k ≤ n) × (n < suc k + length xs)) → (k ≤ n) × (n < k + length (x ∷ xs))
    go true t e ih = let own : x.number ≡ n = eqb-true x.number n t in let first : x.number ≡ k = h.0 in (omega arith, omega arith)
    go false t e ih = let r = ih e in (omega (arith, r.0), omega (arith, r.1))

numbered_push : (k : ℕ) (vs : List View) (v : View) → AreNumbered k vs → v.number ≡ k + length vs → AreNumbered k (vs ++ v ∷ [])
numbered_push k [] v h e = (omega (arith, e), tt)
numbered_push k (x ∷ xs) v h e = (h.0, numbered_push (suc k) xs v h.1 (omega (arith, e)))

numbered_map : (g : View → View) → ((v : View) → (g v).number ≡ v.number) → (k : ℕ) (vs : List View) → AreNumbered k vs → AreNumbered k (map g vs)
numbered_map g keeps k [] h = tt
numbered_map g keeps k (v ∷ vs) h = (keeps v ∙ h.0, numbered_map g keeps (suc k) vs h.1)

pub number-closed_by : (through : List ℕ) (v : View) → (closed_by through v).number ≡ v.number
number-closed_by through v = go (is_prefix through (path v))
  where
    go : (b : Bool) → (cond b (record v { batch = None; closed = true }) v).number ≡ v.number
    go true = refl
    go false = refl

-- ---- each call

numbered_made : (f : Forest) (v : View) → v.number ≡ next_number f → AreNumbered 1 f.views → AreNumbered 1 (f.views ++ v ∷ [])
numbered_made f v e h = numbered_push 1 f.views v h (omega (arith, e))

pub numbered_step : (f g : Forest) (c : Call) (a : Answer) → AreNumbered 1 f.views → Step f c a g → AreNumbered 1 g.views
numbered_step f g (Make parent batch) (Given n) h s = subst (λ (x : Forest). AreNumbered 1 x.views) (sym s.2) (numbered_made f _ refl h)
numbered_step f g (Make parent batch) (Refused r) h s = subst (λ (x : Forest). AreNumbered 1 x.views) (sym s.1) h
numbered_step f g (Make parent batch) NoMemory h s = subst (λ (x : Forest). AreNumbered 1 x.views) (sym s.1) h
numbered_step f g (Make parent batch) Done h s = absurd s
numbered_step f g Direct (Given n) h s =
    subst (λ (x : Forest). AreNumbered 1 x.views) (sym s.2) (numbered_map (kept_by (f.store ++ next_number f ∷ [])) (λ v. refl) 1 _ (numbered_made f _ refl h))
numbered_step f g Direct (Refused r) h s = subst (λ (x : Forest). AreNumbered 1 x.views) (sym s.2) h
numbered_step f g Direct NoMemory h s = subst (λ (x : Forest). AreNumbered 1 x.views) (sym s) h
numbered_step f g Direct Done h s = absurd s
numbered_step f g (Close n) Done h s = subst (λ (x : Forest). AreNumbered 1 x.views) (sym s.1) (numbered_map (closed_by _) (number-closed_by _) 1 f.views h)
numbered_step f g (Close n) (Refused r) h s = subst (λ (x : Forest). AreNumbered 1 x.views) (sym s.1) h
numbered_step f g (Close n) (Given m) h s = absurd s
numbered_step f g (Close n) NoMemory h s = absurd s
numbered_step f g (Commit n) Done h s = subst (λ (x : Forest). AreNumbered 1 x.views) (sym s.1) (numbered_map (kept_by (f.store ++ n ∷ [])) (λ v. refl) 1 f.views h)
numbered_step f g (Commit n) (Refused r) h s = absurd s
numbered_step f g (Commit n) (Given m) h s = absurd s
numbered_step f g (Commit n) NoMemory h s = absurd s

pub numbered_steps : (f g : Forest) (ss : List (Call × Answer)) → AreNumbered 1 f.views → Steps f ss g → AreNumbered 1 g.views
numbered_steps f g [] h s = subst (λ (x : Forest). AreNumbered 1 x.views) (sym s) h
numbered_steps f g (x ∷ ss) h (between, first, others) = numbered_steps between g ss (numbered_step f between x.0 x.1 h first) others

-- ---- the numbers that are given

same_next : (f g : Forest) → g ≡ f → next_number g ≡ next_number f
same_next f g e = ap next_number e

one_more : (f : Forest) (v : View) → length (f.views ++ v ∷ []) + 1 ≡ suc (next_number f)
one_more f v = omega (arith, length-append f.views (v ∷ []))

from : (k : ℕ) (n : ℕ) (ns : List ℕ) → n ≡ k → AreFrom n ns → AreFrom k ns
from k n ns e h = subst (λ (x : ℕ). AreFrom x ns) e h

given_from : (f g : Forest) (ss : List (Call × Answer)) → Steps f ss g → AreFrom (next_number f) (given ss)
given_from f g [] s = tt
given_from f g ((Make parent batch, Given n) ∷ ss) (between, s, others) =
    (s.1, from _ _ (given ss) (ap next_number s.2 ∙ one_more f _) (given_from between g ss others))
given_from f g ((Make parent batch, Refused r) ∷ ss) (between, s, others) = from _ _ (given ss) (same_next f between s.1) (given_from between g ss others)
given_from f g ((Make parent batch, NoMemory) ∷ ss) (between, s, others) = from _ _ (given ss) (same_next f between s.1) (given_from between g ss others)
given_from f g ((Make parent batch, Done) ∷ ss) (between, s, others) = absurd s
given_from f g ((Direct, Given n) ∷ ss) (between, s, others) =
    (s.1, from _ _ (given ss) (ap next_number s.2 ∙ (ap (λ n. n + 1) (length-map (made f None []).views (kept_by (f.store ++ next_number f ∷ []))) ∙ one_more f _)) (given_from between g ss others))
given_from f g ((Direct, Refused r) ∷ ss) (between, s, others) = from _ _ (given ss) (same_next f between s.2) (given_from between g ss others)
given_from f g ((Direct, NoMemory) ∷ ss) (between, s, others) = from _ _ (given ss) (same_next f between s) (given_from between g ss others)
given_from f g ((Direct, Done) ∷ ss) (between, s, others) = absurd s
given_from f g ((Close n, Done) ∷ ss) (between, s, others) =
    from _ _ (given ss) (ap next_number s.1 ∙ ap (λ n. n + 1) (length-map f.views _)) (given_from between g ss others)
given_from f g ((Close n, Refused r) ∷ ss) (between, s, others) = from _ _ (given ss) (same_next f between s.1) (given_from between g ss others)
given_from f g ((Close n, Given m) ∷ ss) (between, s, others) = absurd s
given_from f g ((Close n, NoMemory) ∷ ss) (between, s, others) = absurd s
given_from f g ((Commit n, Done) ∷ ss) (between, s, others) =
    from _ _ (given ss) (ap next_number s.1 ∙ ap (λ n. n + 1) (length-map f.views _)) (given_from between g ss others)
given_from f g ((Commit n, Refused r) ∷ ss) (between, s, others) = absurd s
given_from f g ((Commit n, Given m) ∷ ss) (between, s, others) = absurd s
given_from f g ((Commit n, NoMemory) ∷ ss) (between, s, others) = absurd s

pub numbers_are_given_once : NumbersAreGivenOnce
numbers_are_given_once calls f s = given_from no_views f calls s
