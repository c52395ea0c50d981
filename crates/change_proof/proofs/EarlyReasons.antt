-- The reasons that are told whatever the local map is, and what they leave to tell.
use Rattle.std.proofs.Common.{◌≡◌, ℕ, zero, suc, ◌-◌, ◌≤◌, true, List, [], ◌∷◌, length, refl, sym, ap, ◌∙◌, subst, Option, Some, None, Result, Ok, Err}
use Rattle.std.specs.List.{AllByRecursion, slice_get}
use Rattle.base_model.specs.Member.{Member}
use Rattle.trie_model.specs.Ids.{id}
use Rattle.trie_model.specs.Maps.{Map, limits}
use Rattle.trie_model.proofs.KeySets.{All-of}
use Rattle.trie_model.proofs.Lists.{All-weaker}
use Rattle.range_model.specs.Ranges.{Range, holds}
use Rattle.batch_model.specs.Batch.{Change, AreRising}
use Rattle.proof_model.specs.ChangeLaws.{IsChangeClaim}
use Rattle.proof_model.specs.ChangeProofs.{ChangeProof, changed_keys, changes_reach, change_claim, change_refusal, is_idle}
use Rattle.proof_model.specs.Claims.{claim_items}
use Rattle.proof_model.specs.RangeLaws.{IsKey}
use Rattle.proof_model.specs.Refusals.{Refusal, Unsorted, Outside, PathOrder, PathsDiffer, Idle, RootDiffers, first_break, first_place, is_less, lies_outside, disagrees_with, or_else, path_break, path_refusal, root_refusal, refusal}
use Rattle.proof_model.proofs.ListedChanges.{ordered, ordered_rising, inside, reach-of, reach-holds}
use Rattle.proof_check.specs.CheckResults.{Tells, Costs}
use Rattle.proof_check.proofs.FirstReasons.{path_next}
use Rattle.proof_check.specs.declared.verify_fault.VerifyFault.{VerifyFault}
use Rattle.proof_check.specs.declared.verify_fault.VerifyFault.TheVariants as faults
use Rattle.change_proof.specs.CheckAnswers.{TellsOr, TellsEarly, early_refusal, late_refusal}

-- ---- four tests, one after another
module _ (a b c d : Option ℕ) where
  tests : Option Refusal → Option Refusal
  tests next = or_else Unsorted a (or_else Outside b (or_else PathOrder c (or_else PathsDiffer d next)))

  none_of : tests None ≡ None → (a ≡ None) × (b ≡ None) × (or_else PathOrder c (or_else PathsDiffer d None) ≡ None)
  unfolding tests
  none_of h = go a b h
    where
      go : (a b : Option ℕ) → or_else Unsorted a (or_else Outside b (or_else PathOrder c (or_else PathsDiffer d None))) ≡ None → (a ≡ None) × (b ≡ None) × (or_else PathOrder c (or_else PathsDiffer d None) ≡ None)
      go None None h = (refl, refl, h)
      go None (Some j) h = absurd cc
      go (Some i) b h = absurd cc

  -- what they tell is told whatever comes next
  first_of : (next : Option Refusal) (r : Refusal) → tests None ≡ Some r → tests next ≡ Some r
  unfolding tests
  first_of next r h = go a b c d h
    where
      go : (a b c d : Option ℕ) → or_else Unsorted a (or_else Outside b (or_else PathOrder c (or_else PathsDiffer d None))) ≡ Some r → or_else Unsorted a (or_else Outside b (or_else PathOrder c (or_else PathsDiffer d next))) ≡ Some r
      go None None None None h = absurd cc
      go None None None (Some l) h = h
      go None None (Some k) d h = h
      go None (Some j) c d h = h
      go (Some i) b c d h = h

  -- and it is no idle change and no root
  no_idle : (i : ℕ) → tests None ≡ Some (Idle i) → ⊥
  unfolding tests
  no_idle i h = go a b c d h
    where
      go : (a b c d : Option ℕ) → or_else Unsorted a (or_else Outside b (or_else PathOrder c (or_else PathsDiffer d None))) ≡ Some (Idle i) → ⊥
      go None None None None h = cc
      go None None None (Some l) h = cc
      go None None (Some k) d h = cc
      go None (Some j) c d h = cc
      go (Some i) b c d h = cc

  no_root : (have want : List ℕ) → tests None ≡ Some (RootDiffers have want) → ⊥
  unfolding tests
  no_root have want h = go a b c d h
    where
      go : (a b c d : Option ℕ) → or_else Unsorted a (or_else Outside b (or_else PathOrder c (or_else PathsDiffer d None))) ≡ Some (RootDiffers have want) → ⊥
      go None None None None h = cc
      go None None None (Some l) h = cc
      go None None (Some k) d h = cc
      go None (Some j) c d h = cc
      go (Some i) b c d h = cc

module _ (asked : Range) (p : ChangeProof) where
  abbrev unsorted : Option ℕ
  unsorted = first_break is_less 0 (changed_keys p.changes)

  abbrev outside : Option ℕ
  outside = first_place (lies_outside asked) 0 (changed_keys p.changes)

  abbrev broken : Option ℕ
  broken = path_break p.start p.end

  abbrev differs : Option ℕ
  differs = first_place (disagrees_with p.start) (length p.start) p.end

  early-is : early_refusal asked p ≡ tests unsorted outside broken differs None
  unfolding tests path_refusal
  early-is = refl

  -- ---- where there is no such reason
  pub record Passed : Type 0 where
    pub sorted : unsorted ≡ None
    pub within : outside ≡ None
    pub paths : path_refusal p.start p.end None ≡ None

  pub passed : early_refusal asked p ≡ None → Passed
  unfolding path_refusal
  passed h = let x = none_of unsorted outside broken differs (sym early-is ∙ h) in record { sorted = x.0; within = x.1; paths = x.2 }

  pub rising : early_refusal asked p ≡ None → AreRising None p.changes
  rising h = ordered_rising p.changes (ordered p.changes (passed h).sorted)

  pub asked_holds : early_refusal asked p ≡ None → AllByRecursion (λ (c : Change). holds asked c.key ≡ true) p.changes
  asked_holds h = All-of (λ (c : Change). holds asked c.key ≡ true) p.changes (inside asked p.changes (passed h).within)

  pub reached_holds : early_refusal asked p ≡ None → (r : Range) → r ≡ changes_reach asked p.cut p.changes → AllByRecursion (λ (c : Change). holds r c.key ≡ true) p.changes
  reached_holds h r q =
      subst (λ r. AllByRecursion (λ (c : Change). holds r c.key ≡ true) p.changes) (sym q)
      (All-of (λ (c : Change). holds (changes_reach asked p.cut p.changes) c.key ≡ true) p.changes
      (reach-holds asked p.cut p.changes (inside asked p.changes (passed h).within) (reach-of asked p.cut p.changes (ordered p.changes (passed h).sorted))))

  pub no_paths : early_refusal asked p ≡ None → path_refusal p.start p.end None ≡ None
  no_paths h = (passed h).paths

  -- the later reasons tell
  pub refusal-late : (w : ℕ) (m : Map) (root : List ℕ) → early_refusal asked p ≡ None → change_refusal w asked m root p ≡ late_refusal w (changes_reach asked p.cut p.changes) m root p
  unfolding refusal
  refusal-late w m root h =
      let x = passed h in
      let last = or_else Idle (first_place (is_idle m) 0 p.changes) (root_refusal (id w (claim_items w (change_claim asked m p))) root) in
      ap (λ o. or_else Unsorted o (or_else Outside outside (path_refusal p.start p.end last))) x.sorted
      ∙ ap (λ o. or_else Outside o (path_refusal p.start p.end last)) x.within
      ∙ path_next p.start p.end last x.paths

  -- ---- where there is one
  refusal-early : (w : ℕ) (m : Map) (root : List ℕ) (r : Refusal) → early_refusal asked p ≡ Some r → change_refusal w asked m root p ≡ Some r
  unfolding refusal path_refusal tests
  refusal-early w m root r h =
      first_of unsorted outside broken differs (or_else Idle (first_place (is_idle m) 0 p.changes) (root_refusal (id w (claim_items w (change_claim asked m p))) root)) r (sym early-is ∙ h)

  pub told_early : (result : Result (Unit {0}) VerifyFault) → Tells result (early_refusal asked p) → TellsEarly result (early_refusal asked p)
  told_early (Ok x) h = h
  told_early (Err (faults.Unsorted i)) h = h
  told_early (Err (faults.Outside i)) h = h
  told_early (Err (faults.PathOrder i)) h = h
  told_early (Err (faults.PathsDiffer i)) h = h
  told_early (Err (faults.Idle i)) h = absurd (no_idle unsorted outside broken differs i (sym early-is ∙ h))
  told_early (Err (faults.RootDiffers have want)) h = absurd (no_root unsorted outside broken differs have want (sym early-is ∙ h))
  told_early (Err faults.Failed) h = absurd h
  told_early (Err faults.NoMemory) h = tt

  pub told_by_map : (w : ℕ) (m : Map) (root : List ℕ) (f : VerifyFault) → Tells {A = Unit {0}} (Err f) (early_refusal asked p) → TellsOr (Err f) (change_refusal w asked m root p)
  told_by_map w m root (faults.Unsorted i) h = refusal-early w m root (Unsorted i) h
  told_by_map w m root (faults.Outside i) h = refusal-early w m root (Outside i) h
  told_by_map w m root (faults.PathOrder i) h = refusal-early w m root (PathOrder i) h
  told_by_map w m root (faults.PathsDiffer i) h = refusal-early w m root (PathsDiffer i) h
  told_by_map w m root (faults.Idle i) h = refusal-early w m root (Idle i) h
  told_by_map w m root (faults.RootDiffers have want) h = refusal-early w m root (RootDiffers have want) h
  told_by_map w m root faults.Failed h = absurd h
  told_by_map w m root faults.NoMemory h = tt

  pub costs_none : (f : VerifyFault) (old n : ℕ) → Tells {A = Unit {0}} (Err f) (early_refusal asked p) → Costs {A = Unit {0}} (Err f) old old n
  costs_none (faults.Unsorted i) old n h = refl
  costs_none (faults.Outside i) old n h = refl
  costs_none (faults.PathOrder i) old n h = refl
  costs_none (faults.PathsDiffer i) old n h = refl
  costs_none (faults.Idle i) old n h = refl
  costs_none (faults.RootDiffers have want) old n h = absurd (no_root unsorted outside broken differs have want (sym early-is ∙ h))
  costs_none faults.Failed old n h = refl
  costs_none faults.NoMemory old n h = tt

-- ---- the last change
-- what holds of all changes holds of the one that a list answers as its last
pub of_last : (P : Change → Type 0) (cs xs : List Change) (o : Option Change) (c : Change) → AllByRecursion P cs → o ≡ slice_get xs (length xs - 1) → xs ≡ cs → o ≡ Some c → P c
of_last P cs xs o c h q e s = at_place cs (length xs - 1) h (ap (λ (ys : List Change). slice_get ys (length xs - 1)) (sym e) ∙ sym q ∙ s)
  where
    at_place : (xs : List Change) (n : ℕ) → AllByRecursion P xs → slice_get xs n ≡ Some c → P c
    at_place [] n h g = absurd cc
    at_place (x ∷ xs) zero h g = subst P (let s : x ≡ c = cc in s) h.0
    at_place (x ∷ xs) (suc n) h g = at_place xs n h.1 g

pub short_keys : (w : ℕ) (p : ChangeProof) → IsChangeClaim limits w p → AllByRecursion (λ (c : Change). length c.key ≤ 256) p.changes
short_keys w p h = All-weaker (λ (c : Change). IsKey limits c.key) (λ (c : Change). length c.key ≤ 256) p.changes (λ c k. k.short) h.listed

-- what is told of the range that changes tell of is told of the proof
pub told_late : (asked : Range) (p : ChangeProof) (w : ℕ) (m : Map) (root : List ℕ) (r : Range) (result : Result (Unit {0}) VerifyFault) → early_refusal asked p ≡ None → r ≡ changes_reach asked p.cut p.changes → TellsOr result (late_refusal w r m root p) → TellsOr result (change_refusal w asked m root p)
told_late asked p w m root r result h q told =
    subst (TellsOr result) (ap (λ r. late_refusal w r m root p) q ∙ sym (refusal-late asked p w m root h)) told
