-- What an accepted change proof says, and which change proofs are accepted.
use Rattle.std.proofs.Common.{◌≡◌, ◌⊎◌, ℕ, ◌≤◌, List, refl, ap, ◌∙◌, subst, inl, inr, Option, Some, None, Result, Ok, Err}
use Rattle.std.specs.Prelude.{IfErr, OnOk}
use Rattle.trie_model.specs.Bits.{IsWidth}
use Rattle.trie_model.specs.Maps.{Map, IsMap, limits}
use Rattle.trie_model.specs.Maps.{root as root_of}
use Rattle.range_model.specs.Ranges.{Range, IsRange}
use Rattle.batch_model.specs.Batch.{after_batch}
use Rattle.proof_model.specs.ChangeLaws.{IsChangeClaim, ChangeBreak, AcceptedChangesAreTrue, TrueChangesAreAccepted}
use Rattle.proof_model.specs.ChangeProofs.{ChangeProof, changes_reach, change_proof, change_refusal}
use Rattle.proof_model.specs.RangeProofs.{pairs_in}
use Rattle.proof_model.specs.Refusals.{Refusal}
use Rattle.proof_check.specs.declared.verify_fault.VerifyFault.{VerifyFault}
use Rattle.proof_check.specs.declared.verify_fault.VerifyFault.TheVariants as faults
use Rattle.change_proof.specs.CheckAnswers.{TellsOr}

-- where there is no reason, the answer is want of memory or a failed source
no_reason : (f : VerifyFault) (why : Option Refusal) → why ≡ None → TellsOr (Err f) why → (f ≡ faults.NoMemory) ⊎ (f ≡ faults.Failed)
no_reason (faults.Unsorted i) why e h = absurd cc
no_reason (faults.Outside i) why e h = absurd cc
no_reason (faults.PathOrder i) why e h = absurd cc
no_reason (faults.PathsDiffer i) why e h = absurd cc
no_reason (faults.Idle i) why e h = absurd cc
no_reason (faults.RootDiffers have want) why e h = absurd cc
no_reason faults.Failed why e h = inr refl
no_reason faults.NoMemory why e h = inl refl

module _ (w : ℕ) (ww : IsWidth w) (root : List ℕ) (asked : Range) (range : IsRange limits asked) (p : ChangeProof) (Told : Map → Type 0) where
  abbrev IsTold : Result (Unit {0}) VerifyFault → Type 0
  IsTold r = (m : Map) → Told m → TellsOr r (change_refusal w asked m root p)

  -- what is accepted leads each local map that is told to each map with the root, up to where the changes reach
  pub accepted_is_true : (r : Result (Unit {0}) VerifyFault) → IsTold r → AcceptedChangesAreTrue → IsChangeClaim limits w p
      → OnOk r ((l m : Map) → Told l → IsMap limits l → IsMap limits m → root ≡ root_of w m → ChangeBreak w asked l p m ⊎ (pairs_in (after_batch l p.changes) (changes_reach asked p.cut p.changes) ≡ pairs_in m (changes_reach asked p.cut p.changes)))
  accepted_is_true (Ok x) told law claim = λ l m t hl hm e. law limits w asked l p m ww range claim hl hm (subst (λ root. change_refusal w asked l root p ≡ None) e (told l t))
  accepted_is_true (Err f) told law claim = tt

  -- what is true is accepted, where there is memory and the source does not fail
  pub true_is_accepted : (r : Result (Unit {0}) VerifyFault) → IsTold r → TrueChangesAreAccepted → (l m : Map) (n z : ℕ) → Told l → IsMap limits l → IsMap limits m → root ≡ root_of w m → 1 ≤ n → p ≡ change_proof w l m asked n z
      → IfErr r (λ fault. (fault ≡ faults.NoMemory) ⊎ (fault ≡ faults.Failed))
  true_is_accepted (Ok x) told law l m n z t hl hm e pos q = tt
  true_is_accepted (Err f) told law l m n z t hl hm e pos q =
      no_reason f (change_refusal w asked l root p) (ap (λ root. change_refusal w asked l root p) e ∙ ap (change_refusal w asked l (root_of w m)) q ∙ law limits w l m asked n z ww hl hm range pos) (told l t)
