-- What an accepted range proof says, and which range proofs are accepted.
use Rattle.std.proofs.Common.{◌≡◌, ◌⊎◌, ℕ, ◌≤◌, List, [], false, ap, ◌∙◌, subst, Result, Ok, Err, None}
use Rattle.std.specs.Prelude.{IfErr, OnOk}
use Rattle.trie_model.specs.Bits.{IsWidth}
use Rattle.trie_model.specs.Maps.{Map, IsMap, limits}
use Rattle.trie_model.specs.Maps.{root as root_of}
use Rattle.range_model.specs.Ranges.{Range, IsRange}
use Rattle.proof_model.specs.RangeLaws.{IsRangeClaim, RangeBreak, AcceptedRangesAreTrue, UncutRangesAreWhole, TrueRangesAreAccepted}
use Rattle.proof_model.specs.RangeProofs.{RangeProof, pairs_in, reached_range, range_proof, range_refusal}
use Rattle.proof_check.specs.CheckResults.{Tells}
use Rattle.proof_check.specs.declared.verify_fault.VerifyFault.{VerifyFault}
use Rattle.proof_check.specs.declared.verify_fault.VerifyFault.TheVariants as faults
use Rattle.point_proof.proofs.AcceptedProofs.{no_reason}

module _ (w : ℕ) (ww : IsWidth w) (root : List ℕ) (asked : Range) (range : IsRange limits asked) (p : RangeProof) (r : Result (Unit {0}) VerifyFault) (told : Tells r (range_refusal w asked root p)) where
  -- what is accepted is true of each map with the root, up to where its pairs reach
  pub accepted_is_true : AcceptedRangesAreTrue → IsRangeClaim limits w p
      → OnOk r ((m : Map) → IsMap limits m → root ≡ root_of w m → RangeBreak w asked p m ⊎ (p.pairs ≡ pairs_in m (reached_range asked p.cut p.pairs)))
  accepted_is_true law claim = go r told
    where
      go : (r : Result (Unit {0}) VerifyFault) → Tells r (range_refusal w asked root p) → OnOk r ((m : Map) → IsMap limits m → root ≡ root_of w m → RangeBreak w asked p m ⊎ (p.pairs ≡ pairs_in m (reached_range asked p.cut p.pairs)))
      go (Ok x) told = λ m h e. law limits w asked p m ww range claim h (subst (λ root. range_refusal w asked root p ≡ None) e told)
      go (Err f) told = tt

  -- and in the whole range, where it is not cut or lists nothing
  pub uncut_is_whole : UncutRangesAreWhole → IsRangeClaim limits w p
      → OnOk r ((m : Map) → IsMap limits m → root ≡ root_of w m → (p.cut ≡ false) ⊎ (p.pairs ≡ []) → RangeBreak w asked p m ⊎ (p.pairs ≡ pairs_in m asked))
  uncut_is_whole law claim = go r told
    where
      go : (r : Result (Unit {0}) VerifyFault) → Tells r (range_refusal w asked root p) → OnOk r ((m : Map) → IsMap limits m → root ≡ root_of w m → (p.cut ≡ false) ⊎ (p.pairs ≡ []) → RangeBreak w asked p m ⊎ (p.pairs ≡ pairs_in m asked))
      go (Ok x) told = λ m h e. law limits w asked p m ww range claim h (subst (λ root. range_refusal w asked root p ≡ None) e told)
      go (Err f) told = tt

  -- what is true is accepted, where there is memory
  pub true_is_accepted : TrueRangesAreAccepted → (m : Map) (n z : ℕ) → IsMap limits m → root ≡ root_of w m → 1 ≤ n → p ≡ range_proof w m asked n z → IfErr r (λ fault. fault ≡ faults.NoMemory)
  true_is_accepted law m n z h e pos q = go r told
    where
      go : (r : Result (Unit {0}) VerifyFault) → Tells r (range_refusal w asked root p) → IfErr r (λ fault. fault ≡ faults.NoMemory)
      go (Ok x) told = tt
      go (Err f) told = no_reason f (range_refusal w asked root p) (ap (λ root. range_refusal w asked root p) e ∙ ap (range_refusal w asked (root_of w m)) q ∙ law limits w m asked n z ww h range pos) told
