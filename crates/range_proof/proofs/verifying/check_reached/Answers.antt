use Rattle.std.proofs.Common.{ap, ◌∙◌, sym, subst, map}
use Rattle.bit_keys.specs.Branch.{width_of}
use Rattle.proof_model.specs.RangeProofs.{RangeProof}
use Rattle.proof_check.specs.Claims.{keys_of, pair_of, IsCheckable}
use Rattle.range_proof.proofs.CheckedRange.{claim_is, checkable, range_told, range_cost}
use Rattle.range_proof.proofs.verifying.check_reached.Goals as goal

pub check-requires : goal.check-requires
check-requires g c =
    let p = c.args.proof.now in
    let claim = claim_is c.as_slice.result.now c.args.reached.now c.as_slice-2.result.now c.as_slice-3.result.now p
    (ap keys_of c.as_slice.ensures.value ∙ c.in_ok-entries.ensures.keys) (ap (map pair_of) c.as_slice.ensures.value ∙ c.in_ok-entries.ensures.pairs)
    (c.as_slice-2.ensures.value ∙ ap (λ (p : RangeProof). p.start) c.proof.view_is) (c.as_slice-3.ensures.value ∙ ap (λ (p : RangeProof). p.end) c.proof.view_is) in
    subst (IsCheckable (width_of c.args.branch) c.args.asked.now) (sym claim) (checkable c.args.asked.now p c.args.reached.now c.requires.reached (width_of c.args.branch) c.requires.claim)

pub returns-clause-refusal : goal.returns-clause-refusal
returns-clause-refusal g c =
    let p = c.args.proof.now in
    let claim = claim_is c.as_slice.result.now c.args.reached.now c.as_slice-2.result.now c.as_slice-3.result.now p
    (ap keys_of c.as_slice.ensures.value ∙ c.in_ok-entries.ensures.keys) (ap (map pair_of) c.as_slice.ensures.value ∙ c.in_ok-entries.ensures.pairs)
    (c.as_slice-2.ensures.value ∙ ap (λ (p : RangeProof). p.start) c.proof.view_is) (c.as_slice-3.ensures.value ∙ ap (λ (p : RangeProof). p.end) c.proof.view_is) in
    range_told (width_of c.args.branch) c.args.asked.now c.args.root.now p c.args.reached.now c.requires.reached c.check.result _ claim c.check.ensures.told

pub returns-clause-cost : goal.returns-clause-cost
returns-clause-cost g c =
    let p = c.args.proof.now in
    let claim = claim_is c.as_slice.result.now c.args.reached.now c.as_slice-2.result.now c.as_slice-3.result.now p
    (ap keys_of c.as_slice.ensures.value ∙ c.in_ok-entries.ensures.keys) (ap (map pair_of) c.as_slice.ensures.value ∙ c.in_ok-entries.ensures.pairs)
    (c.as_slice-2.ensures.value ∙ ap (λ (p : RangeProof). p.start) c.proof.view_is) (c.as_slice-3.ensures.value ∙ ap (λ (p : RangeProof). p.end) c.proof.view_is) in
    range_cost (width_of c.args.branch) c.args.asked.now c.args.root.now p c.args.reached.now c.requires.reached c.check.result c.args.steps.now c.check.new.steps _ claim c.check.ensures.told c.check.ensures.cost
