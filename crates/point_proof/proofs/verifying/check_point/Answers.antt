use Rattle.std.proofs.Common.{ap, ◌∙◌, map, refl}
use Rattle.bit_keys.specs.Branch.{width_of}
use Rattle.proof_model.specs.Claims.{pair_of as pairs_of}
use Rattle.proof_model.specs.Proofs.{PointProof}
use Rattle.proof_check.specs.Claims.{pair_of}
use Rattle.point_proof.proofs.AcceptedProofs.{claim_is, told_of_point, cost_of_point}
use Rattle.point_proof.proofs.verifying.check_point.Goals as goal

pub returns-clause-refusal : goal.returns-clause-refusal
returns-clause-refusal g c =
    let p = c.args.proof.now in
    let pairs = ap (map pair_of) c.as_slice.ensures.value ∙ c.in_ok-entries.ensures ∙ ap (λ (p : PointProof). pairs_of c.args.key.now p.value) c.proof.view_is in
    let path = c.as_slice-2.ensures.value ∙ ap (λ (p : PointProof). p.path) c.proof.view_is in
    let claim = claim_is c.as_slice.result.now c.in_ok-range.range c.as_slice-2.result.now _ c.args.key.now p pairs c.in_ok-range.ensures path refl in
    told_of_point c.check.result (width_of c.args.branch) c.in_ok-range.range c.args.root.now _ c.args.key.now p c.in_ok-range.ensures claim c.check.ensures.told

pub returns-clause-cost : goal.returns-clause-cost
returns-clause-cost g c =
    let p = c.args.proof.now in
    let pairs = ap (map pair_of) c.as_slice.ensures.value ∙ c.in_ok-entries.ensures ∙ ap (λ (p : PointProof). pairs_of c.args.key.now p.value) c.proof.view_is in
    let path = c.as_slice-2.ensures.value ∙ ap (λ (p : PointProof). p.path) c.proof.view_is in
    let claim = claim_is c.as_slice.result.now c.in_ok-range.range c.as_slice-2.result.now _ c.args.key.now p pairs c.in_ok-range.ensures path refl in
    cost_of_point c.check.result (width_of c.args.branch) c.args.steps.now c.check.new.steps _ c.args.key.now p claim c.check.ensures.cost
