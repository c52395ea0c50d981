use Rattle.std.proofs.Common.{◌≡◌, ℕ, ◌∙◌, ap, subst}
use Rattle.bit_keys.specs.Branch.{width_of}
use Rattle.proof_model.specs.RangeProofs.{range_proof}
use Rattle.script_run.proofs.OnePair.{range_proof-one}
use Rattle.script_run.proofs.proving.range_at.Goals as goal

pub returns-in-Ok-clause-proof : goal.returns-in-Ok-clause-proof
returns-in-Ok-clause-proof g c = λ tells m n keeps spot.
    let asked = c.args.range.now in
    let bytes = c.args.bytes in
    let made = c.in-Ok.ensures.proof n (record { tells = tells; stored = m; keeps = keeps; spot = spot }) in
    subst (λ (w : ℕ). c.in-Ok.proof ≡ range_proof w n asked c.args.pairs bytes) c.branch-branch.ensures
    (made ∙ ap (λ (k : ℕ). range_proof (width_of c.branch-branch.result) n asked k bytes) c.max.ensures ∙ range_proof-one (width_of c.branch-branch.result) n asked c.args.pairs bytes)
