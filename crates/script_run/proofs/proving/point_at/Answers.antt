use Rattle.std.proofs.Common.{◌≡◌, ℕ, subst}
use Rattle.proof_model.specs.Proofs.{point_proof}
use Rattle.script_run.proofs.proving.point_at.Goals as goal

pub returns-in-Ok-clause-proof : goal.returns-in-Ok-clause-proof
returns-in-Ok-clause-proof g c = λ tells m n keeps spot.
    subst (λ (w : ℕ). c.in-Ok.proof ≡ point_proof w n c.args.key.now) c.branch-branch.ensures
    (c.in-Ok.ensures.proof n (record { tells = tells; stored = m; keeps = keeps; spot = spot }))
