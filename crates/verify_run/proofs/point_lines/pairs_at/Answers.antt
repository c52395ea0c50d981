use Rattle.std.proofs.Common.{refl, subst}
use Rattle.bit_keys.specs.Branch.{width_of}
use Rattle.trie_model.specs.Maps.{limits}
use Rattle.proof_model.specs.CheckedBytes.{point_checked}
use Rattle.proof_model.specs.Refusals.{point_refusal}
use Rattle.proof_model.specs.Wire.{point_of}
use Rattle.verify_run.specs.Checks.{IsRefused, check_fault}
use Rattle.verify_run.proofs.ProofFaults.{wire_refused, check_refused, checked_read, accepted_read}
use Rattle.verify_run.proofs.point_lines.pairs_at.Goals as goal

pub returns-in-Err-clause-err : goal.returns-in-Err-clause-err
unfolding point_checked
returns-in-Err-clause-err c =
    let w = width_of c.args.branch in
    rw c.fault_of_wire.ensures
    (wire_refused (point_refusal w c.args.key.now c.args.root.now) (point_of limits w c.args.bytes.now) c.in-Err.fault.kind c.in-Err.fault refl c.in-Err.ensures.exact)

pub returns-in-Ok-check-clause-ok : goal.returns-in-Ok-check-clause-ok
returns-in-Ok-check-clause-ok c =
    let w = width_of c.args.branch in
    (c.in-Ok.proof, accepted_read w c.args.root.now c.args.key.now c.args.bytes.now c.in-Ok.proof c.in-Ok.ensures.exact c.in-Ok-check.ensures, c.pairs_of.ensures)

pub returns-clause-err : goal.returns-clause-err
returns-clause-err c =
    let w = width_of c.args.branch in
    rw c.fault_of_check.ensures
    (subst (λ checked. IsRefused checked (check_fault c.in-Err-check.fault)) (checked_read w c.args.root.now c.args.key.now c.args.bytes.now c.in-Ok.proof c.in-Ok.ensures.exact)
    (check_refused c.in-Ok.proof (point_refusal w c.args.key.now c.args.root.now c.in-Ok.proof) c.in-Err-check.fault c.in-Err-check.ensures))
