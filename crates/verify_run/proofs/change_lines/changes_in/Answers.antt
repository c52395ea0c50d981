use Rattle.std.proofs.Common.{refl, subst}
use Rattle.bit_keys.specs.Branch.{width_of}
use Rattle.trie_model.specs.Maps.{limits}
use Rattle.proof_model.specs.CheckedBytes.{change_checked, checked}
use Rattle.proof_model.specs.ChangeProofs.{change_refusal}
use Rattle.proof_model.specs.ChangeWire.{changes_of}
use Rattle.verify_run.specs.Checks.{IsRefusedOr, wire_fault, check_fault}
use Rattle.verify_run.proofs.ProofFaults.{wire_refused, or_refused, or_check_refused, checked_changes, accepted_changes}
use Rattle.verify_run.proofs.change_lines.changes_in.Goals as goal

pub returns-in-Err-clause-err : goal.returns-in-Err-clause-err
unfolding change_checked
returns-in-Err-clause-err g c = λ tells m keeps.
    let w = width_of c.args.branch in
    let refuse = change_refusal w c.args.range.now m c.args.root.now in
    let read = changes_of limits w c.args.bytes.now in
    rw c.fault_of_wire.ensures
    (or_refused (checked refuse read) (wire_fault c.in-Err.fault.kind c.in-Err.fault) (wire_refused refuse read c.in-Err.fault.kind c.in-Err.fault refl c.in-Err.ensures.exact))

pub returns-in-Ok-check-clause-ok : goal.returns-in-Ok-check-clause-ok
returns-in-Ok-check-clause-ok g c = λ tells m keeps.
    let w = width_of c.args.branch in
    (c.in-Ok.proof, accepted_changes w c.args.root.now c.args.range.now m c.args.bytes.now c.in-Ok.proof c.in-Ok.ensures.exact (c.in-Ok-check.ensures.told tells m keeps), c.changes_of.ensures)

pub returns-clause-err : goal.returns-clause-err
returns-clause-err g c = λ tells m keeps.
    let w = width_of c.args.branch in
    rw c.fault_of_check.ensures
    (subst (λ checked. IsRefusedOr checked (check_fault c.in-Err-check.fault)) (checked_changes w c.args.root.now c.args.range.now m c.args.bytes.now c.in-Ok.proof c.in-Ok.ensures.exact)
    (or_check_refused c.in-Ok.proof (change_refusal w c.args.range.now m c.args.root.now c.in-Ok.proof) c.in-Err-check.fault (c.in-Err-check.ensures.told tells m keeps)))
