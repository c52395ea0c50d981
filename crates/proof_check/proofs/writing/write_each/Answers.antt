use Rattle.std.proofs.Common.{rules}
use Rattle.base_model.proofs.GrownLemmas.{Grown-through}
use Rattle.proof_check.proofs.writing.write_each.Goals as goal

pub returns-in_err-write_change-clause-err : goal.returns-in_err-write_change-clause-err
returns-in_err-write_change-clause-err c =
    let g = Grown-through _ _ _ c.loop-change.invariant.grown c.in_err-write_change.ensures.err in search rules
