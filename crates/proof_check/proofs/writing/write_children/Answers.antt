use Rattle.std.proofs.Common.{rules}
use Rattle.base_model.proofs.GrownLemmas.{Grown-through}
use Rattle.proof_check.proofs.writing.write_children.Goals as goal

pub returns-in_err-write_child-clause-err : goal.returns-in_err-write_child-clause-err
returns-in_err-write_child-clause-err c =
    let g = Grown-through _ _ _ c.loop-child.invariant.grown c.in_err-write_child.ensures.err in search rules
