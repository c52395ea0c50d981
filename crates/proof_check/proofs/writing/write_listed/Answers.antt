use Rattle.std.proofs.Common.{rules}
use Rattle.base_model.proofs.GrownLemmas.{Grown-through}
use Rattle.proof_check.proofs.writing.write_listed.Goals as goal

pub returns-in_err-write_pair-clause-err : goal.returns-in_err-write_pair-clause-err
returns-in_err-write_pair-clause-err c =
    let g = Grown-through _ _ _ c.loop-pair.invariant.grown c.in_err-write_pair.ensures.err in search rules
