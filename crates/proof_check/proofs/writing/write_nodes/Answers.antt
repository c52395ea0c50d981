use Rattle.std.proofs.Common.{rules}
use Rattle.base_model.proofs.GrownLemmas.{Grown-through}
use Rattle.proof_check.proofs.writing.write_nodes.Goals as goal

pub returns-in_err-write_node-clause-err : goal.returns-in_err-write_node-clause-err
returns-in_err-write_node-clause-err c =
    let g = Grown-through _ _ _ c.loop-node.invariant.grown c.in_err-write_node.ensures.err in search rules
