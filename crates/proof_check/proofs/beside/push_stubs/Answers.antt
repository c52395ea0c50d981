use Rattle.proof_check.proofs.ItemsBeside.{index_small}
use Rattle.proof_check.proofs.beside.push_stubs.Goals as goal

pub stub_beside-requires-clause-index : goal.stub_beside-requires-clause-index
stub_beside-requires-clause-index c = index_small c.args.branch c.args.children.now c.loop-child.child-index _ c.requires.children c.loop-child-test.true
