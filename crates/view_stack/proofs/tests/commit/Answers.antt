use Rattle.std.proofs.Common.{arith}
use Rattle.view_model.specs.Forest.{state}
use Rattle.view_stack.proofs.CommittableViews.{live_told, alone_may_commit}
use Rattle.view_stack.proofs.tests.commit.Goals as goal

pub committed-requires : goal.committed-requires
committed-requires c =
    let f = c.args.views.now.forest in
    let n = c.args.id.number in
    alone_may_commit f n c.in_ok-chain-in-Some-Live.chain.items (live_told (state f n) c.state.result c.in-Some-Live.field-0 c.state.ensures c.in-Some-Live.is c.in-Some-Live.field-0-is) c.in_ok-chain-in-Some-Live.ensures (omega (arith, c.len.ensures, c.if-len-ne1.false, c.in_ok-chain-in-Some-Live.chain.ok))
