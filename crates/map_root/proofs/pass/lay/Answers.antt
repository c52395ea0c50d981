use Rattle.std.proofs.Common.{◌+◌, ◌≤◌, sym, subst, arith, rules}
use Rattle.std.proofs.lemmas.Result.{IfOk-weaker}
use Rattle.bit_keys.proofs.KeyFacts.{width_pos}
use Rattle.bit_keys.specs.Branch.{width_of}
use Rattle.map_root.proofs.PassSteps.{one_more_bit, lay_leaves, lay_stands, lay_cost, lay_err, lay_err_below, after_ok, after_err}
use Rattle.map_root.proofs.pass.lay.Goals as goal

pub overflow_add-bits : goal.overflow_add-bits
overflow_add-bits g c =
    let h = one_more_bit (width_of c.args.branch) c.requires.whole.0.0 c.requires.whole.1.0 c.common-bits.result c.args.entry.key c.args.low.key (width_pos c.args.branch) c.requires.whole.0.1 c.requires.whole.1.1 c.requires.less c.common-bits.ensures in
    let k : c.common-bits.result + 1 ≤ c.bits-bits.result = subst (λ n. c.common-bits.result + 1 ≤ n) (sym c.bits-bits.ensures) h in
    search (rules, k)

pub child_under-requires-clause-inside : goal.child_under-requires-clause-inside
child_under-requires-clause-inside g c = (lay_leaves g.K.NodeSink.kept g.K.NodeSink.holds (width_of c.args.branch) c.common-bits.result c.args.entry c.args.low c.args.above.now.items c.args.sink.now c.common-bits.ensures c.in_ok-node.node c.climb.new.above.items c.climb.new.sink c.open_node-upper.result c.in_ok-node.ensures.state c.open_node-upper.ensures.node c.requires.whole.0.0 c.requires.whole.1.0 (width_pos c.args.branch) c.requires.whole.0.1 c.requires.whole.1.1 c.requires.less c.requires.stands).inside

pub child_under-requires-clause-whole : goal.child_under-requires-clause-whole
child_under-requires-clause-whole g c = (lay_leaves g.K.NodeSink.kept g.K.NodeSink.holds (width_of c.args.branch) c.common-bits.result c.args.entry c.args.low c.args.above.now.items c.args.sink.now c.common-bits.ensures c.in_ok-node.node c.climb.new.above.items c.climb.new.sink c.open_node-upper.result c.in_ok-node.ensures.state c.open_node-upper.ensures.node c.requires.whole.0.0 c.requires.whole.1.0 (width_pos c.args.branch) c.requires.whole.0.1 c.requires.whole.1.1 c.requires.less c.requires.stands).whole

pub returns-in_err-node-clause-err : goal.returns-in_err-node-clause-err
returns-in_err-node-clause-err g c = after_err c.from_residual.result (λ y s. lay_err_below g.K.NodeSink.kept g.K.NodeSink.holds (width_of c.args.branch) c.common-bits.result c.args.entry c.args.low c.args.above.now.items c.args.sink.now c.common-bits.ensures y c.args.steps.now c.climb.new.steps s (c.in_err-node.ensures.err y s))

pub returns-in_err-child-clause-err : goal.returns-in_err-child-clause-err
returns-in_err-child-clause-err g c = after_err c.from_residual-in_err-child.result (λ y s. lay_err g.K.NodeSink.kept g.K.NodeSink.holds (width_of c.args.branch) c.common-bits.result c.args.entry c.args.low c.args.above.now.items c.args.sink.now c.common-bits.ensures y c.args.steps.now c.climb.new.steps c.child_under.new.steps s (c.in_ok-node.ensures.cost y s) c.in_err-child.ensures.err)

pub returns-in_err-take-clause-err : goal.returns-in_err-take-clause-err
returns-in_err-take-clause-err g c = after_err c.from_residual-in_err-take.result (λ y s. lay_err g.K.NodeSink.kept g.K.NodeSink.holds (width_of c.args.branch) c.common-bits.result c.args.entry c.args.low c.args.above.now.items c.args.sink.now c.common-bits.ensures y c.args.steps.now c.climb.new.steps c.child_under.new.steps s (c.in_ok-node.ensures.cost y s) (let e = c.in_ok-child.ensures.cost in (omega (arith, e), omega (arith, e))))

pub returns-clause-state : goal.returns-clause-state
returns-clause-state g c = IfOk-weaker c.settle.result _ _ (λ made e. lay_stands g.K.NodeSink.kept g.K.NodeSink.holds (width_of c.args.branch) c.common-bits.result c.args.entry c.args.low c.args.above.now.items c.args.sink.now c.common-bits.ensures c.in_ok-node.node c.climb.new.above.items c.climb.new.sink c.open_node-upper.result c.in_ok-node.ensures.state c.open_node-upper.ensures.node c.open_node-upper.new.above.items c.in_ok-child.child made c.settle.new.above.items c.take.new.self c.open_node-upper.ensures.above c.in_ok-child.ensures.child c.in_ok-take.ensures e) c.settle.ensures

pub returns-clause-cost : goal.returns-clause-cost
returns-clause-cost g c = after_ok c.settle.result (λ y s. lay_cost g.K.NodeSink.kept g.K.NodeSink.holds (width_of c.args.branch) c.common-bits.result c.args.entry c.args.low c.args.above.now.items c.args.sink.now c.common-bits.ensures y c.args.steps.now c.climb.new.steps c.child_under.new.steps s (c.in_ok-node.ensures.cost y s) c.in_ok-child.ensures.cost)

pub returns-clause-err : goal.returns-clause-err
returns-clause-err g c = after_err c.settle.result (λ y s. lay_err g.K.NodeSink.kept g.K.NodeSink.holds (width_of c.args.branch) c.common-bits.result c.args.entry c.args.low c.args.above.now.items c.args.sink.now c.common-bits.ensures y c.args.steps.now c.climb.new.steps c.child_under.new.steps s (c.in_ok-node.ensures.cost y s) (let e = c.in_ok-child.ensures.cost in (omega (arith, e), omega (arith, e))))
