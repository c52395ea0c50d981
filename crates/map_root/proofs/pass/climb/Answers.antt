use Rattle.std.proofs.Common.{ap, arith}
use Rattle.bit_keys.specs.Branch.{width_of}
use Rattle.map_root.proofs.PassSteps.{taken_inside, nested_turn, toward_turn, toward_end, toward_err, after_err}
use Rattle.map_root.proofs.pass.climb.Goals as goal

pub parent-requires-clause-inside : goal.parent-requires-clause-inside
parent-requires-clause-inside g c = (taken_inside g.K.NodeSink.kept g.K.NodeSink.holds (width_of c.args.branch) c.args.least c.loop-next.low c.loop-next.above.items c.take_open.new.above.items c.in-Some.next c.loop-next.sink c.in-Some.ensures.some.0 c.in-Some.ensures.some.1 c.loop-next.invariant.nested).0

pub parent-requires-clause-whole : goal.parent-requires-clause-whole
parent-requires-clause-whole g c = (taken_inside g.K.NodeSink.kept g.K.NodeSink.holds (width_of c.args.branch) c.args.least c.loop-next.low c.loop-next.above.items c.take_open.new.above.items c.in-Some.next c.loop-next.sink c.in-Some.ensures.some.0 c.in-Some.ensures.some.1 c.loop-next.invariant.nested).1

pub returns-in_err-low-clause-err : goal.returns-in_err-low-clause-err
returns-in_err-low-clause-err g c = after_err c.from_residual.result (λ y s. toward_err g.K.NodeSink.kept g.K.NodeSink.holds (width_of c.args.branch) c.args.least c.loop-next.low c.loop-next.above.items c.take_open.new.above.items c.in-Some.next c.loop-next.sink c.in-Some.ensures.some.0 c.in-Some.ensures.some.1 y c.args.steps.now c.loop-next.steps c.parent.new.steps c.loop-next.invariant.count c.in_err-low.ensures.err (c.loop-next.invariant.toward y s))

pub returns-in_err-take-clause-err : goal.returns-in_err-take-clause-err
returns-in_err-take-clause-err g c = after_err c.from_residual-in_err-take.result (λ y s. toward_err g.K.NodeSink.kept g.K.NodeSink.holds (width_of c.args.branch) c.args.least c.loop-next.low c.loop-next.above.items c.take_open.new.above.items c.in-Some.next c.loop-next.sink c.in-Some.ensures.some.0 c.in-Some.ensures.some.1 y c.args.steps.now c.loop-next.steps c.parent.new.steps c.loop-next.invariant.count (let e = c.in_ok-low.ensures.cost in (omega (arith, e), omega (arith, e))) (c.loop-next.invariant.toward y s))

pub loop-next-preserved : goal.loop-next-preserved
loop-next-preserved g c = record {
  nested = nested_turn g.K.NodeSink.kept g.K.NodeSink.holds (width_of c.args.branch) c.args.least c.loop-next.low c.loop-next.above.items c.take_open.new.above.items c.in-Some.next c.loop-next.sink c.in-Some.ensures.some.0 c.in-Some.ensures.some.1 c.in_ok-low.low c.take.new.self c.in_ok-low.ensures.node c.in_ok-take.ensures c.loop-next.invariant.nested;
  toward = λ y s. toward_turn g.K.NodeSink.kept g.K.NodeSink.holds (width_of c.args.branch) c.args.least c.loop-next.low c.loop-next.above.items c.take_open.new.above.items c.in-Some.next c.loop-next.sink c.in-Some.ensures.some.0 c.in-Some.ensures.some.1 c.in_ok-low.low c.take.new.self c.in_ok-low.ensures.node c.in_ok-take.ensures y c.args.steps.now c.loop-next.steps c.parent.new.steps c.in_ok-low.ensures.cost (c.loop-next.invariant.toward y s);
  count = let e = c.in_ok-low.ensures.cost in let n = c.loop-next.invariant.count in omega (arith, e, n);
}

pub returns-clause-state : goal.returns-clause-state
returns-clause-state g c = λ y s. (toward_end g.K.NodeSink.kept g.K.NodeSink.holds (width_of c.args.branch) c.args.least y c.loop-next.low c.loop-next.above.items c.take_open.new.above.items c.loop-next.sink c.args.steps.now c.loop-next.steps (c.loop-next.invariant.toward y s) (ap (λ v. v.items) c.in_default.ensures.none.0) c.in_default.ensures.none.1).0

pub returns-clause-cost : goal.returns-clause-cost
returns-clause-cost g c = λ y s. (toward_end g.K.NodeSink.kept g.K.NodeSink.holds (width_of c.args.branch) c.args.least y c.loop-next.low c.loop-next.above.items c.take_open.new.above.items c.loop-next.sink c.args.steps.now c.loop-next.steps (c.loop-next.invariant.toward y s) (ap (λ v. v.items) c.in_default.ensures.none.0) c.in_default.ensures.none.1).1
