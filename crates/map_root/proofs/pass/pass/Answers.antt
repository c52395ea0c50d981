use Rattle.std.proofs.Common.{length, sym, ap, subst, arith}
use Rattle.bit_keys.specs.Branch.{width_of}
use Rattle.map_root.proofs.EntryItems.{empty_root, no_rows}
use Rattle.map_root.proofs.PassLoop.{nested_now, less_now, whole_now, laid_turn, laid_err, ended, ended_err, ended_at_most, ended_id, ended_rows, ended_cost}
use Rattle.map_root.proofs.PassSteps.{after_err}
use Rattle.map_root.proofs.pass.pass.Goals as goal

pub returns-in_default-clause-id : goal.returns-in_default-clause-id
returns-in_default-clause-id g c = let e = c.in_default.ensures.cases.0 in empty_root (width_of c.args.branch) c.args.entries.items (omega (arith, e))

pub returns-in_default-clause-rows : goal.returns-in_default-clause-rows
returns-in_default-clause-rows g c = let e = c.in_default.ensures.cases.0 in subst (g.K.NodeSink.holds c.args.sink.now) (sym (no_rows (width_of c.args.branch) c.args.entries.items (omega (arith, e)))) c.requires.empty

pub returns-in_default-clause-cost : goal.returns-in_default-clause-cost
returns-in_default-clause-cost g c = let e = c.in_default.ensures.cases.0 in let f = ap length (no_rows (width_of c.args.branch) c.args.entries.items (omega (arith, e))) in omega (arith, f)

pub lay-requires-clause-stands : goal.lay-requires-clause-stands
lay-requires-clause-stands g c = nested_now g.K.NodeSink.kept g.K.NodeSink.holds c.args.branch c.args.entries.items c.requires.rises c.requires.whole c.loop-entry.rest.items c.loop-entry.low c.loop-entry.above.items c.loop-entry.sink c.args.steps.now c.loop-entry.steps c.loop-entry.invariant

pub lay-requires-clause-less : goal.lay-requires-clause-less
lay-requires-clause-less g c = less_now g.K.NodeSink.kept g.K.NodeSink.holds c.args.branch c.args.entries.items c.requires.rises c.requires.whole c.loop-entry.rest.items c.pop-in-loop-entry.new.self.items c.in-Some-pop.entry c.loop-entry.low c.loop-entry.above.items c.loop-entry.sink c.args.steps.now c.loop-entry.steps c.loop-entry.invariant c.in-Some-pop.ensures.items

pub lay-requires-clause-whole : goal.lay-requires-clause-whole
lay-requires-clause-whole g c = whole_now g.K.NodeSink.kept g.K.NodeSink.holds c.args.branch c.args.entries.items c.requires.rises c.requires.whole c.loop-entry.rest.items c.pop-in-loop-entry.new.self.items c.in-Some-pop.entry c.loop-entry.low c.loop-entry.above.items c.loop-entry.sink c.args.steps.now c.loop-entry.steps c.loop-entry.invariant c.in-Some-pop.ensures.items

pub returns-in_err-low-clause-err : goal.returns-in_err-low-clause-err
returns-in_err-low-clause-err g c = after_err c.from_residual.result (laid_err g.K.NodeSink.kept g.K.NodeSink.holds c.args.branch c.args.entries.items c.requires.rises c.requires.whole c.loop-entry.rest.items c.pop-in-loop-entry.new.self.items c.in-Some-pop.entry c.loop-entry.low c.loop-entry.above.items c.loop-entry.sink c.args.steps.now c.loop-entry.steps c.loop-entry.invariant c.in-Some-pop.ensures.items c.lay.new.steps c.in_err-low.ensures.err)

pub loop-entry-preserved : goal.loop-entry-preserved
loop-entry-preserved g c = laid_turn g.K.NodeSink.kept g.K.NodeSink.holds c.args.branch c.args.entries.items c.requires.rises c.requires.whole c.loop-entry.rest.items c.pop-in-loop-entry.new.self.items c.in-Some-pop.entry c.loop-entry.low c.loop-entry.above.items c.loop-entry.sink c.args.steps.now c.loop-entry.steps c.loop-entry.invariant c.in-Some-pop.ensures.items c.in_ok-low.low c.lay.new.above.items c.lay.new.sink c.lay.new.steps c.in_ok-low.ensures.state c.in_ok-low.ensures.cost

pub climb-requires : goal.climb-requires
climb-requires g c = nested_now g.K.NodeSink.kept g.K.NodeSink.holds c.args.branch c.args.entries.items c.requires.rises c.requires.whole c.loop-entry.rest.items c.loop-entry.low c.loop-entry.above.items c.loop-entry.sink c.args.steps.now c.loop-entry.steps c.loop-entry.invariant

pub returns-in_err-node-clause-err : goal.returns-in_err-node-clause-err
returns-in_err-node-clause-err g c = after_err c.from_residual-in_err-node.result (ended_err g.K.NodeSink.kept g.K.NodeSink.holds c.args.branch c.args.entries.items c.requires.rises c.requires.whole c.loop-entry.rest.items c.loop-entry.low c.loop-entry.above.items c.loop-entry.sink c.args.steps.now c.loop-entry.steps c.loop-entry.invariant (let e = c.in_default-pop.ensures.cases.0 in omega (arith, e)) c.climb.new.steps c.in_err-node.ensures.err)

pub returns-in_err-id-clause-err : goal.returns-in_err-id-clause-err
returns-in_err-id-clause-err g c = after_err c.from_residual-in_err-id.result (ended_at_most g.K.NodeSink.kept g.K.NodeSink.holds c.args.branch c.args.entries.items c.requires.rises c.requires.whole c.in_ok-node.node c.climb.new.sink c.args.steps.now c.climb.new.steps c.node_id.new.steps (ended g.K.NodeSink.kept g.K.NodeSink.holds c.args.branch c.args.entries.items c.requires.rises c.requires.whole c.loop-entry.rest.items c.loop-entry.low c.loop-entry.above.items c.loop-entry.sink c.args.steps.now c.loop-entry.steps c.loop-entry.invariant (let e = c.in_default-pop.ensures.cases.0 in omega (arith, e)) c.in_ok-node.node c.climb.new.above.items c.climb.new.sink c.climb.new.steps c.in_ok-node.ensures.state c.in_ok-node.ensures.cost) (let n = c.in_err-id.ensures.err in (omega (arith, n), omega (arith, n))))

pub returns-in_err-take-clause-err : goal.returns-in_err-take-clause-err
returns-in_err-take-clause-err g c = after_err c.from_residual-in_err-take.result (ended_at_most g.K.NodeSink.kept g.K.NodeSink.holds c.args.branch c.args.entries.items c.requires.rises c.requires.whole c.in_ok-node.node c.climb.new.sink c.args.steps.now c.climb.new.steps c.node_id.new.steps (ended g.K.NodeSink.kept g.K.NodeSink.holds c.args.branch c.args.entries.items c.requires.rises c.requires.whole c.loop-entry.rest.items c.loop-entry.low c.loop-entry.above.items c.loop-entry.sink c.args.steps.now c.loop-entry.steps c.loop-entry.invariant (let e = c.in_default-pop.ensures.cases.0 in omega (arith, e)) c.in_ok-node.node c.climb.new.above.items c.climb.new.sink c.climb.new.steps c.in_ok-node.ensures.state c.in_ok-node.ensures.cost) (let n = c.in_ok-id.ensures.cost in (omega (arith, n), omega (arith, n))))

pub returns-clause-id : goal.returns-clause-id
returns-clause-id g c = ended_id g.K.NodeSink.kept g.K.NodeSink.holds c.args.branch c.args.entries.items c.requires.rises c.requires.whole c.in_ok-node.node c.climb.new.sink c.args.steps.now c.climb.new.steps c.in_ok-id.id (ended g.K.NodeSink.kept g.K.NodeSink.holds c.args.branch c.args.entries.items c.requires.rises c.requires.whole c.loop-entry.rest.items c.loop-entry.low c.loop-entry.above.items c.loop-entry.sink c.args.steps.now c.loop-entry.steps c.loop-entry.invariant (let e = c.in_default-pop.ensures.cases.0 in omega (arith, e)) c.in_ok-node.node c.climb.new.above.items c.climb.new.sink c.climb.new.steps c.in_ok-node.ensures.state c.in_ok-node.ensures.cost) c.in_ok-id.ensures.id

pub returns-clause-rows : goal.returns-clause-rows
returns-clause-rows g c = ended_rows g.K.NodeSink.kept g.K.NodeSink.holds c.args.branch c.args.entries.items c.requires.rises c.requires.whole c.in_ok-node.node c.climb.new.sink c.take.new.self c.args.steps.now c.climb.new.steps (ended g.K.NodeSink.kept g.K.NodeSink.holds c.args.branch c.args.entries.items c.requires.rises c.requires.whole c.loop-entry.rest.items c.loop-entry.low c.loop-entry.above.items c.loop-entry.sink c.args.steps.now c.loop-entry.steps c.loop-entry.invariant (let e = c.in_default-pop.ensures.cases.0 in omega (arith, e)) c.in_ok-node.node c.climb.new.above.items c.climb.new.sink c.climb.new.steps c.in_ok-node.ensures.state c.in_ok-node.ensures.cost) c.in_ok-take.ensures

pub returns-clause-cost : goal.returns-clause-cost
returns-clause-cost g c = ended_cost g.K.NodeSink.kept g.K.NodeSink.holds c.args.branch c.args.entries.items c.requires.rises c.requires.whole c.in_ok-node.node c.climb.new.sink c.args.steps.now c.climb.new.steps c.node_id.new.steps (ended g.K.NodeSink.kept g.K.NodeSink.holds c.args.branch c.args.entries.items c.requires.rises c.requires.whole c.loop-entry.rest.items c.loop-entry.low c.loop-entry.above.items c.loop-entry.sink c.args.steps.now c.loop-entry.steps c.loop-entry.invariant (let e = c.in_default-pop.ensures.cases.0 in omega (arith, e)) c.in_ok-node.node c.climb.new.above.items c.climb.new.sink c.climb.new.steps c.in_ok-node.ensures.state c.in_ok-node.ensures.cost) c.in_ok-id.ensures.cost
