use Rattle.std.proofs.Common.{◌≤◌, length}
use Rattle.bit_keys.specs.Branch.{width_of}
use Rattle.map_root.specs.PassState.{PassState}
use Rattle.map_root.specs.KeptNodes.{Stands, StandsNested}
use Rattle.map_root.proofs.PassSteps.{Toward}
use Rattle.map_root.proofs.pass.climb.Given as goal

-- the code stands at a state with nested open nodes, from which climbing ends where it does from the start
abbrev pub invariant-loop-next : goal.invariant-loop-next
invariant-loop-next g l = record {
  nested : StandsNested g.K.NodeSink.kept g.K.NodeSink.holds (width_of l.branch) l.low l.above.items l.sink;
  toward : (y : PassState) → Stands g.K.NodeSink.kept g.K.NodeSink.holds l.fn.low l.fn.above.items l.fn.sink y → Toward g.K.NodeSink.kept g.K.NodeSink.holds (width_of l.branch) l.least y l.low l.above.items l.sink l.fn.steps l.steps;
  count : l.fn.steps ≤ l.steps;
}

abbrev pub decreases-loop-next : goal.decreases-loop-next
decreases-loop-next g l = length l.above.items
