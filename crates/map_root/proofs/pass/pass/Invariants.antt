use Rattle.std.proofs.Common.{length}
use Rattle.bit_keys.specs.Branch.{width_of}
use Rattle.map_root.proofs.PassLoop.{Laid}
use Rattle.map_root.proofs.pass.pass.Given as goal

abbrev pub invariant-loop-entry : goal.invariant-loop-entry
invariant-loop-entry g l = Laid g.K.NodeSink.kept g.K.NodeSink.holds (width_of l.branch) l.fn.entries.items l.rest.items l.low l.above.items l.sink l.fn.steps l.steps

abbrev pub decreases-loop-entry : goal.decreases-loop-entry
decreases-loop-entry g l = length l.rest.items
