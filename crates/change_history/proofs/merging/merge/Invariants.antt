use Rattle.std.proofs.Common.{◌≤◌, ◌+◌, ◌-◌, length, drop}
use Rattle.change_history.specs.NetChanges.{nets_of}
use Rattle.change_history.specs.MergedDeltas.{AreOrdered}
use Rattle.change_history.proofs.MergedRuns.{Merging}
use Rattle.change_history.proofs.merging.merge.Given as goal

abbrev pub invariant-loop-step : goal.invariant-loop-step
invariant-loop-step l = record {
  merging : AreOrdered (nets_of l.older) → AreOrdered (nets_of l.newer) → Merging (nets_of l.older) (nets_of l.newer) (nets_of l.merged.items) (drop l.at (nets_of l.older)) (drop l.beside (nets_of l.newer));
  at : l.at ≤ length l.older;
  beside : l.beside ≤ length l.newer;
}

abbrev pub decreases-loop-step : goal.decreases-loop-step
decreases-loop-step l = (length l.older - l.at) + (length l.newer - l.beside)
