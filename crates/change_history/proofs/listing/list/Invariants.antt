use Rattle.std.proofs.Common.{◌≡◌, take}
use Rattle.std.specs.List.{filter}
use Rattle.history_model.specs.Changes.{lies_in}
use Rattle.change_history.specs.NetChanges.{nets_of}
use Rattle.change_history.proofs.listing.list.Given as goal

abbrev pub invariant-loop-delta : goal.invariant-loop-delta
invariant-loop-delta l = nets_of l.listed.items ≡ filter (lies_in l.range) (take l.delta-index l.deltas)
