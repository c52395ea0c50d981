use Rattle.std.proofs.Common.{◌≡◌, ◌≤◌, ◌*◌, ◌^◌, take}
use Rattle.std.specs.List.{sum_by}
use Rattle.history_model.specs.Changes.{delta_weight}
use Rattle.change_history.proofs.commit.weight_of.Given as goal

abbrev pub invariant-loop-delta : goal.invariant-loop-delta
invariant-loop-delta l = record { sum : l.sum ≡ sum_by delta_weight (take l.delta-index l.deltas); small : l.sum ≤ 2 ^ 65 * l.delta-index }
