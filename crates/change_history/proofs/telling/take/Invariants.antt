use Rattle.std.proofs.Common.{◌<◌, ◌^◌, ◌≡◌, drop, length, map}
use Rattle.history_model.specs.Changes.{change_of, change_size}
use Rattle.change_history.specs.NetChanges.{nets_of}
use Rattle.change_history.proofs.TakenChanges.{Taking}
use Rattle.change_history.proofs.telling.take.Given as goal

abbrev pub invariant-loop-net : goal.invariant-loop-net
invariant-loop-net l = record {
  taking : Taking change_size l.pairs l.bytes (map change_of (nets_of l.nets)) l.changes.items (map change_of (nets_of (drop l.net-index l.nets))) l.used;
  small : l.used < 2 ^ 65;
}
