use Rattle.std.proofs.Common.{◌≡◌, map, take}
use Rattle.trie_model.specs.Maps.{Map}
use Rattle.batch_model.specs.Batch.{after_batch}
use Rattle.change_history.specs.Histories.{undo_of}
use Rattle.change_history.specs.NetChanges.{nets_of}
use Rattle.change_history.proofs.undoing.undo.Given as goal

abbrev pub invariant-loop-net : goal.invariant-loop-net
invariant-loop-net l = (m : Map) → after_batch m l.batch ≡ after_batch m (map undo_of (nets_of (take l.net-index l.nets)))
