use Rattle.std.proofs.Common.{◌≡◌, ◌≤◌, take}
use Rattle.std.specs.List.{sum_by}
use Rattle.disk_model.specs.Words.{TellsContents}
use Rattle.trie_model.specs.Maps.{Map}
use Rattle.history_model.specs.Changes.{delta_weight}
use Rattle.mdb_journal.specs.Opening.{Untouched}
use Rattle.value_store.specs.Values.{Keeps}
use Rattle.mdb_core.specs.Alterations.{alterations}
use Rattle.mdb_core.proofs.recording.read_deltas.Given as goal

abbrev pub invariant-loop-change : goal.invariant-loop-change
invariant-loop-change g l =
    let w = g.D.Disk.words in record {
      altered : TellsContents w.tells → (m : Map) → Keeps l.fn.values m (w.seen l.fn.disk) → l.deltas.items ≡ alterations m (take l.change-index l.change-items);
      weight : l.weight ≡ sum_by delta_weight l.deltas.items;
      light : l.weight ≤ l.fn.limit;
      values : l.values ≡ l.fn.values;
      untouched : Untouched (w.seen l.fn.disk) (w.seen l.disk) (w.moments l.fn.disk) (w.moments l.disk);
      later : w.faults l.fn.disk ≤ w.faults l.disk;
    }
