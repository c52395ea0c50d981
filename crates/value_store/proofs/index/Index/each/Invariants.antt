use Rattle.std.proofs.Common.{◌≡◌, ◌≤◌}
use Rattle.disk_model.specs.Words.{TellsContents}
use Rattle.mdb_journal.specs.Opening.{Untouched}
use Rattle.value_store.proofs.PairsTaken.{Left, Handed, TakesSome}
use Rattle.value_store.proofs.index.Index.each.Given as goal

abbrev pub invariant-loop-key : goal.invariant-loop-key
invariant-loop-key g l =
    let w = g.D.Disk.words in record {
      left : Left l.initial.key-iterator l.key-iterator;
      handed : TellsContents w.tells → Handed g.P.PairSink.takes (w.seen l.fn.disk l.fn.journal.file) l.initial.key-iterator l.key-iterator l.fn.pairs l.pairs;
      some : TakesSome g.P.PairSink.takes l.fn.pairs l.pairs;
      journal : l.journal ≡ l.fn.journal;
      untouched : Untouched (w.seen l.fn.disk) (w.seen l.disk) (w.moments l.fn.disk) (w.moments l.disk);
      later : w.faults l.fn.disk ≤ w.faults l.disk;
    }
