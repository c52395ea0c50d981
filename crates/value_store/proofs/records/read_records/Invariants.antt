use Rattle.std.proofs.Common.{◌≡◌, ◌-◌, ◌≤◌, List}
use Rattle.disk_model.specs.Words.{TellsContents}
use Rattle.store_model.specs.Header.{first_gate}
use Rattle.store_model.specs.Record.{Record}
use Rattle.mdb_journal.specs.Journal.{Knows}
use Rattle.mdb_journal.specs.Opening.{Untouched}
use Rattle.value_store.specs.Index.{AreInFile}
use Rattle.value_store.specs.BatchReading.{Standing}
use Rattle.value_store.proofs.records.read_records.Given as goal

abbrev pub invariant-records : goal.invariant-records
invariant-records g l =
    let w = g.D.Disk.words in
    let file = w.seen l.fn.disk l.fn.journal.file in
    record {
      read : TellsContents w.tells → (rs : List Record) → Knows l.fn.journal rs (w.seen l.fn.disk) → Standing file rs l.at l.loader.index;
      behind : first_gate ≤ l.at;
      in_file : AreInFile l.fn.journal.end l.loader.index;
      journal : l.journal ≡ l.fn.journal;
      untouched : Untouched (w.seen l.fn.disk) (w.seen l.disk) (w.moments l.fn.disk) (w.moments l.disk);
      later : w.faults l.fn.disk ≤ w.faults l.disk;
    }

abbrev pub decreases-records : goal.decreases-records
decreases-records g l = l.fn.journal.end - l.at
