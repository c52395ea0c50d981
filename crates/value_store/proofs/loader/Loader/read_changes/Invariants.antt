use Rattle.std.proofs.Common.{◌≡◌, ◌+◌, ◌-◌, ◌≤◌, List, ℕ}
use Rattle.base_model.specs.Fields.{Field}
use Rattle.disk_model.specs.Words.{TellsContents}
use Rattle.trie_model.specs.Maps.{Map}
use Rattle.batch_model.specs.Batch.{BatchFault}
use Rattle.mdb_journal.specs.Opening.{Untouched}
use Rattle.value_store.specs.Index.{AreInFile}
use Rattle.value_store.specs.BatchReading.{Midway}
use Rattle.value_store.proofs.loader.Loader.read_changes.Given as goal

abbrev pub invariant-changes : goal.invariant-changes
invariant-changes g l =
    let w = g.D.Disk.words in
    let was = l.fn.self in
    let is = l.self in
    let file = w.seen l.fn.disk l.fn.journal.file in
    record {
      goes : TellsContents w.tells → (payload : List ℕ) (whole : Field BatchFault Map) → Midway file payload l.count was.last was.pieces was.index whole → Midway file payload (l.count - l._done) is.last is.pieces is.index whole;
      end : is.pieces.place + is.pieces.left ≡ was.pieces.place + was.pieces.left;
      behind : was.pieces.place ≤ is.pieces.place;
      in_file : AreInFile l.fn.journal.end was.index → AreInFile l.fn.journal.end is.index;
      journal : l.journal ≡ l.fn.journal;
      untouched : Untouched (w.seen l.fn.disk) (w.seen l.disk) (w.moments l.fn.disk) (w.moments l.disk);
      later : w.faults l.fn.disk ≤ w.faults l.disk;
    }
