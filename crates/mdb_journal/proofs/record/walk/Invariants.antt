use Rattle.std.proofs.Common.{◌≡◌, ◌-◌, ◌<◌, ◌≤◌, length}
use Rattle.disk_model.specs.Files.{file_limit}
use Rattle.store_model.specs.Header.{first_gate}
use Rattle.store_model.specs.Refusals.{Passed}
use Rattle.disk_model.specs.Words.{TellsContents}
use Rattle.mdb_journal.specs.Opening.{Untouched}
use Rattle.mdb_journal.proofs.record.walk.Given as goal

abbrev pub invariant-gates : goal.invariant-gates
invariant-gates g l = let w = g.D.Disk.words in record {
  passed : TellsContents w.tells → l.len ≡ length (w.seen l.fn.disk l.file) → first_gate < l.len → Passed (w.seen l.fn.disk l.file) l.at;
  inside : first_gate < l.len → l.at < l.len;
  start : first_gate ≤ l.at;
  limit : l.at ≤ file_limit;
  untouched : Untouched (w.seen l.fn.disk) (w.seen l.disk) (w.moments l.fn.disk) (w.moments l.disk);
  later : w.faults l.fn.disk ≤ w.faults l.disk;
}

abbrev pub decreases-gates : goal.decreases-gates
decreases-gates g l = l.len - l.at
