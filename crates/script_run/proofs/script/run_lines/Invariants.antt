use Rattle.std.proofs.Common.{◌≡◌, ◌≤◌, ◌+◌, false}
use Rattle.base_model.specs.Faults.{TellsAlike}
use Rattle.disk_model.specs.Words.{TellsContents, TellsImages}
use Rattle.trie_model.specs.Maps.{Map}
use Rattle.text_model.specs.Lines.{input_limit}
use Rattle.run_model.specs.OutsideThings.{disk_seen}
use Rattle.batch_text.specs.Stream.{EndHolds}
use Rattle.mdb_journal.specs.DiskMoves.{AreSynced}
use Rattle.mdb_core.specs.Stores.{Keeps, is_failed}
use Rattle.store_opening.specs.Opening.{IsJustOpened}
use Rattle.script_run.proofs.LineCauses.{FitsAlike}
use Rattle.script_run.proofs.ScriptSoFar.{SoFar}
use Rattle.script_run.proofs.script.run_lines.Given as goal

abbrev pub invariant-lines : goal.invariant-lines
invariant-lines g l =
    let left = g.S.Source.left in
    let taken = g.K.Sink.taken in
    let d = g.D.Disk.words in record {
      so_far : TellsContents d.tells → (m : Map) → Keeps l.fn.db m (d.seen l.fn.disk) → IsJustOpened l.fn.db
          → SoFar l.fn.db.width m (TellsImages d.tells × AreSynced (d.seen l.fn.disk) (d.moments l.fn.disk))
          (record { db = l.fn.db; pending = l.fn.pending; taken = taken l.fn.out; disk = disk_seen d l.fn.disk })
          (left l.fn.input) l.number (record { db = l.db; pending = l.pending; taken = taken l.out; disk = disk_seen d l.disk }) l.reader (left l.input);
      synced : TellsImages d.tells → AreSynced (d.seen l.fn.disk) (d.moments l.fn.disk) → AreSynced (d.seen l.disk) (d.moments l.disk);
      works : is_failed l.db ≡ false;
      width : l.db.width ≡ l.fn.db.width;
      fits : FitsAlike (left l.fn.input) l.reader (left l.input);
      room : l.number + l.reader.allowed ≤ input_limit + 1;
      ended : EndHolds l.reader.ended (left l.input);
      tells : TellsAlike (left l.fn.input) (left l.input);
      reads : g.S.Source.faults l.fn.input ≤ g.S.Source.faults l.input;
      writes : g.K.Sink.faults l.fn.out ≤ g.K.Sink.faults l.out;
      disks : d.faults l.fn.disk ≤ d.faults l.disk;
    }

abbrev pub decreases-lines : goal.decreases-lines
decreases-lines g l = l.reader.allowed
