use Rattle.std.proofs.Common.{rules}
use Rattle.mem_world.specs.Told.{disk_files, disk_past}
use Rattle.mem_world.proofs.WritesMade.{write_done, at_ok}
use Rattle.mem_world.proofs.mem_disk.MemDiskDisk.write_at.Goals as goal

pub returns-clause-disk : goal.returns-clause-disk
returns-clause-disk c =
    let was = c.args.self.now in
    let done = c.done.ensures in
    let made = write_done c.done.result (disk_files was) (disk_files c.done.new.self) (disk_past was) (disk_past c.done.new.self) c.args.file c.args.at c.in-Ok.copy c.args.bytes.now c.in-Ok.ensures.items done.inside done.files done.past done.err_files done.err_past in
    record {
      limit = at_ok _ c.done.result (search rules);
      contents = λ told. made.0;
      images = λ told. made.1;
      cause = done.cause;
    }
