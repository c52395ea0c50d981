use Rattle.std.proofs.Common.{◌∙◌, ap}
use Rattle.mem_world.specs.Seen.{bytes_in}
use Rattle.mem_world.proofs.Kept.{write_kept, never_ok}
use Rattle.mem_world.proofs.flat_disk.FlatDiskDisk.write_at.Goals as goal

pub returns-then-not-fits-clause-disk : goal.returns-then-not-fits-clause-disk
returns-then-not-fits-clause-disk c = record {
  limit = never_ok _ c.fault.result c.fault.ensures.fails;
  contents = λ told. write_kept c.fault.result c.args.file c.args.at c.args.bytes.now _ _ c.fault.ensures.fails (ap bytes_in c.fault.ensures.files);
  images = λ told. absurd told;
  cause = c.fault.ensures.cause;
}

pub returns-in-Err-clause-disk : goal.returns-in-Err-clause-disk
returns-in-Err-clause-disk c =
    let fault = c.fault-in-Err in
    record {
      limit = never_ok _ fault.result fault.ensures.fails;
      contents = λ told. write_kept fault.result c.args.file c.args.at c.args.bytes.now _ _ fault.ensures.fails (ap bytes_in fault.ensures.files ∙ c.in-Err.ensures.err);
      images = λ told. absurd told;
      cause = fault.ensures.cause;
    }
