use Rattle.std.proofs.Common.{ℕ, List, [], get_or, ap, arith}
use Rattle.disk_model.specs.Files.{Files, written}
use Rattle.mem_world.specs.Seen.{bytes_of}
use Rattle.mem_world.proofs.OneOfMany.{alone-set, same-set}
use Rattle.mem_world.proofs.flat_disk.write_one.Goals as goal

pub returns-in-Ok-clause-ok : goal.returns-in-Ok-clause-ok
returns-in-Ok-clause-ok c = alone-set bytes_of [] c.args.files.now c.args.file c.index-files-file.result c.write.new.self (λ (l : List ℕ). written l c.args.at c.args.piece.now) (omega arith) c.in-Ok.ensures.ok

pub returns-in-Err-clause-err : goal.returns-in-Err-clause-err
returns-in-Err-clause-err c =
    let files : List (List ℕ) → Files = λ l k. get_or l k [] in
    ap files (same-set bytes_of c.args.files.now c.args.file c.index-files-file.result c.write.new.self (omega arith) c.in-Err.ensures.err)
