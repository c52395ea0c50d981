use Rattle.std.proofs.Common.{ℕ, List, [], take, arith}
use Rattle.mem_world.specs.Seen.{bytes_of}
use Rattle.mem_world.proofs.OneOfMany.{alone-set}
use Rattle.mem_world.proofs.flat_disk.cut_one.Goals as goal

pub returns : goal.returns
returns c = alone-set bytes_of [] c.args.files.now c.args.file c.index-files-file.result c.cut.new.self (λ (l : List ℕ). take c.args.length l) (omega arith) c.cut.ensures
