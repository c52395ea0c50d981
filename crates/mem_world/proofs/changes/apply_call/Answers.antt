use Rattle.std.proofs.Common.{arith}
use Rattle.mem_world.proofs.Replay.{stepped}
use Rattle.mem_world.proofs.changes.apply_call.Goals as goal

pub returns-in-Ok-clause-ok : goal.returns-in-Ok-clause-ok
returns-in-Ok-clause-ok c = stepped c.args.files.now c.args.call.now c.index-files-call.result c.apply.new.file (omega arith) c.in-Ok.ensures.ok
