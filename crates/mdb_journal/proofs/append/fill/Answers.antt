use Rattle.std.proofs.Common.{arith, ◌-◌, length, drop, length-take, length-drop}
use Rattle.mdb_journal.proofs.PayloadRooms.{filled}
use Rattle.mdb_journal.proofs.append.fill.Goals as goal

pub returns : goal.returns
returns c = filled c.args.room.now c.args.kind _ c.write_u32.new.buf c.requires.long (omega (arith, length-take (length c.args.room.now - 6) (drop 5 c.args.room.now), length-drop 5 c.args.room.now)) c.write_u32.ensures
