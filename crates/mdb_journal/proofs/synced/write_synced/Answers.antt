use Rattle.std.proofs.Common.{inr, ◌+◌, length}
use Rattle.disk_model.proofs.Meanwhile.{joined}
use Rattle.mdb_journal.proofs.WriteAndSync.{whatever_answered, write_step, sync_step}
use Rattle.mdb_journal.proofs.synced.write_synced.Goals as goal

pub returns-in_err-write_at-clause-meanwhile : goal.returns-in_err-write_at-clause-meanwhile
returns-in_err-write_at-clause-meanwhile g c = λ told s rests.
    let real = g.met.D.Disk.lawful.reads_an_image told c.args.disk.now c.args.file in
    write_step c.args.file c.args.at (c.args.at + length c.args.bytes.now) s _ _ rests real _ (c.in_err-write_at.ensures.images told).err

pub returns-clause-meanwhile : goal.returns-clause-meanwhile
returns-clause-meanwhile g c = λ told s rests.
    let w = g.D.Disk.words in
    let to = c.args.at + length c.args.bytes.now in
    let real = g.met.D.Disk.lawful.reads_an_image told in
    let passes = (c.in_ok-write_at.ensures.images told).ok in
    let mid = w.moments c.write_at.new.self in
    joined
    (write_step c.args.file c.args.at to s _ _ rests (real c.args.disk.now c.args.file) mid (inr passes))
    (sync_step c.args.file c.args.at to s _ _ rests (real c.args.disk.now c.args.file) mid (w.moments c.sync.new.self) (w.seen c.write_at.new.self) passes (real c.write_at.new.self c.args.file) (whatever_answered c.sync.result (c.sync.ensures.images told) (c.sync.ensures.unsynced told)))
