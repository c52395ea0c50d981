use Rattle.std.proofs.Common.{refl}
use Rattle.disk_model.proofs.Meanwhile.{joined, weaker}
use Rattle.disk_model.proofs.Telling.{contents_too}
use Rattle.mdb_journal.proofs.AppendCrashes.{staging, staged_is, opening}
use Rattle.mdb_journal.proofs.append.write_record.Goals as goal

pub returns-in_err-write_synced-clause-meanwhile : goal.returns-in_err-write_synced-clause-meanwhile
returns-in_err-write_synced-clause-meanwhile g c = λ told h rs r room place fits j synced.
    let w = g.D.Disk.words in
    let old = c.args.disk.now in
    weaker (c.write_synced.ensures.meanwhile told (w.seen old c.args.file) (record { is = refl; synced = synced })) (staging (w.moments old) c.args.file h rs r (w.seen old c.args.file) c.args.end place j _)

pub returns-clause-meanwhile : goal.returns-clause-meanwhile
returns-clause-meanwhile g c = λ told h rs r room place fits j synced.
    let w = g.D.Disk.words in
    let old = c.args.disk.now in
    let mid = c.write_synced.new.disk in
    let s = w.seen old c.args.file in
    let is = staged_is (w.moments old) c.args.file h rs r s c.args.end place j (w.seen mid c.args.file) c.args.room.now (c.in_ok-write_synced.ensures.contents (contents_too w.tells told)).here room in
    joined
    (weaker (c.write_synced.ensures.meanwhile told s (record { is = refl; synced = synced })) (staging (w.moments old) c.args.file h rs r s c.args.end place j _))
    (weaker (c.write_synced-2.ensures.meanwhile told (w.seen mid c.args.file) (record { is = refl; synced = c.in_ok-write_synced.ensures.synced told })) (opening (w.moments old) c.args.file h rs r s c.args.end place j (w.moments mid) (w.seen mid c.args.file) is fits (c.write_synced.ensures.others told)))
