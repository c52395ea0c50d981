use Rattle.disk_model.proofs.Meanwhile.{joined, weaker, one, one_or_none}
use Rattle.mdb_journal.proofs.WriteAndSync.{sync_only, whatever_answered}
use Rattle.mdb_journal.proofs.opening.sync_both.Goals as goal

pub returns-clause-meanwhile : goal.returns-clause-meanwhile
returns-clause-meanwhile g c = λ told.
    let w = g.D.Disk.words in
    let real = g.met.D.Disk.lawful.reads_an_image told in
    let old = c.args.disk.now in
    let mid = c.sync.new.self in
    let first = c.in_ok-sync.ensures.images told in
    let narrower = sync_only 0 (w.seen old) (w.moments old) (w.moments mid) (real old) first in
    let second = sync_only 1 (w.seen mid) (w.moments mid) (w.moments c.sync-2.new.self) (real mid) in
    joined
    (one _ (w.moments old) (w.moments mid) 0 _ first narrower)
    (weaker (one_or_none _ (w.moments mid) (w.moments c.sync-2.new.self) 1 _ (whatever_answered c.sync-2.result (c.sync-2.ensures.images told) (c.sync-2.ensures.unsynced told)) second) narrower)
