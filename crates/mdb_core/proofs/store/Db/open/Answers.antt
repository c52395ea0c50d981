use Rattle.bit_keys.specs.Branch.{width_of}
use Rattle.mdb_core.proofs.OpenedStores.{opened_store, opened_stands, still_left}
use Rattle.mdb_core.proofs.store.Db.open.Goals as goal

pub returns-in-Ok-clause-opened : goal.returns-in-Ok-clause-opened
returns-in-Ok-clause-opened g c = λ told.
    let w = g.D.Disk.words in
    opened_store (width_of c.args.branch) (w.seen c.args.disk.now) (w.seen c.open.new.disk) (w.seen c.rooted.new.disk) c.in-Ok.values (c.in-Ok.ensures.opened told) c.rooted.result (c.rooted.ensures.keeps told) c.rooted.ensures.works

pub returns-in-Ok-clause-kept : goal.returns-in-Ok-clause-kept
returns-in-Ok-clause-kept g c = λ told m stands is.
    let w = g.D.Disk.words in
    opened_stands (width_of c.args.branch) (w.seen c.args.disk.now) (w.seen c.open.new.disk) (w.seen c.rooted.new.disk) c.in-Ok.values (c.in-Ok.ensures.opened told) m c.rooted.ensures.untouched.seen stands

pub returns-in-Ok-clause-left : goal.returns-in-Ok-clause-left
returns-in-Ok-clause-left g c = λ told m stands.
    let w = g.D.Disk.words in
    still_left c.rooted.result m (w.moments c.open.new.disk) (w.moments c.rooted.new.disk) c.rooted.ensures.untouched.images (c.in-Ok.ensures.left told m stands)
