use Rattle.std.proofs.Common.{refl, subst}
use Rattle.bit_keys.specs.Branch.{width_of}
use Rattle.run_model.specs.OutsideThings.{disk_seen}
use Rattle.verify_run.specs.LocalStores.{IsLocal}
use Rattle.verify_run.proofs.StoresLeft.{all_opened}
use Rattle.verify_run.proofs.store.opened.Goals as goal

pub returns-in-None-clause-opened : goal.returns-in-None-clause-opened
returns-in-None-clause-opened g c = λ before local.
    let words = g.D.Disk.words in
    let e = c.open_store.ensures in
    all_opened (width_of c.args.branch) before (disk_seen words c.args.disk.now) (disk_seen words c.open_store.new.disk) c.open_store.result (subst (IsLocal (width_of c.args.branch) before (disk_seen words c.args.disk.now)) c.in-None.is local) e.opened refl e.opens e.later
