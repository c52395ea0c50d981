use Rattle.std.proofs.Common.{Err, ap, ◌∙◌}
use Rattle.std.specs.Prelude.{option_map}
use Rattle.bit_keys.specs.Branch.{width_of}
use Rattle.run_model.specs.OutsideThings.{disk_seen}
use Rattle.mdb_core.specs.Stores.{DbState, is_failed}
use Rattle.mdb_core.specs.declared.fault.DbFault.{DbFault}
use Rattle.store_opening.proofs.Openings.{look_up_fails, store_fails, untouched_keeps}
use Rattle.mdb_tool.specs.MapReads.{IsValueAt}
use Rattle.mdb_tool.proofs.ReadEnds.{found_in}
use Rattle.mdb_tool.proofs.get_command.look_up.Goals as goal

pub returns-in-Err-get-clause-fails : goal.returns-in-Err-get-clause-fails
returns-in-Err-get-clause-fails g c =
    let words = g.D.Disk.words in
    let opened = c.in-Ok.ensures.opened in
    let e = c.in-Err-get.ensures in
    rw c.status_of_fault-in-Err-get.ensures
    (look_up_fails (width_of c.args.branch) (disk_seen words c.args.disk.now) (disk_seen words c.open_store.new.disk) (disk_seen words c.get.new.disk) c.in-Ok.db c.in-Err-get.fault opened c.open_store.ensures.later c.get.ensures.untouched
    (store_fails c.in-Ok.db c.in-Err-get.fault opened.works e.fault) (λ is. e.disk (ap (λ (f : DbFault). Err f) is)))

pub returns-in-Err-get-clause-opens : goal.returns-in-Err-get-clause-opens
returns-in-Err-get-clause-opens g c =
    let words = g.D.Disk.words in
    untouched_keeps (disk_seen words c.args.disk.now) (disk_seen words c.open_store.new.disk) (disk_seen words c.get.new.disk) c.open_store.ensures.opens c.get.ensures.untouched

pub returns-in-Ok-close-clause-found : goal.returns-in-Ok-close-clause-found
returns-in-Ok-close-clause-found g c =
    let words = g.D.Disk.words in
    let value = option_map (λ v. v.items) c.in-Ok-get.value in
    rw c.close.ensures.disk
    (found_in (IsValueAt c.args.key.now value) (width_of c.args.branch) (disk_seen words c.args.disk.now) (disk_seen words c.open_store.new.disk) (disk_seen words c.get.new.disk) c.in-Ok.db c.in-Ok.ensures.opened c.get.ensures.untouched c.in-Ok-get.ensures.value)

pub returns-in-Ok-close-clause-opens : goal.returns-in-Ok-close-clause-opens
returns-in-Ok-close-clause-opens g c =
    let words = g.D.Disk.words in
    rw c.close.ensures.disk
    (untouched_keeps (disk_seen words c.args.disk.now) (disk_seen words c.open_store.new.disk) (disk_seen words c.get.new.disk) c.open_store.ensures.opens c.get.ensures.untouched)

pub returns-in-Err-close-clause-fails : goal.returns-in-Err-close-clause-fails
returns-in-Err-close-clause-fails g c =
    let same = c.in-Ok-get.ensures.stays (λ is. let no : ⊥ = cc is in no) in
    let opened = c.in-Ok.ensures.opened in
    let failed = c.in-Err-close.ensures.err in
    let no : ⊥ = cc (ap (λ (s : DbState). is_failed s) same ∙ opened.works, failed.1) in
    absurd no

pub returns-in-Err-close-clause-opens : goal.returns-in-Err-close-clause-opens
returns-in-Err-close-clause-opens g c =
    let words = g.D.Disk.words in
    rw c.close.ensures.disk
    (untouched_keeps (disk_seen words c.args.disk.now) (disk_seen words c.open_store.new.disk) (disk_seen words c.get.new.disk) c.open_store.ensures.opens c.get.ensures.untouched)
