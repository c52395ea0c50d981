use Rattle.std.proofs.Common.{refl, sym, subst}
use Rattle.bit_keys.specs.Branch.{width_of}
use Rattle.run_model.specs.OutsideThings.{disk_seen}
use Rattle.store_opening.specs.Opening.{end_of_fault}
use Rattle.verify_run.specs.LocalStores.{IsLocal}
use Rattle.verify_run.proofs.StoresLeft.{failed_left, unopened, counted_in, refused_in, lost_in, kept_in}
use Rattle.verify_run.proofs.change_lines.changes_at.Goals as goal

pub returns-in-Err-clause-fails : goal.returns-in-Err-clause-fails
returns-in-Err-clause-fails g c = λ before local number.
    let words = g.D.Disk.words in
    let taken = subst (IsLocal (width_of c.args.branch) before (disk_seen words c.args.disk.now)) (sym c.take.ensures.value) local in
    failed_left (width_of c.args.branch) before (disk_seen words c.opened.new.disk) (end_of_fault c.in-Err.fault) (c.opened.ensures.opens before taken) (c.in-Err.ensures.fails before taken)

pub returns-in-Err-clause-err : goal.returns-in-Err-clause-err
returns-in-Err-clause-err g c = λ before local.
    let words = g.D.Disk.words in
    let taken = subst (IsLocal (width_of c.args.branch) before (disk_seen words c.args.disk.now)) (sym c.take.ensures.value) local in
    unopened (width_of c.args.branch) before (disk_seen words c.opened.new.disk) c.args.root.now c.args.range.now c.args.bytes.now (end_of_fault c.in-Err.fault) (c.in-Err.ensures.fails before taken)

pub returns-clause-opens : goal.returns-clause-opens
returns-clause-opens g c = λ before local.
    let words = g.D.Disk.words in
    let taken = subst (IsLocal (width_of c.args.branch) before (disk_seen words c.args.disk.now)) (sym c.take.ensures.value) local in
    let o = c.in-Ok.ensures.opened before taken in
    let e = c.changes_in-shown.ensures in
    kept_in (width_of c.args.branch) before (disk_seen words c.opened.new.disk) (disk_seen words c.changes_in-shown.new.disk) c.in-Ok.db c.changes_in-shown.new.db c.changes_in-shown.result o (e.stays o.works) refl e.untouched e.later

pub returns-clause-ok : goal.returns-clause-ok
returns-clause-ok g c = λ before local.
    let words = g.D.Disk.words in
    let taken = subst (IsLocal (width_of c.args.branch) before (disk_seen words c.args.disk.now)) (sym c.take.ensures.value) local in
    let o = c.in-Ok.ensures.opened before taken in
    counted_in (width_of c.args.branch) before (disk_seen words c.opened.new.disk) c.in-Ok.db c.args.root.now c.args.range.now c.args.bytes.now c.changes_in-shown.result o c.changes_in-shown.ensures.ok

pub returns-clause-fails : goal.returns-clause-fails
returns-clause-fails g c = λ before local.
    let words = g.D.Disk.words in
    let taken = subst (IsLocal (width_of c.args.branch) before (disk_seen words c.args.disk.now)) (sym c.take.ensures.value) local in
    let o = c.in-Ok.ensures.opened before taken in
    let e = c.changes_in-shown.ensures in
    lost_in (width_of c.args.branch) before (disk_seen words c.opened.new.disk) (disk_seen words c.changes_in-shown.new.disk) c.in-Ok.db c.changes_in-shown.result o e.untouched (e.failed o.works)

pub returns-clause-err : goal.returns-clause-err
returns-clause-err g c = λ before local.
    let words = g.D.Disk.words in
    let taken = subst (IsLocal (width_of c.args.branch) before (disk_seen words c.args.disk.now)) (sym c.take.ensures.value) local in
    let o = c.in-Ok.ensures.opened before taken in
    let e = c.changes_in-shown.ensures in
    refused_in (width_of c.args.branch) before (disk_seen words c.opened.new.disk) c.in-Ok.db c.args.root.now c.args.range.now c.args.bytes.now c.changes_in-shown.result (disk_seen words c.changes_in-shown.new.disk) o e.err (e.failed o.works)
