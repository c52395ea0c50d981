use Rattle.std.proofs.Common.{Ok, sym, subst}
use Rattle.std.specs.Prelude.{string_bytes}
use Rattle.bit_keys.specs.Branch.{width_of}
use Rattle.batch_text.specs.SeenLine.{seen_line}
use Rattle.run_model.specs.OutsideThings.{disk_seen}
use Rattle.verify_run.specs.Ends.{end_of, Leaves}
use Rattle.verify_run.specs.LocalStores.{Stops}
use Rattle.verify_run.proofs.StoresLeft.{stops_as, proof_leaves, text_goes, text_stops}
use Rattle.verify_run.proofs.checking.text_of.Goals as goal

pub returns-in-Ok-clause-ok : goal.returns-in-Ok-clause-ok
returns-in-Ok-clause-ok g c = λ before local.
    text_goes string_bytes (width_of c.args.branch) before (disk_seen g.D.Disk.words c.shown.new.disk) c.args.store.now c.shown.new.store (Ok (seen_line c.args.line)) c.in-Ok.pairs c.ok_line.result (c.in-Ok.ensures.ok before local) c.ok_line.ensures.text

pub returns-in-Ok-clause-err : goal.returns-in-Ok-clause-err
returns-in-Ok-clause-err g c = λ before local.
    text_stops (width_of c.args.branch) before (disk_seen g.D.Disk.words c.shown.new.disk) c.args.store.now c.shown.new.store (Ok (seen_line c.args.line)) c.in-Ok.pairs c.args.number c.ok_line.result (c.in-Ok.ensures.ok before local) c.ok_line.ensures.err

pub returns-in-Err-clause-err : goal.returns-in-Err-clause-err
returns-in-Err-clause-err g c = λ before local.
    let words = g.D.Disk.words in
    subst (λ e. Stops (width_of c.args.branch) before (disk_seen words c.shown.new.disk) c.args.store.now (Ok (seen_line c.args.line)) (end_of e) (λ v. Leaves c.args.number v e)) (sym c.end_of_proof.ensures)
    (stops_as (c.in-Err.ensures.err before local c.args.number) (λ v h. proof_leaves c.args.number v c.in-Err.fault h))
