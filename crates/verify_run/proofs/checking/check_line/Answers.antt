use Rattle.std.proofs.Common.{sym, subst}
use Rattle.std.specs.Prelude.{IfErr}
use Rattle.bit_keys.specs.Branch.{width_of}
use Rattle.batch_text.specs.SeenLine.{seen_line}
use Rattle.text_model.specs.ReadLine.{Verify, read_line}
use Rattle.run_model.specs.OutsideThings.{disk_seen}
use Rattle.verify_run.specs.Ends.{end_of, Leaves}
use Rattle.verify_run.specs.LocalStores.{Stops}
use Rattle.verify_run.proofs.ProofFaults.{as_line}
use Rattle.verify_run.proofs.StoresLeft.{unread_stops}
use Rattle.verify_run.proofs.checking.check_line.Goals as goal

pub text_of-requires : goal.text_of-requires
text_of-requires g c = as_line c.args.line.now (seen_line c.in-Ok.line) c.in-Ok.ensures.ok

pub returns-in-Err-clause-err : goal.returns-in-Err-clause-err
returns-in-Err-clause-err g c = λ before local.
    unread_stops (width_of c.args.branch) before (disk_seen g.D.Disk.words c.args.disk.now) c.args.store.now (read_line Verify c.args.line.now) c.args.number c.in-Err.end local c.in-Err.ensures.err

pub returns-clause-err : goal.returns-clause-err
returns-clause-err g c = λ before local.
    let words = g.D.Disk.words in
    subst (λ read. IfErr c.text_of.result (λ end. Stops (width_of c.args.branch) before (disk_seen words c.text_of.new.disk) c.args.store.now read (end_of end) (λ v. Leaves c.args.number v end))) (sym c.in-Ok.ensures.ok) (c.text_of.ensures.err before local)
