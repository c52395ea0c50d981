use Rattle.std.proofs.Common.{List, ℕ, Some, Ok, sym, subst, arith}
use Rattle.bit_keys.specs.Branch.{width_of}
use Rattle.batch_text.specs.SeenLine.{seen_line}
use Rattle.batch_text.specs.declared.line.Line.{Line}
use Rattle.text_model.specs.ReadLine.{VerifyChanges}
use Rattle.run_model.specs.OutsideThings.{disk_seen}
use Rattle.verify_run.specs.Checks.{IsShown, IsNotShown, end_at}
use Rattle.verify_run.specs.Ends.{end_of}
use Rattle.verify_run.specs.LocalStores.{Goes, Stops}
use Rattle.verify_run.proofs.StoresLeft.{goes_changes, stops_changes, alone_shown, alone_not_shown}
use Rattle.verify_run.proofs.ProofFaults.{not_changes}
use Rattle.verify_run.proofs.checking.shown.Goals as goal

pub returns-in-Ok-clause-ok : goal.returns-in-Ok-clause-ok
returns-in-Ok-clause-ok g c = λ before local.
    let w = width_of c.args.branch in
    let now = disk_seen g.D.Disk.words c.changes_at.new.disk in
    subst (λ (line : Line). Goes w before now c.args.store.now c.changes_at.new.store (Ok (seen_line line)) (IsShown (Some c.in-Ok.changes))) (sym c.in-VerifyChanges.is)
    (subst (λ (bytes : List ℕ). Goes w before now c.args.store.now c.changes_at.new.store (Ok (VerifyChanges c.in-VerifyChanges.root c.in-VerifyChanges.range bytes)) (IsShown (Some c.in-Ok.changes))) c.deref.ensures.value
    (goes_changes w before now c.args.store.now c.changes_at.new.store c.in-VerifyChanges.root c.in-VerifyChanges.range c.deref.result.now c.in-Ok.changes (c.in-Ok.ensures.opens before local) (c.in-Ok.ensures.ok before local)))

pub returns-in-VerifyChanges-clause-err : goal.returns-in-VerifyChanges-clause-err
returns-in-VerifyChanges-clause-err g c = λ before local n.
    let w = width_of c.args.branch in
    let now = disk_seen g.D.Disk.words c.changes_at.new.disk in
    let fault = c.in-Err.fault in
    subst (λ (line : Line). Stops w before now c.args.store.now (Ok (seen_line line)) (end_of (end_at n fault)) (IsNotShown fault)) (sym c.in-VerifyChanges.is)
    (subst (λ (bytes : List ℕ). Stops w before now c.args.store.now (Ok (VerifyChanges c.in-VerifyChanges.root c.in-VerifyChanges.range bytes)) (end_of (end_at n fault)) (IsNotShown fault)) c.deref.ensures.value
    (stops_changes w before now c.args.store.now c.in-VerifyChanges.root c.in-VerifyChanges.range c.deref.result.now fault (c.in-Err.ensures.fails before local) (c.in-Err.ensures.err before local) n))

pub returns : goal.returns
returns g c =
    let w = width_of c.args.branch in
    let now = disk_seen g.D.Disk.words c.args.disk.now in
    let alone = not_changes c.args.line c.in_default.not-VerifyChanges in record {
      ok = λ before local. alone_shown w before now c.args.store.now (Ok (seen_line c.args.line)) c.shown_alone.result local alone c.shown_alone.ensures.ok;
      err = λ before local. alone_not_shown w before now c.args.store.now (Ok (seen_line c.args.line)) c.shown_alone.result local c.shown_alone.ensures.alone c.shown_alone.ensures.err;
      later = omega arith;
    }
