use Rattle.std.proofs.Common.{◌≡◌, ℕ, Bool, List, Ok, Err, refl, sym, ap, ◌∙◌, subst, arith}
use Rattle.std.specs.Prelude.{is_ok}
use Rattle.std.specs.Option.{is_some}
use Rattle.bit_keys.specs.Branch.{width_of}
use Rattle.batch_text.specs.Stream.{SettlesNothing}
use Rattle.batch_text.specs.declared.reader.ReaderFault.{ReaderFault}
use Rattle.batch_text.specs.declared.reader.ReaderFault.TheVariants.{Read as ReadFault}
use Rattle.batch_text.proofs.UsedBytes.{none_used, line_used, good_so_far}
use Rattle.text_model.specs.ReadLine.{Verify as proof_lines, read_line}
use Rattle.run_model.specs.OutsideThings.{outside, disk_seen}
use Rattle.run_model.proofs.StoredMaps.{map_on_disk}
use Rattle.run_model.proofs.ToldThings.{rose_at_last}
use Rattle.proof_check.proofs.WholePoints.{width_of-IsWidth}
use Rattle.verify_run.specs.declared.end.VerifyEnd.TheVariants as ends
use Rattle.verify_run.specs.Ends.{end_of, reader_end, Passes, LineEnds}
use Rattle.verify_run.specs.LocalStores.{IsLocal, Goes, Stops}
use Rattle.verify_run.proofs.LinesSoFar.{passes, passes-RefusesOverlong, at_start, goes_on, within_start, within_on}
use Rattle.verify_run.proofs.StoresLeft.{asked_before}
use Rattle.verify_run.proofs.VerifyEnds.{Promises, at_end, reader_stops, line_stops, asks_now}
use Rattle.verify_run.proofs.lines.check_lines.Goals as goal

pub lines-init : goal.lines-init
lines-init g c =
    let left = g.S.Source.left c.args.input.now in
    let taken = g.K.Sink.taken c.args.out.now in
    let first = disk_seen g.D.Disk.words c.args.disk.now in
    let w = width_of c.args.branch in
    let reader = c.new-reader.result in
    let e = c.new-reader.ensures in record {
      local = subst (IsLocal w first first) (sym c.requires) refl;
      known = record {
        asks = λ was. let no : ⊥ = cc (sym (ap is_some c.requires) ∙ was) in absurd no;
        so_far = λ found fits. at_start w found left reader taken e.held e.allowed;
      };
      used = λ found fits. none_used (passes w found) (passes-RefusesOverlong w found) left reader e.held e.allowed;
      within = within_start left reader e.held e.allowed;
      room = omega arith;
      ended = λ h. let no = rw e.ended at h in let none : ⊥ = cc no in absurd none;
      tells = (λ x. x, λ x. x);
      reads = omega arith;
      writes = omega arith;
    }

pub returns-in-Ok-false-clause-shared : goal.returns-in-Ok-false-clause-shared
returns-in-Ok-false-clause-shared g c =
    let k = c.lines.invariant in
    let left = g.S.Source.left in
    let w = width_of c.args.branch in
    let reads = g.S.Source.faults in
    let taken = g.K.Sink.taken in
    let writes = g.K.Sink.faults in
    let disk = g.D.Disk.words in
    let stored = map_on_disk disk g.met.D.Disk.lawful c.stored_maps_are_within.ensures w c.args.disk.now in
    let end = c.in-Ok-false.ensures.end (ap (λ (b : Bool). Ok b) c.in-Ok-false.field-0-test) in
    let promises : Promises w (outside (left c.args.input.now) (reads c.args.input.now) (taken c.args.out.now) (writes c.args.out.now) (disk_seen disk c.args.disk.now)) (outside (left c.advance.new.input) (reads c.advance.new.input) (taken c.lines.out) (writes c.lines.out) (disk_seen disk c.lines.disk)) (end_of ends.Done) =
    at_end w (width_of-IsWidth c.args.branch) c.passed_lines_are_true.ensures (left c.args.input.now) (left c.lines.input) (left c.advance.new.input) c.lines.number c.lines.reader (taken c.args.out.now) (taken c.lines.out) (reads c.args.input.now) (reads c.advance.new.input) (writes c.args.out.now)
    (disk_seen disk c.args.disk.now) (disk_seen disk c.lines.disk) c.lines.store k.tells k.within k.known stored k.local (writes c.lines.out) end.0 end.1 in
    promises.shared

pub returns-in-Ok-false-clause-verify : goal.returns-in-Ok-false-clause-verify
returns-in-Ok-false-clause-verify g c =
    let k = c.lines.invariant in
    let left = g.S.Source.left in
    let w = width_of c.args.branch in
    let reads = g.S.Source.faults in
    let taken = g.K.Sink.taken in
    let writes = g.K.Sink.faults in
    let disk = g.D.Disk.words in
    let stored = map_on_disk disk g.met.D.Disk.lawful c.stored_maps_are_within.ensures w c.args.disk.now in
    let end = c.in-Ok-false.ensures.end (ap (λ (b : Bool). Ok b) c.in-Ok-false.field-0-test) in
    let promises : Promises w (outside (left c.args.input.now) (reads c.args.input.now) (taken c.args.out.now) (writes c.args.out.now) (disk_seen disk c.args.disk.now)) (outside (left c.advance.new.input) (reads c.advance.new.input) (taken c.lines.out) (writes c.lines.out) (disk_seen disk c.lines.disk)) (end_of ends.Done) =
    at_end w (width_of-IsWidth c.args.branch) c.passed_lines_are_true.ensures (left c.args.input.now) (left c.lines.input) (left c.advance.new.input) c.lines.number c.lines.reader (taken c.args.out.now) (taken c.lines.out) (reads c.args.input.now) (reads c.advance.new.input) (writes c.args.out.now)
    (disk_seen disk c.args.disk.now) (disk_seen disk c.lines.disk) c.lines.store k.tells k.within k.known stored k.local (writes c.lines.out) end.0 end.1 in
    promises.verify

pub returns-in-Err-clause-shared : goal.returns-in-Err-clause-shared
returns-in-Err-clause-shared g c =
    let k = c.lines.invariant in
    let left = g.S.Source.left in
    let w = width_of c.args.branch in
    let reads = g.S.Source.faults in
    let taken = g.K.Sink.taken in
    let writes = g.K.Sink.faults in
    let disk = g.D.Disk.words in
    let stored = map_on_disk disk g.met.D.Disk.lawful c.stored_maps_are_within.ensures w c.args.disk.now in
    let e = c.in-Err.ensures in
    let fault = c.in-Err.fault in
    let kept = e.kept (λ is. let no : ⊥ = cc is in no) in
    let held = c.advance.new.self.held in
    let nothing : fault ≡ ReadFault → SettlesNothing c.lines.reader.allowed held = λ is. subst (λ (n : ℕ). SettlesNothing n held) kept.1 (e.undecided (ap (λ (f : ReaderFault). Err f) is)) in
    let promises : Promises w (outside (left c.args.input.now) (reads c.args.input.now) (taken c.args.out.now) (writes c.args.out.now) (disk_seen disk c.args.disk.now)) (outside (left c.advance.new.input) (reads c.advance.new.input) (taken c.lines.out) (writes c.lines.out) (disk_seen disk c.lines.disk)) (end_of (reader_end c.lines.number fault)) =
    reader_stops w (width_of-IsWidth c.args.branch) c.passed_lines_are_true.ensures (left c.args.input.now) (left c.lines.input) (left c.advance.new.input) c.lines.number c.lines.reader (taken c.args.out.now) (taken c.lines.out) (reads c.args.input.now) (reads c.advance.new.input) (writes c.args.out.now)
    (disk_seen disk c.args.disk.now) (disk_seen disk c.lines.disk) c.lines.store k.tells k.within k.known stored k.local
    (writes c.lines.out) fault (λ is. e.limit (ap (λ (f : ReaderFault). Err f) is)) (λ is. e.overlong (ap (λ (f : ReaderFault). Err f) is))
    (λ is. rose_at_last (reads c.args.input.now) (reads c.lines.input) (reads c.advance.new.input) k.reads (e.read (ap (λ (f : ReaderFault). Err f) is)))
    (λ is found fits. good_so_far (passes w found) (passes-RefusesOverlong w found) (left c.args.input.now) (left c.lines.input) (left c.advance.new.input) c.lines.reader held k.tells (k.used found fits) kept.0 (nothing is)) in
    rw c.end_of_reader.ensures promises.shared

pub returns-in-Err-clause-verify : goal.returns-in-Err-clause-verify
returns-in-Err-clause-verify g c =
    let k = c.lines.invariant in
    let left = g.S.Source.left in
    let w = width_of c.args.branch in
    let reads = g.S.Source.faults in
    let taken = g.K.Sink.taken in
    let writes = g.K.Sink.faults in
    let disk = g.D.Disk.words in
    let stored = map_on_disk disk g.met.D.Disk.lawful c.stored_maps_are_within.ensures w c.args.disk.now in
    let e = c.in-Err.ensures in
    let fault = c.in-Err.fault in
    let kept = e.kept (λ is. let no : ⊥ = cc is in no) in
    let held = c.advance.new.self.held in
    let nothing : fault ≡ ReadFault → SettlesNothing c.lines.reader.allowed held = λ is. subst (λ (n : ℕ). SettlesNothing n held) kept.1 (e.undecided (ap (λ (f : ReaderFault). Err f) is)) in
    let promises : Promises w (outside (left c.args.input.now) (reads c.args.input.now) (taken c.args.out.now) (writes c.args.out.now) (disk_seen disk c.args.disk.now)) (outside (left c.advance.new.input) (reads c.advance.new.input) (taken c.lines.out) (writes c.lines.out) (disk_seen disk c.lines.disk)) (end_of (reader_end c.lines.number fault)) =
    reader_stops w (width_of-IsWidth c.args.branch) c.passed_lines_are_true.ensures (left c.args.input.now) (left c.lines.input) (left c.advance.new.input) c.lines.number c.lines.reader (taken c.args.out.now) (taken c.lines.out) (reads c.args.input.now) (reads c.advance.new.input) (writes c.args.out.now)
    (disk_seen disk c.args.disk.now) (disk_seen disk c.lines.disk) c.lines.store k.tells k.within k.known stored k.local
    (writes c.lines.out) fault (λ is. e.limit (ap (λ (f : ReaderFault). Err f) is)) (λ is. e.overlong (ap (λ (f : ReaderFault). Err f) is))
    (λ is. rose_at_last (reads c.args.input.now) (reads c.lines.input) (reads c.advance.new.input) k.reads (e.read (ap (λ (f : ReaderFault). Err f) is)))
    (λ is found fits. good_so_far (passes w found) (passes-RefusesOverlong w found) (left c.args.input.now) (left c.lines.input) (left c.advance.new.input) c.lines.reader held k.tells (k.used found fits) kept.0 (nothing is)) in
    rw c.end_of_reader.ensures promises.verify

pub returns-in-Err-step-clause-shared : goal.returns-in-Err-step-clause-shared
returns-in-Err-step-clause-shared g c =
    let k = c.lines.invariant in
    let left = g.S.Source.left in
    let w = width_of c.args.branch in
    let reads = g.S.Source.faults in
    let taken = g.K.Sink.taken in
    let writes = g.K.Sink.faults in
    let disk = g.D.Disk.words in
    let stored = map_on_disk disk g.met.D.Disk.lawful c.stored_maps_are_within.ensures w c.args.disk.now in
    let first = disk_seen disk c.args.disk.now in
    let last = disk_seen disk c.step.new.disk in
    let end = c.in-Err-step.end in
    let given = ap (λ (b : Bool). Ok b) c.in-Ok-true.field-0-test in
    let stops = subst (λ (line : List ℕ). Stops w first last c.lines.store (read_line proof_lines line) (end_of end) (λ v. LineEnds c.lines.number v (taken c.lines.out) (taken c.step.new.out) (writes c.lines.out) (writes c.step.new.out) end)) c.line.ensures (c.in-Err-step.ensures.err first k.local) in
    let promises : Promises w (outside (left c.args.input.now) (reads c.args.input.now) (taken c.args.out.now) (writes c.args.out.now) first) (outside (left c.advance.new.input) (reads c.advance.new.input) (taken c.step.new.out) (writes c.step.new.out) last) (end_of end) =
    line_stops w (width_of-IsWidth c.args.branch) c.passed_lines_are_true.ensures (left c.args.input.now) (left c.lines.input) (left c.advance.new.input) c.lines.number c.lines.reader (taken c.args.out.now) (taken c.lines.out) (reads c.args.input.now) (reads c.advance.new.input) (writes c.args.out.now)
    first last c.lines.store k.tells k.within k.known stored c.advance.new.self c.advance.ensures.tells (c.in-Ok-true.ensures.line given) end (taken c.step.new.out) (writes c.lines.out) (writes c.step.new.out) k.writes stops c.in-Err-step.ensures.may in
    promises.shared

pub returns-in-Err-step-clause-verify : goal.returns-in-Err-step-clause-verify
returns-in-Err-step-clause-verify g c =
    let k = c.lines.invariant in
    let left = g.S.Source.left in
    let w = width_of c.args.branch in
    let reads = g.S.Source.faults in
    let taken = g.K.Sink.taken in
    let writes = g.K.Sink.faults in
    let disk = g.D.Disk.words in
    let stored = map_on_disk disk g.met.D.Disk.lawful c.stored_maps_are_within.ensures w c.args.disk.now in
    let first = disk_seen disk c.args.disk.now in
    let last = disk_seen disk c.step.new.disk in
    let end = c.in-Err-step.end in
    let given = ap (λ (b : Bool). Ok b) c.in-Ok-true.field-0-test in
    let stops = subst (λ (line : List ℕ). Stops w first last c.lines.store (read_line proof_lines line) (end_of end) (λ v. LineEnds c.lines.number v (taken c.lines.out) (taken c.step.new.out) (writes c.lines.out) (writes c.step.new.out) end)) c.line.ensures (c.in-Err-step.ensures.err first k.local) in
    let promises : Promises w (outside (left c.args.input.now) (reads c.args.input.now) (taken c.args.out.now) (writes c.args.out.now) first) (outside (left c.advance.new.input) (reads c.advance.new.input) (taken c.step.new.out) (writes c.step.new.out) last) (end_of end) =
    line_stops w (width_of-IsWidth c.args.branch) c.passed_lines_are_true.ensures (left c.args.input.now) (left c.lines.input) (left c.advance.new.input) c.lines.number c.lines.reader (taken c.args.out.now) (taken c.lines.out) (reads c.args.input.now) (reads c.advance.new.input) (writes c.args.out.now)
    first last c.lines.store k.tells k.within k.known stored c.advance.new.self c.advance.ensures.tells (c.in-Ok-true.ensures.line given) end (taken c.step.new.out) (writes c.lines.out) (writes c.step.new.out) k.writes stops c.in-Err-step.ensures.may in
    promises.verify

pub lines-preserved : goal.lines-preserved
lines-preserved g c =
    let k = c.lines.invariant in
    let left = g.S.Source.left in
    let reads = g.S.Source.faults in
    let taken = g.K.Sink.taken in
    let writes = g.K.Sink.faults in
    let w = width_of c.args.branch in
    let disk = g.D.Disk.words in
    let stored = map_on_disk disk g.met.D.Disk.lawful c.stored_maps_are_within.ensures w c.args.disk.now in
    let first = disk_seen disk c.args.disk.now in
    let last = disk_seen disk c.step.new.disk in
    let new = c.advance.new.self in
    let given = ap (λ (b : Bool). Ok b) c.in-Ok-true.field-0-test in
    let gives = c.in-Ok-true.ensures.line given in
    let shorter = c.in-Ok-true.ensures.shorter given in
    let read = read_line proof_lines new.line in
    let goes : Goes w first last c.lines.store c.step.new.store read (λ v. Passes v (taken c.lines.out) (taken c.step.new.out)) =
    subst (λ (line : List ℕ). Goes w first last c.lines.store c.step.new.store (read_line proof_lines line) (λ v. Passes v (taken c.lines.out) (taken c.step.new.out))) c.line.ensures (c.in-Ok.ensures.ok first k.local) in
    let before = asked_before c.lines.store c.step.new.store read goes.asked in
    record {
      local = goes.local;
      known = record {
        asks = λ was. asks_now w (width_of-IsWidth c.args.branch) c.passed_lines_are_true.ensures (left c.args.input.now) (left c.lines.input) (left c.advance.new.input) c.lines.number c.lines.reader (taken c.args.out.now) (taken c.lines.out) (reads c.args.input.now) (reads c.advance.new.input) (writes c.args.out.now)
            first last c.lines.store k.tells k.within k.known stored new c.advance.ensures.tells gives (sym goes.asked ∙ was);
        so_far = λ found fits.
            let passed = goes.says found (λ asked. fits (goes.asked ∙ asked)) in
            goes_on w found (left c.args.input.now) (left c.lines.input) (left c.advance.new.input) c.lines.number c.lines.reader new (taken c.args.out.now) (taken c.lines.out) (taken c.step.new.out) passed.0 k.tells (k.known.so_far found (λ was. fits (before was))) gives passed.1 passed.2;
      };
      used = λ found fits.
          let passed = goes.says found (λ asked. fits (goes.asked ∙ asked)) in
          line_used (passes w found) (passes-RefusesOverlong w found) (left c.args.input.now) (left c.lines.input) (left c.advance.new.input) c.lines.reader new k.tells (k.used found (λ was. fits (before was))) (c.in-Ok-true.ensures.takes given) (ap is_ok passed.1);
      within = within_on (left c.args.input.now) (left c.lines.input) (left c.advance.new.input) c.lines.reader new k.tells k.within gives;
      room = omega (arith, k.room, shorter);
      ended = c.advance.ensures.ended;
      tells = (λ x. k.tells.0 (c.advance.ensures.tells.0 x), λ x. c.advance.ensures.tells.1 (k.tells.1 x));
      reads = omega (arith, k.reads, c.advance.ensures.later);
      writes = omega (arith, k.writes, c.step.ensures.writes);
    }
