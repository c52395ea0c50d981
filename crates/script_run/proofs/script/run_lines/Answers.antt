use Rattle.std.proofs.Common.{◌≡◌, ℕ, ap, refl, sym, subst, arith, Result, Ok, Err, Bool, List, ◌∙◌}
use Rattle.std.specs.Prelude.{IfSome}
use Rattle.disk_model.specs.Words.{TellsContents, TellsImages}
use Rattle.disk_model.proofs.Telling.{contents_too}
use Rattle.run_model.specs.OutsideThings.{outside, disk_seen}
use Rattle.run_model.specs.Script.{ScriptRuns, Keeps as KeepsSteps}
use Rattle.session_model.specs.Session.{Session, Step, Stop, step}
use Rattle.batch_text.specs.Stream.{SettlesNothing}
use Rattle.batch_text.specs.declared.reader.ReaderFault.{ReaderFault}
use Rattle.batch_text.specs.declared.reader.ReaderFault.TheVariants.{Read as ReadFault}
use Rattle.mdb_journal.specs.DiskMoves.{AreSynced}
use Rattle.script_run.specs.declared.end.SessionEnd.{SessionEnd}
use Rattle.script_run.specs.Ends.{end_of}
use Rattle.script_run.specs.ScriptSteps.{IsAt, IsDone, PartRuns, played}
use Rattle.script_run.proofs.LineCauses.{fits_start, fits_on, step_not_done, step_not_read}
use Rattle.script_run.proofs.ScriptSoFar.{Place, at_start, goes_on, all_done_at_end, line_stops, line_kept, reader_stops, reader_kept}
use Rattle.script_run.proofs.script.run_lines.Goals as goal

-- what is told of a step, by what is the width, and the line
as_step : (P : Result (Session × Step) Stop → Type 0) (w' w n : ℕ) (s : Session) (line' line : List ℕ) → w' ≡ w → line' ≡ line → P (step w' n s line') → P (step w n s line)
as_step P w' w n s line' line same_width same_line h = subst (λ (x : List ℕ). P (step w n s x)) same_line (subst (λ (v : ℕ). P (step v n s line')) same_width h)

pub lines-init : goal.lines-init
lines-init g c =
    let d = g.D.Disk.words in
    let left = g.S.Source.left c.args.input.now in
    let first : Place = record { db = c.args.db.now; pending = c.args.pending.now; taken = g.K.Sink.taken c.args.out.now; disk = disk_seen d c.args.disk.now } in
    record {
      so_far = λ told m keeps given. at_start c.args.db.now.width m (TellsImages d.tells × AreSynced (d.seen c.args.disk.now) (d.moments c.args.disk.now)) first left c.args.pending.now c.new-reader.result keeps given c.requires.none c.new-reader.ensures.held c.new-reader.ensures.allowed;
      synced = λ told synced. synced;
      works = c.requires.works;
      width = refl;
      fits = fits_start left c.new-reader.result c.new-reader.ensures.held c.new-reader.ensures.allowed;
      room = omega arith;
      ended = λ h. let no = rw c.new-reader.ensures.ended at h in let none : ⊥ = cc no in absurd none;
      tells = (λ x. x, λ x. x);
      reads = omega arith;
      writes = omega arith;
      disks = omega arith;
    }

pub returns-in-Ok-false-clause-done : goal.returns-in-Ok-false-clause-done
returns-in-Ok-false-clause-done g c = λ told m keeps given.
    let k = c.lines.invariant in
    let d = g.D.Disk.words in
    let end = c.in-Ok-false.ensures.end (ap (λ (b : Bool). Ok b) c.in-Ok-false.field-0-test) in
    let first : Place = record { db = c.args.db.now; pending = c.args.pending.now; taken = g.K.Sink.taken c.args.out.now; disk = disk_seen d c.args.disk.now } in
    let here : Place = record { db = c.lines.db; pending = c.lines.pending; taken = g.K.Sink.taken c.lines.out; disk = disk_seen d c.lines.disk } in
    all_done_at_end c.args.db.now.width m (TellsImages d.tells × AreSynced (d.seen c.args.disk.now) (d.moments c.args.disk.now)) first c.lines.number here c.lines.reader (g.S.Source.left c.args.input.now) (g.S.Source.left c.lines.input) k.tells (k.so_far told m keeps given) end.0

pub returns-in-Err-clause-stopped : goal.returns-in-Err-clause-stopped
returns-in-Err-clause-stopped g c = λ told m keeps given.
    let k = c.lines.invariant in
    let d = g.D.Disk.words in
    let left = g.S.Source.left in
    let w = c.args.db.now.width in
    let first : Place = record { db = c.args.db.now; pending = c.args.pending.now; taken = g.K.Sink.taken c.args.out.now; disk = disk_seen d c.args.disk.now } in
    let here : Place = record { db = c.lines.db; pending = c.lines.pending; taken = g.K.Sink.taken c.lines.out; disk = disk_seen d c.lines.disk } in
    let e = c.in-Err.ensures in
    let fault = c.in-Err.fault in
    let kept = e.kept (λ is. let no : ⊥ = cc is in no) in
    let held = c.advance.new.self.held in
    let nothing : fault ≡ ReadFault → SettlesNothing c.lines.reader.allowed held = λ is. subst (λ (n : ℕ). SettlesNothing n held) kept.1 (e.undecided (ap (λ (f : ReaderFault). Err f) is)) in
    subst (λ (end : SessionEnd). IfSome (left c.args.input.now) (λ bytes. ScriptRuns w m bytes (outside (left c.args.input.now) (g.S.Source.faults c.args.input.now) (g.K.Sink.taken c.args.out.now) (g.K.Sink.faults c.args.out.now) (disk_seen d c.args.disk.now)) (outside (left c.advance.new.input) (g.S.Source.faults c.advance.new.input) (g.K.Sink.taken c.lines.out) (g.K.Sink.faults c.lines.out) (disk_seen d c.lines.disk)) (end_of end))) (sym c.end_of_reader.ensures)
    (reader_stops w m (TellsImages d.tells × AreSynced (d.seen c.args.disk.now) (d.moments c.args.disk.now)) first c.lines.number here c.lines.reader (left c.args.input.now) (left c.lines.input) (left c.advance.new.input) held fault
    (g.S.Source.faults c.args.input.now) (g.S.Source.faults c.advance.new.input) (g.K.Sink.faults c.args.out.now) (g.K.Sink.faults c.lines.out) k.tells c.advance.ensures.tells (k.so_far told m keeps given) kept.0
    (λ is. e.limit (ap (λ (f : ReaderFault). Err f) is)) (λ is. e.overlong (ap (λ (f : ReaderFault). Err f) is)) nothing)

pub returns-in-Err-clause-kept : goal.returns-in-Err-clause-kept
returns-in-Err-clause-kept g c = λ told m keeps synced given.
    let k = c.lines.invariant in
    let d = g.D.Disk.words in
    let first : Place = record { db = c.args.db.now; pending = c.args.pending.now; taken = g.K.Sink.taken c.args.out.now; disk = disk_seen d c.args.disk.now } in
    let here : Place = record { db = c.lines.db; pending = c.lines.pending; taken = g.K.Sink.taken c.lines.out; disk = disk_seen d c.lines.disk } in
    reader_kept c.args.db.now.width m (TellsImages d.tells × AreSynced (d.seen c.args.disk.now) (d.moments c.args.disk.now)) first c.lines.number here c.lines.reader (g.S.Source.left c.args.input.now) (g.S.Source.left c.lines.input) k.tells (k.so_far (contents_too d.tells told) m keeps given) (told, synced) (k.synced told synced)

pub returns-in-Err-step-clause-stopped : goal.returns-in-Err-step-clause-stopped
returns-in-Err-step-clause-stopped g c = λ told m keeps given.
    let k = c.lines.invariant in
    let d = g.D.Disk.words in
    let left = g.S.Source.left in
    let w = c.args.db.now.width in
    let n = c.lines.number in
    let new = c.advance.new.self in
    let first : Place = record { db = c.args.db.now; pending = c.args.pending.now; taken = g.K.Sink.taken c.args.out.now; disk = disk_seen d c.args.disk.now } in
    let here : Place = record { db = c.lines.db; pending = c.lines.pending; taken = g.K.Sink.taken c.lines.out; disk = disk_seen d c.lines.disk } in
    let there : Place = record { db = c.step.new.db; pending = c.step.new.pending; taken = g.K.Sink.taken c.step.new.out; disk = disk_seen d c.step.new.disk } in
    let images = TellsImages d.tells × AreSynced (d.seen c.args.disk.now) (d.moments c.args.disk.now) in
    let given_line = ap (λ (b : Bool). Ok b) c.in-Ok-true.field-0-test in
    let gives = c.in-Ok-true.ensures.line given_line in
    let end = c.in-Err-step.end in
    let why = c.in-Err-step.ensures.cause in
    let runs = λ (s : Session) (at : IsAt s here.db here.pending here.disk.files). as_step (λ (made : Result (Session × Step) Stop). PartRuns (played s made) s.map here.taken there.taken there.disk.files (end_of end)) c.lines.db.width w n s c.line.result.now new.line k.width c.line.ensures (c.in-Err-step.ensures.stopped told s at) in
    line_stops w m images first n here c.lines.reader (left c.args.input.now) (left c.lines.input) (left c.advance.new.input) there new (end_of end) (g.S.Source.faults c.args.input.now) (g.S.Source.faults c.advance.new.input) (g.K.Sink.faults c.args.out.now) (g.K.Sink.faults c.step.new.out)
    k.tells c.advance.ensures.tells (k.so_far told m keeps given) gives (step_not_done _ _ _ _ end why) (step_not_read _ _ _ _ end why) runs

pub returns-in-Err-step-clause-kept : goal.returns-in-Err-step-clause-kept
returns-in-Err-step-clause-kept g c = λ told m keeps synced given.
    let k = c.lines.invariant in
    let d = g.D.Disk.words in
    let left = g.S.Source.left in
    let w = c.args.db.now.width in
    let n = c.lines.number in
    let new = c.advance.new.self in
    let first : Place = record { db = c.args.db.now; pending = c.args.pending.now; taken = g.K.Sink.taken c.args.out.now; disk = disk_seen d c.args.disk.now } in
    let here : Place = record { db = c.lines.db; pending = c.lines.pending; taken = g.K.Sink.taken c.lines.out; disk = disk_seen d c.lines.disk } in
    let there : Place = record { db = c.step.new.db; pending = c.step.new.pending; taken = g.K.Sink.taken c.step.new.out; disk = disk_seen d c.step.new.disk } in
    let images = TellsImages d.tells × AreSynced (d.seen c.args.disk.now) (d.moments c.args.disk.now) in
    let given_line = ap (λ (b : Bool). Ok b) c.in-Ok-true.field-0-test in
    let gives = c.in-Ok-true.ensures.line given_line in
    let kept = λ (s : Session) (at : IsAt s here.db here.pending here.disk.files). as_step (λ (made : Result (Session × Step) Stop). KeepsSteps s.map (played s made).steps here.taken there.taken here.disk.moments there.disk.moments) c.lines.db.width w n s c.line.result.now new.line k.width c.line.ensures (c.step.ensures.kept told s at (k.synced told synced)) in
    line_kept w m images first n here c.lines.reader (left c.args.input.now) (left c.lines.input) (left c.advance.new.input) there new
    k.tells c.advance.ensures.tells (k.so_far (contents_too d.tells told) m keeps given) gives (told, synced) kept

pub lines-preserved : goal.lines-preserved
lines-preserved g c =
    let k = c.lines.invariant in
    let d = g.D.Disk.words in
    let left = g.S.Source.left in
    let w = c.args.db.now.width in
    let n = c.lines.number in
    let new = c.advance.new.self in
    let first : Place = record { db = c.args.db.now; pending = c.args.pending.now; taken = g.K.Sink.taken c.args.out.now; disk = disk_seen d c.args.disk.now } in
    let here : Place = record { db = c.lines.db; pending = c.lines.pending; taken = g.K.Sink.taken c.lines.out; disk = disk_seen d c.lines.disk } in
    let there : Place = record { db = c.step.new.db; pending = c.step.new.pending; taken = g.K.Sink.taken c.step.new.out; disk = disk_seen d c.step.new.disk } in
    let images = TellsImages d.tells × AreSynced (d.seen c.args.disk.now) (d.moments c.args.disk.now) in
    let given_line = ap (λ (b : Bool). Ok b) c.in-Ok-true.field-0-test in
    let gives = c.in-Ok-true.ensures.line given_line in
    let shorter = c.in-Ok-true.ensures.shorter given_line in
    let done = λ (told : TellsContents d.tells) (s : Session) (at : IsAt s here.db here.pending here.disk.files). as_step (λ (made : Result (Session × Step) Stop). IsDone made there.db there.pending there.disk.files here.taken there.taken) c.lines.db.width w n s c.line.result.now new.line k.width c.line.ensures (c.in-Ok.ensures.done told s at) in
    let kept = λ (given : images) (s : Session) (at : IsAt s here.db here.pending here.disk.files). as_step (λ (made : Result (Session × Step) Stop). KeepsSteps s.map (played s made).steps here.taken there.taken here.disk.moments there.disk.moments) c.lines.db.width w n s c.line.result.now new.line k.width c.line.ensures (c.step.ensures.kept given.0 s at (k.synced given.0 given.1)) in
    record {
      so_far = λ told m keeps given. goes_on w m images first n here c.lines.reader (left c.args.input.now) (left c.lines.input) (left c.advance.new.input) there new k.tells (k.so_far told m keeps given) (done told) kept gives (c.in-Ok-true.ensures.takes given_line);
      synced = λ told synced. c.in-Ok.ensures.synced told (k.synced told synced);
      works = c.in-Ok.ensures.works;
      width = c.step.ensures.width ∙ k.width;
      fits = fits_on (left c.args.input.now) (left c.lines.input) (left c.advance.new.input) c.lines.reader new k.tells k.fits gives;
      room = omega (arith, k.room, shorter);
      ended = c.advance.ensures.ended;
      tells = (λ x. k.tells.0 (c.advance.ensures.tells.0 x), λ x. c.advance.ensures.tells.1 (k.tells.1 x));
      reads = omega (arith, k.reads, c.advance.ensures.later);
      writes = omega (arith, k.writes, c.step.ensures.out_later);
      disks = omega (arith, k.disks, c.step.ensures.disk_later);
    }
