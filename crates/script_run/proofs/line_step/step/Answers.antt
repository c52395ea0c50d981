use Rattle.std.proofs.Common.{Result, ap, sym, subst}
use Rattle.std.specs.Prelude.{string_bytes}
use Rattle.disk_model.proofs.Telling.{contents_too}
use Rattle.batch_text.specs.SeenLine.{seen_line}
use Rattle.session_model.specs.Session.{Session, Step, Stop, or_limit, line_step, step, read_step}
use Rattle.session_model.proofs.MapsOfScripts.{step-map}
use Rattle.script_run.specs.Ends.{end_of}
use Rattle.script_run.specs.ScriptSteps.{IsMade, RunsUnprinted, KeptUnprinted, KeptPrinting}
use Rattle.script_run.proofs.LinesToPrint.{session_is, done_printed, stopped_printing, kept_part}
use Rattle.script_run.proofs.QuietLines.{kept_still, unread_runs}
use Rattle.script_run.proofs.line_step.step.Goals as goal

pub returns-in-Err-clause-stopped : goal.returns-in-Err-clause-stopped
returns-in-Err-clause-stopped g c = λ told s at.
    unread_runs c.args.db.now.width c.args.number s c.args.db.now c.args.pending.now _ (g.K.Sink.taken c.args.out.now) at c.args.line.now c.in-Err.end c.in-Err.ensures.err

pub returns-in-Err-clause-kept : goal.returns-in-Err-clause-kept
returns-in-Err-clause-kept g c = λ told s at synced. kept_still s _ c.args.db.now c.args.pending.now _ (g.K.Sink.taken c.args.out.now) _ at synced

pub returns-in-Ok-do_line-clause-done : goal.returns-in-Ok-do_line-clause-done
returns-in-Ok-do_line-clause-done g c = λ told s at.
    let d = g.D.Disk.words in
    let db = c.args.db.now in
    let w = db.width in
    let pending = c.args.pending.now in
    let taken = g.K.Sink.taken in
    let old = d.moments c.args.disk.now in
    let now = d.moments c.do_line.new.disk in
    let files = d.seen c.do_line.new.disk in
    let made = step w c.args.number s c.args.line.now in
    let line = c.in-Ok.line in
    let there = session_is s db pending (d.seen c.args.disk.now) at in
    let read = sym (ap (read_step w c.args.number s) c.in-Ok.ensures.ok) in
    let is_made : IsMade made (string_bytes c.in-Ok-do_line.text) c.do_line.new.db c.do_line.new.pending files = subst (λ (r : Result (Session × Step) Stop). IsMade r (string_bytes c.in-Ok-do_line.text) c.do_line.new.db c.do_line.new.pending files) read (subst (λ (t : Session). IsMade (or_limit (line_step w t (seen_line line))) (string_bytes c.in-Ok-do_line.text) c.do_line.new.db c.do_line.new.pending files) there (c.in-Ok-do_line.ensures.done told s.map at.keeps_map)) in
    done_printed s made (string_bytes c.in-Ok-do_line.text) c.do_line.new.db c.do_line.new.pending files is_made (taken c.args.out.now) (taken c.print.new.out) c.print.result c.print.ensures.ok

pub returns-in-Ok-do_line-clause-stopped : goal.returns-in-Ok-do_line-clause-stopped
returns-in-Ok-do_line-clause-stopped g c = λ told s at.
    let d = g.D.Disk.words in
    let db = c.args.db.now in
    let w = db.width in
    let pending = c.args.pending.now in
    let taken = g.K.Sink.taken in
    let old = d.moments c.args.disk.now in
    let now = d.moments c.do_line.new.disk in
    let files = d.seen c.do_line.new.disk in
    let made = step w c.args.number s c.args.line.now in
    let line = c.in-Ok.line in
    let there = session_is s db pending (d.seen c.args.disk.now) at in
    let read = sym (ap (read_step w c.args.number s) c.in-Ok.ensures.ok) in
    let is_made : IsMade made (string_bytes c.in-Ok-do_line.text) c.do_line.new.db c.do_line.new.pending files = subst (λ (r : Result (Session × Step) Stop). IsMade r (string_bytes c.in-Ok-do_line.text) c.do_line.new.db c.do_line.new.pending files) read (subst (λ (t : Session). IsMade (or_limit (line_step w t (seen_line line))) (string_bytes c.in-Ok-do_line.text) c.do_line.new.db c.do_line.new.pending files) there (c.in-Ok-do_line.ensures.done told s.map at.keeps_map)) in
    stopped_printing s made (string_bytes c.in-Ok-do_line.text) c.do_line.new.db c.do_line.new.pending files is_made (taken c.args.out.now) (taken c.print.new.out) _ c.print.result c.print.ensures.err (step-map w c.args.number s c.args.line.now) c.print.ensures.prefix

pub returns-in-Ok-do_line-clause-kept : goal.returns-in-Ok-do_line-clause-kept
returns-in-Ok-do_line-clause-kept g c = λ told s at synced.
    let d = g.D.Disk.words in
    let db = c.args.db.now in
    let w = db.width in
    let pending = c.args.pending.now in
    let taken = g.K.Sink.taken in
    let old = d.moments c.args.disk.now in
    let now = d.moments c.do_line.new.disk in
    let files = d.seen c.do_line.new.disk in
    let made = step w c.args.number s c.args.line.now in
    let line = c.in-Ok.line in
    let there = session_is s db pending (d.seen c.args.disk.now) at in
    let read = sym (ap (read_step w c.args.number s) c.in-Ok.ensures.ok) in
    let is_made : IsMade made (string_bytes c.in-Ok-do_line.text) c.do_line.new.db c.do_line.new.pending files = subst (λ (r : Result (Session × Step) Stop). IsMade r (string_bytes c.in-Ok-do_line.text) c.do_line.new.db c.do_line.new.pending files) read (subst (λ (t : Session). IsMade (or_limit (line_step w t (seen_line line))) (string_bytes c.in-Ok-do_line.text) c.do_line.new.db c.do_line.new.pending files) there (c.in-Ok-do_line.ensures.done (contents_too d.tells told) s.map at.keeps_map)) in
    let kept : KeptPrinting s made old now = subst (λ (r : Result (Session × Step) Stop). KeptPrinting s r old now) read (subst (λ (t : Session). KeptPrinting t (or_limit (line_step w t (seen_line line))) old now) there (c.in-Ok-do_line.ensures.told told s.map at.keeps_map synced)) in
    kept_part s made (string_bytes c.in-Ok-do_line.text) c.do_line.new.db c.do_line.new.pending files is_made (taken c.args.out.now) (taken c.print.new.out) old now c.print.ensures.prefix kept

pub returns-in-Err-do_line-clause-stopped : goal.returns-in-Err-do_line-clause-stopped
returns-in-Err-do_line-clause-stopped g c = λ told s at.
    let d = g.D.Disk.words in
    let db = c.args.db.now in
    let w = db.width in
    let pending = c.args.pending.now in
    let taken = g.K.Sink.taken in
    let old = d.moments c.args.disk.now in
    let now = d.moments c.do_line.new.disk in
    let files = d.seen c.do_line.new.disk in
    let made = step w c.args.number s c.args.line.now in
    let line = c.in-Ok.line in
    let there = session_is s db pending (d.seen c.args.disk.now) at in
    let read = sym (ap (read_step w c.args.number s) c.in-Ok.ensures.ok) in
    let runs : RunsUnprinted s made files (end_of c.in-Err-do_line.end) = subst (λ (r : Result (Session × Step) Stop). RunsUnprinted s r files (end_of c.in-Err-do_line.end)) read (subst (λ (t : Session). RunsUnprinted t (or_limit (line_step w t (seen_line line))) files (end_of c.in-Err-do_line.end)) there (c.in-Err-do_line.ensures.stopped told s.map at.keeps_map)) in
    runs (taken c.args.out.now)

pub returns-in-Err-do_line-clause-kept : goal.returns-in-Err-do_line-clause-kept
returns-in-Err-do_line-clause-kept g c = λ told s at synced.
    let d = g.D.Disk.words in
    let db = c.args.db.now in
    let w = db.width in
    let pending = c.args.pending.now in
    let taken = g.K.Sink.taken in
    let old = d.moments c.args.disk.now in
    let now = d.moments c.do_line.new.disk in
    let files = d.seen c.do_line.new.disk in
    let made = step w c.args.number s c.args.line.now in
    let line = c.in-Ok.line in
    let there = session_is s db pending (d.seen c.args.disk.now) at in
    let read = sym (ap (read_step w c.args.number s) c.in-Ok.ensures.ok) in
    let kept : KeptUnprinted s made old now = subst (λ (r : Result (Session × Step) Stop). KeptUnprinted s r old now) read (subst (λ (t : Session). KeptUnprinted t (or_limit (line_step w t (seen_line line))) old now) there (c.in-Err-do_line.ensures.kept told s.map at.keeps_map synced)) in
    kept (taken c.args.out.now)

pub returns-in-Err-do_line-clause-cause : goal.returns-in-Err-do_line-clause-cause
returns-in-Err-do_line-clause-cause g c = c.in-Err-do_line.ensures.cause (g.K.Sink.faults c.args.out.now) (g.K.Sink.faults c.args.out.now)
