use Rattle.std.proofs.Common.{[], subst}
use Rattle.std.specs.Prelude.{string_bytes}
use Rattle.disk_model.proofs.Telling.{contents_too}
use Rattle.session_model.specs.Session.{Session, or_limit, commit}
use Rattle.session_model.proofs.MapsOfScripts.{Moves, commit-map}
use Rattle.session_model.proofs.Outcomes.{or_limit-ok}
use Rattle.script_run.specs.Ends.{end_of}
use Rattle.script_run.specs.ScriptSteps.{IsMade, RunsUnprinted, KeptUnprinted, KeptPrinting}
use Rattle.script_run.proofs.LinesToPrint.{session_is, done_printed, stopped_printing, kept_part}
use Rattle.script_run.proofs.committing.commit_and_print.Goals as goal

pub returns-in-Ok-clause-done : goal.returns-in-Ok-clause-done
returns-in-Ok-clause-done g c = λ told s at.
    let d = g.D.Disk.words in
    let db = c.args.db.now in
    let w = db.width in
    let pending = c.args.batch in
    let taken = g.K.Sink.taken in
    let old = d.moments c.args.disk.now in
    let now = d.moments c.commit.new.disk in
    let files = d.seen c.commit.new.disk in
    let made = or_limit (commit w s) in
    let there = session_is s db pending (d.seen c.args.disk.now) at in
    let is_made : IsMade made (string_bytes c.in-Ok.text) c.commit.new.db [] files = subst (λ (t : Session). IsMade (or_limit (commit w t)) (string_bytes c.in-Ok.text) c.commit.new.db [] files) there (c.in-Ok.ensures.done told s.map at.keeps_map) in
    done_printed s made (string_bytes c.in-Ok.text) c.commit.new.db [] files is_made (taken c.args.out.now) (taken c.print.new.out) c.print.result c.print.ensures.ok

pub returns-in-Ok-clause-stopped : goal.returns-in-Ok-clause-stopped
returns-in-Ok-clause-stopped g c = λ told s at.
    let d = g.D.Disk.words in
    let db = c.args.db.now in
    let w = db.width in
    let pending = c.args.batch in
    let taken = g.K.Sink.taken in
    let old = d.moments c.args.disk.now in
    let now = d.moments c.commit.new.disk in
    let files = d.seen c.commit.new.disk in
    let made = or_limit (commit w s) in
    let there = session_is s db pending (d.seen c.args.disk.now) at in
    let is_made : IsMade made (string_bytes c.in-Ok.text) c.commit.new.db [] files = subst (λ (t : Session). IsMade (or_limit (commit w t)) (string_bytes c.in-Ok.text) c.commit.new.db [] files) there (c.in-Ok.ensures.done told s.map at.keeps_map) in
    stopped_printing s made (string_bytes c.in-Ok.text) c.commit.new.db [] files is_made (taken c.args.out.now) (taken c.print.new.out) _ c.print.result c.print.ensures.err (or_limit-ok (Moves s.map) (commit w s) (commit-map w s)) c.print.ensures.prefix

pub returns-in-Ok-clause-kept : goal.returns-in-Ok-clause-kept
returns-in-Ok-clause-kept g c = λ told s at synced.
    let d = g.D.Disk.words in
    let db = c.args.db.now in
    let w = db.width in
    let pending = c.args.batch in
    let taken = g.K.Sink.taken in
    let old = d.moments c.args.disk.now in
    let now = d.moments c.commit.new.disk in
    let files = d.seen c.commit.new.disk in
    let made = or_limit (commit w s) in
    let there = session_is s db pending (d.seen c.args.disk.now) at in
    let is_made : IsMade made (string_bytes c.in-Ok.text) c.commit.new.db [] files = subst (λ (t : Session). IsMade (or_limit (commit w t)) (string_bytes c.in-Ok.text) c.commit.new.db [] files) there (c.in-Ok.ensures.done (contents_too d.tells told) s.map at.keeps_map) in
    let kept : KeptPrinting s made old now = subst (λ (t : Session). KeptPrinting t (or_limit (commit w t)) old now) there (c.in-Ok.ensures.told told s.map at.keeps_map synced) in
    kept_part s made (string_bytes c.in-Ok.text) c.commit.new.db [] files is_made (taken c.args.out.now) (taken c.print.new.out) old now c.print.ensures.prefix kept

pub returns-in-Err-clause-stopped : goal.returns-in-Err-clause-stopped
returns-in-Err-clause-stopped g c = λ told s at.
    let d = g.D.Disk.words in
    let db = c.args.db.now in
    let w = db.width in
    let pending = c.args.batch in
    let taken = g.K.Sink.taken in
    let old = d.moments c.args.disk.now in
    let now = d.moments c.commit.new.disk in
    let files = d.seen c.commit.new.disk in
    let made = or_limit (commit w s) in
    let there = session_is s db pending (d.seen c.args.disk.now) at in
    let runs : RunsUnprinted s made files (end_of c.in-Err.end) = subst (λ (t : Session). RunsUnprinted t (or_limit (commit w t)) files (end_of c.in-Err.end)) there (c.in-Err.ensures.stopped told s.map at.keeps_map) in
    runs (taken c.args.out.now)

pub returns-in-Err-clause-kept : goal.returns-in-Err-clause-kept
returns-in-Err-clause-kept g c = λ told s at synced.
    let d = g.D.Disk.words in
    let db = c.args.db.now in
    let w = db.width in
    let pending = c.args.batch in
    let taken = g.K.Sink.taken in
    let old = d.moments c.args.disk.now in
    let now = d.moments c.commit.new.disk in
    let files = d.seen c.commit.new.disk in
    let made = or_limit (commit w s) in
    let there = session_is s db pending (d.seen c.args.disk.now) at in
    let kept : KeptUnprinted s made old now = subst (λ (t : Session). KeptUnprinted t (or_limit (commit w t)) old now) there (c.in-Err.ensures.kept told s.map at.keeps_map synced) in
    kept (taken c.args.out.now)

pub returns-in-Err-clause-cause : goal.returns-in-Err-clause-cause
returns-in-Err-clause-cause g c = c.in-Err.ensures.cause (g.K.Sink.faults c.args.out.now) (g.K.Sink.faults c.args.out.now)
