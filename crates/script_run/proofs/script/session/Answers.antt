use Rattle.std.proofs.Common.{ℕ, subst}
use Rattle.disk_model.proofs.Telling.{contents_too}
use Rattle.session_model.specs.Session.{Session}
use Rattle.session_model.specs.Script.{at_end}
use Rattle.run_model.specs.OutsideThings.{disk_seen}
use Rattle.run_model.specs.Script.{Keeps as KeepsSteps}
use Rattle.script_run.specs.Ends.{end_of}
use Rattle.script_run.specs.ScriptSteps.{IsAt, PartRuns, still}
use Rattle.script_run.proofs.WholeScripts.{last_not_read, whole_runs, whole_kept}
use Rattle.script_run.proofs.script.session.Goals as goal

pub returns-in-Ok-clause-script : goal.returns-in-Ok-clause-script
returns-in-Ok-clause-script g c = λ told m keeps given.
    let d = g.D.Disk.words in
    let taken = g.K.Sink.taken in
    let db = c.run_lines.new.db in
    let files = d.seen c.run_lines.new.disk in
    let end = c.finish.result in
    let runs = λ (s : Session) (at : IsAt s db c.run_lines.new.pending files). subst (λ (w : ℕ). PartRuns (at_end w (still s) s.pending) s.map (taken c.run_lines.new.out) (taken c.finish.new.out) (d.seen c.finish.new.disk) (end_of end)) c.run_lines.ensures.width (c.finish.ensures.runs told s at) in
    whole_runs c.args.db.now.width m (taken c.args.out.now) (taken c.run_lines.new.out) (taken c.finish.new.out) db c.run_lines.new.pending files
    (g.S.Source.left c.args.input.now) (g.S.Source.left c.run_lines.new.input) (g.S.Source.faults c.args.input.now) (g.S.Source.faults c.run_lines.new.input) (g.K.Sink.faults c.args.out.now) (g.K.Sink.faults c.finish.new.out)
    (disk_seen d c.args.disk.now) (disk_seen d c.finish.new.disk) (end_of end) (c.in-Ok.ensures.done told m keeps given) (last_not_read _ _ _ _ end c.finish.ensures.cause) runs

pub returns-in-Ok-clause-kept : goal.returns-in-Ok-clause-kept
returns-in-Ok-clause-kept g c = λ told m keeps synced given.
    let d = g.D.Disk.words in
    let taken = g.K.Sink.taken in
    let db = c.run_lines.new.db in
    let files = d.seen c.run_lines.new.disk in
    let kept = λ (s : Session) (at : IsAt s db c.run_lines.new.pending files). subst (λ (w : ℕ). KeepsSteps s.map (at_end w (still s) s.pending).steps (taken c.run_lines.new.out) (taken c.finish.new.out) (d.moments c.run_lines.new.disk) (d.moments c.finish.new.disk)) c.run_lines.ensures.width (c.finish.ensures.kept told s at (c.in-Ok.ensures.synced told synced)) in
    whole_kept c.args.db.now.width m (taken c.args.out.now) (taken c.run_lines.new.out) (taken c.finish.new.out) db c.run_lines.new.pending files
    (g.S.Source.left c.args.input.now) (d.moments c.args.disk.now) (d.moments c.run_lines.new.disk) (d.moments c.finish.new.disk)
    (c.in-Ok.ensures.done (contents_too d.tells told) m keeps given) (c.in-Ok.ensures.meanwhile told m keeps synced given) kept
