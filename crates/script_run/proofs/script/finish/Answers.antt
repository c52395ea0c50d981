use Rattle.std.proofs.Common.{sym, ◌∙◌}
use Rattle.run_model.specs.End.{Done}
use Rattle.script_run.specs.Ends.{end_of}
use Rattle.script_run.proofs.QuietLines.{kept_still}
use Rattle.script_run.proofs.LastBatch.{same_batch, last_runs, done_runs}
use Rattle.script_run.proofs.script.finish.Goals as goal

pub returns-then-is_empty-clause-kept : goal.returns-then-is_empty-clause-kept
returns-then-is_empty-clause-kept g c = λ told s at synced. kept_still s _ c.args.db.now c.args.pending _ (g.K.Sink.taken c.args.out.now) _ at synced

pub returns-in_default-clause-kept : goal.returns-in_default-clause-kept
returns-in_default-clause-kept g c = λ told s at synced. kept_still s _ c.args.db.now c.args.pending _ (g.K.Sink.taken c.args.out.now) _ at synced

pub returns-in-Ok-commit_and_print-clause-runs : goal.returns-in-Ok-commit_and_print-clause-runs
returns-in-Ok-commit_and_print-clause-runs g c = λ told s at.
    let some = sym c.is_empty.ensures ∙ c.if-is_empty.false in
    let w = c.args.db.now.width in
    last_runs w s c.args.pending (g.K.Sink.taken c.args.out.now) (g.K.Sink.taken c.commit_and_print.new.out) (g.D.Disk.words.seen c.commit_and_print.new.disk) Done at.pending_is some
    (done_runs w s c.commit_and_print.new.db _ _ _ _ (c.in-Ok-commit_and_print.ensures.done told s (same_batch s c.args.db.now c.args.pending _ _ c.in-Ok.ensures at)))

pub returns-in-Err-clause-runs : goal.returns-in-Err-clause-runs
returns-in-Err-clause-runs g c = λ told s at.
    let some = sym c.is_empty.ensures ∙ c.if-is_empty.false in
    last_runs c.args.db.now.width s c.args.pending (g.K.Sink.taken c.args.out.now) (g.K.Sink.taken c.commit_and_print.new.out) (g.D.Disk.words.seen c.commit_and_print.new.disk) (end_of c.in-Err.end) at.pending_is some
    (c.in-Err.ensures.stopped told s (same_batch s c.args.db.now c.args.pending _ _ c.in-Ok.ensures at))
