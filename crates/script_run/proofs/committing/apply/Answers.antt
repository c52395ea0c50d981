use Rattle.std.proofs.Common.{[], Err, sym, subst}
use Rattle.mdb_core.specs.AppliedBatches.{ApplyFails}
use Rattle.session_model.specs.Session.{commit, or_limit}
use Rattle.script_run.specs.declared.end.SessionEnd.{SessionEnd}
use Rattle.script_run.specs.Ends.{end_of, fault_end}
use Rattle.script_run.specs.ScriptSteps.{RunsUnprinted, session_of}
use Rattle.batch_model.specs.Batch.{after_batch}
use Rattle.script_run.proofs.HeldMaps.{held_next}
use Rattle.script_run.proofs.KeptFiles.{kept_leaves}
use Rattle.script_run.proofs.LinesToPrint.{kept_if_ok, kept_if_err, went_stopped, went_kept}
use Rattle.script_run.proofs.Commits.{commit_made, commit_unmade, commit_printing, commit_begun, not_applied}
use Rattle.script_run.proofs.committing.apply.Goals as goal

pub returns-in-Ok-clause-done : goal.returns-in-Ok-clause-done
returns-in-Ok-clause-done g c = λ tells m keeps.
    let d = g.D.Disk.words in
    let e = c.in-Ok.ensures in
    commit_made c.args.db.now.width m c.args.db.now c.args.batch (d.seen c.args.disk.now) keeps c.apply.new.self (d.seen c.apply.new.disk) e.applied (e.contents tells m keeps) c.numbered_line.result
    c.in-Ok.made.0.number c.in-Ok.made.1 e.number e.views (held_next c.args.db.now c.apply.new.self m (after_batch m c.args.batch) e.limits (e.held tells m keeps)) e.root c.apply.ensures.width c.numbered_line.ensures

pub returns-in-Ok-clause-stopped : goal.returns-in-Ok-clause-stopped
returns-in-Ok-clause-stopped g c = λ tells m keeps.
    let d = g.D.Disk.words in
    let e = c.in-Ok.ensures in
    commit_unmade c.args.db.now.width m c.args.db.now c.args.batch (d.seen c.args.disk.now) keeps c.apply.new.self (d.seen c.apply.new.disk) e.applied (e.contents tells m keeps) c.numbered_line.result _ c.numbered_line.ensures

pub returns-in-Ok-clause-kept : goal.returns-in-Ok-clause-kept
returns-in-Ok-clause-kept g c = λ tells m keeps synced.
    let d = g.D.Disk.words in
    let w = c.args.db.now.width in
    let s = session_of m c.args.db.now c.args.batch in
    kept_if_err s (or_limit (commit w s)) (d.moments c.args.disk.now) (d.moments c.apply.new.disk) c.numbered_line.result
    (commit_printing w m c.args.db.now c.args.batch (d.seen c.args.disk.now) keeps (d.moments c.args.disk.now) (d.moments c.apply.new.disk) c.args.db.now.values.journal.file c.in-Ok.ensures.applied (c.apply.ensures.meanwhile tells m keeps synced) (c.in-Ok.ensures.left tells m keeps synced))

pub returns-in-Ok-clause-told : goal.returns-in-Ok-clause-told
returns-in-Ok-clause-told g c = λ tells m keeps synced.
    let d = g.D.Disk.words in
    let w = c.args.db.now.width in
    let s = session_of m c.args.db.now c.args.batch in
    kept_if_ok s (or_limit (commit w s)) (d.moments c.args.disk.now) (d.moments c.apply.new.disk) c.numbered_line.result
    (commit_printing w m c.args.db.now c.args.batch (d.seen c.args.disk.now) keeps (d.moments c.args.disk.now) (d.moments c.apply.new.disk) c.args.db.now.values.journal.file c.in-Ok.ensures.applied (c.apply.ensures.meanwhile tells m keeps synced) (c.in-Ok.ensures.left tells m keeps synced))

pub returns-clause-stopped : goal.returns-clause-stopped
returns-clause-stopped g c = λ tells m keeps.
    let d = g.D.Disk.words in
    let w = c.args.db.now.width in
    let s = session_of m c.args.db.now c.args.batch in
    let old = d.moments c.args.disk.now in
    let now = d.moments c.apply.new.disk in
    let files = d.seen c.apply.new.disk in
    subst (λ (end : SessionEnd). RunsUnprinted s (or_limit (commit w s)) files (end_of end)) (sym c.end_of_fault.ensures)
    (went_stopped s (or_limit (commit w s)) c.in-Err.fault (Err (fault_end c.in-Err.fault)) c.apply.new.self [] files old now
    (not_applied w m c.args.db.now c.args.batch (d.seen c.args.disk.now) keeps c.apply.new.self files old now c.in-Err.fault c.requires.works c.in-Err.ensures.fault (λ ne. let r = c.in-Err.ensures.refused ne in (r.1.seen, r.1.images))))

pub returns-clause-kept : goal.returns-clause-kept
returns-clause-kept g c = λ tells m keeps synced.
    let d = g.D.Disk.words in
    let w = c.args.db.now.width in
    let s = session_of m c.args.db.now c.args.batch in
    let old = d.moments c.args.disk.now in
    let now = d.moments c.apply.new.disk in
    let files = d.seen c.apply.new.disk in
    went_kept s (or_limit (commit w s)) c.in-Err.fault (Err (fault_end c.in-Err.fault)) c.apply.new.self [] files old now
    (not_applied w m c.args.db.now c.args.batch (d.seen c.args.disk.now) keeps c.apply.new.self files old now c.in-Err.fault c.requires.works c.in-Err.ensures.fault (λ ne. let r = c.in-Err.ensures.refused ne in (r.1.seen, r.1.images)))
    (kept_leaves c.args.db.now m (d.seen c.args.disk.now) old keeps synced)
    (λ is. commit_begun w m c.args.db.now c.args.batch (d.seen c.args.disk.now) keeps old now c.args.db.now.values.journal.file synced (subst (ApplyFails c.args.db.now c.args.batch) is c.in-Err.ensures.fault) (c.apply.ensures.meanwhile tells m keeps synced))
