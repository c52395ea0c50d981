use Rattle.std.proofs.Common.{subst}
use Rattle.mdb_core.specs.Proposals.{TakeFails}
use Rattle.session_model.specs.Session.{take, or_limit}
use Rattle.script_run.specs.ScriptSteps.{session_of}
use Rattle.batch_model.specs.Batch.{after_batch}
use Rattle.view_model.specs.Maps.{changes_of}
use Rattle.script_run.proofs.HeldMaps.{held_next}
use Rattle.script_run.proofs.KeptFiles.{kept_leaves}
use Rattle.script_run.proofs.LinesToPrint.{kept_if_ok, kept_if_err, went_done, went_stopped, went_kept, went_told}
use Rattle.script_run.proofs.Commits.{take_made, take_unmade, take_printing, take_begun, not_taken}
use Rattle.script_run.proofs.committing.take.Goals as goal

pub returns-in-Ok-clause-done : goal.returns-in-Ok-clause-done
returns-in-Ok-clause-done g c = λ tells m pending keeps.
    let d = g.D.Disk.words in
    let e = c.in-Ok.ensures in
    take_made c.args.db.now.width m c.args.db.now pending (d.seen c.args.disk.now) keeps c.args.number c.commit.new.self (d.seen c.commit.new.disk) e.taken (e.contents tells m keeps) c.numbered_line.result
    c.in-Ok.root e.views (held_next c.args.db.now c.commit.new.self m (after_batch m (changes_of c.args.db.now.forest c.args.number)) e.limits (e.held tells m keeps)) e.root.0 c.commit.ensures.width c.numbered_line.ensures

pub returns-in-Ok-clause-stopped : goal.returns-in-Ok-clause-stopped
returns-in-Ok-clause-stopped g c = λ tells m pending keeps.
    let d = g.D.Disk.words in
    let e = c.in-Ok.ensures in
    take_unmade c.args.db.now.width m c.args.db.now pending (d.seen c.args.disk.now) keeps c.args.number c.commit.new.self (d.seen c.commit.new.disk) e.taken (e.contents tells m keeps) c.numbered_line.result _ c.numbered_line.ensures

pub returns-in-Ok-clause-kept : goal.returns-in-Ok-clause-kept
returns-in-Ok-clause-kept g c = λ tells m pending keeps synced.
    let d = g.D.Disk.words in
    let w = c.args.db.now.width in
    let s = session_of m c.args.db.now pending in
    kept_if_err s (or_limit (take w s c.args.number)) (d.moments c.args.disk.now) (d.moments c.commit.new.disk) c.numbered_line.result
    (take_printing w m c.args.db.now pending (d.seen c.args.disk.now) keeps c.args.number (d.moments c.args.disk.now) (d.moments c.commit.new.disk) c.args.db.now.values.journal.file c.in-Ok.ensures.taken (c.commit.ensures.meanwhile tells m keeps synced) (c.in-Ok.ensures.left tells m keeps synced))

pub returns-in-Ok-clause-told : goal.returns-in-Ok-clause-told
returns-in-Ok-clause-told g c = λ tells m pending keeps synced.
    let d = g.D.Disk.words in
    let w = c.args.db.now.width in
    let s = session_of m c.args.db.now pending in
    kept_if_ok s (or_limit (take w s c.args.number)) (d.moments c.args.disk.now) (d.moments c.commit.new.disk) c.numbered_line.result
    (take_printing w m c.args.db.now pending (d.seen c.args.disk.now) keeps c.args.number (d.moments c.args.disk.now) (d.moments c.commit.new.disk) c.args.db.now.values.journal.file c.in-Ok.ensures.taken (c.commit.ensures.meanwhile tells m keeps synced) (c.in-Ok.ensures.left tells m keeps synced))

pub returns-in-Err-clause-done : goal.returns-in-Err-clause-done
returns-in-Err-clause-done g c = λ tells m pending keeps.
    let d = g.D.Disk.words in
    let w = c.args.db.now.width in
    let s = session_of m c.args.db.now pending in
    let old = d.moments c.args.disk.now in
    let now = d.moments c.commit.new.disk in
    let files = d.seen c.commit.new.disk in
    let went = not_taken w m c.args.db.now pending (d.seen c.args.disk.now) keeps c.args.number c.commit.new.self files old now c.refuse.result c.in-Err.fault c.requires.works c.in-Err.ensures.fault c.refuse.ensures (λ ne. let r = c.in-Err.ensures.refused ne in (r.0, r.1.seen, r.1.images)) in
    went_done s (or_limit (take w s c.args.number)) c.in-Err.fault c.refuse.result c.commit.new.self pending files old now went

pub returns-in-Err-clause-stopped : goal.returns-in-Err-clause-stopped
returns-in-Err-clause-stopped g c = λ tells m pending keeps.
    let d = g.D.Disk.words in
    let w = c.args.db.now.width in
    let s = session_of m c.args.db.now pending in
    let old = d.moments c.args.disk.now in
    let now = d.moments c.commit.new.disk in
    let files = d.seen c.commit.new.disk in
    let went = not_taken w m c.args.db.now pending (d.seen c.args.disk.now) keeps c.args.number c.commit.new.self files old now c.refuse.result c.in-Err.fault c.requires.works c.in-Err.ensures.fault c.refuse.ensures (λ ne. let r = c.in-Err.ensures.refused ne in (r.0, r.1.seen, r.1.images)) in
    went_stopped s (or_limit (take w s c.args.number)) c.in-Err.fault c.refuse.result c.commit.new.self pending files old now went

pub returns-in-Err-clause-kept : goal.returns-in-Err-clause-kept
returns-in-Err-clause-kept g c = λ tells m pending keeps synced.
    let d = g.D.Disk.words in
    let w = c.args.db.now.width in
    let s = session_of m c.args.db.now pending in
    let old = d.moments c.args.disk.now in
    let now = d.moments c.commit.new.disk in
    let files = d.seen c.commit.new.disk in
    let went = not_taken w m c.args.db.now pending (d.seen c.args.disk.now) keeps c.args.number c.commit.new.self files old now c.refuse.result c.in-Err.fault c.requires.works c.in-Err.ensures.fault c.refuse.ensures (λ ne. let r = c.in-Err.ensures.refused ne in (r.0, r.1.seen, r.1.images)) in
    went_kept s (or_limit (take w s c.args.number)) c.in-Err.fault c.refuse.result c.commit.new.self pending files old now went (kept_leaves c.args.db.now m (d.seen c.args.disk.now) old keeps synced)
    (λ is. take_begun w m c.args.db.now pending (d.seen c.args.disk.now) keeps c.args.number old now c.args.db.now.values.journal.file synced (subst (TakeFails c.args.db.now c.args.number) is c.in-Err.ensures.fault) (c.commit.ensures.meanwhile tells m keeps synced))

pub returns-in-Err-clause-told : goal.returns-in-Err-clause-told
returns-in-Err-clause-told g c = λ tells m pending keeps synced.
    let d = g.D.Disk.words in
    let w = c.args.db.now.width in
    let s = session_of m c.args.db.now pending in
    let old = d.moments c.args.disk.now in
    let now = d.moments c.commit.new.disk in
    let files = d.seen c.commit.new.disk in
    let went = not_taken w m c.args.db.now pending (d.seen c.args.disk.now) keeps c.args.number c.commit.new.self files old now c.refuse.result c.in-Err.fault c.requires.works c.in-Err.ensures.fault c.refuse.ensures (λ ne. let r = c.in-Err.ensures.refused ne in (r.0, r.1.seen, r.1.images)) in
    went_told s (or_limit (take w s c.args.number)) c.in-Err.fault c.refuse.result c.commit.new.self pending files old now went (kept_leaves c.args.db.now m (d.seen c.args.disk.now) old keeps synced)
