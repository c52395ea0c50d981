use Rattle.std.proofs.Common.{◌≡◌, ℕ, List, [], Some, None, Ok, ap, sym, refl, subst}
use Rattle.std.specs.Prelude.{IfOk, IfErr, OnOk, OnErr, string_bytes}
use Rattle.std.specs.FinMap as map_of
use Rattle.disk_model.proofs.Telling.{contents_too}
use Rattle.trie_model.specs.Maps.{root}
use Rattle.batch_model.specs.Batch.{Change}
use Rattle.text_model.specs.Texts.{root_text, value_text}
use Rattle.batch_text.specs.SeenLine.{seen_line, seen_place, seen_root}
use Rattle.batch_text.specs.declared.line.Line.{Line}
use Rattle.mdb_core.specs.Stores.{held_maps}
use Rattle.mdb_core.specs.declared.fault.DbFault.TheVariants.{Disk}
use Rattle.mdb_core.proofs.StoreFiles.{kept_stands, kept_same}
use Rattle.session_model.specs.MapsByRoot.{proved, range_proved, changes_proved}
use Rattle.session_model.specs.Session.{or_limit, line_step, commit, view, told, told_proof}
use Rattle.run_model.specs.Script.{Keeps as KeepsSteps}
use Rattle.script_run.specs.Ends.{end_of}
use Rattle.script_run.specs.ScriptSteps.{IsMade, IsQuiet, RunsUnprinted, KeptUnprinted, KeptPrinting, played, session_of}
use Rattle.script_run.proofs.KeptFiles.{kept_leaves}
use Rattle.script_run.proofs.KeptSteps.{idle}
use Rattle.script_run.proofs.LinesToPrint.{Went, quiet_done, quiet_stopped, quiet_kept, quiet_told, went_done, went_stopped, went_kept, went_told}
use Rattle.script_run.proofs.QuietLines.{skip_quiet, pend_quiet}
use Rattle.script_run.proofs.Views.{state_quiet, told_quiet, told_got, proof_got, range_got, changes_got}
use Rattle.script_run.proofs.line_step.do_line.Goals as goal

pub returns-in-Skip-clause-done : goal.returns-in-Skip-clause-done
returns-in-Skip-clause-done g c = λ tells m keeps.
    let d = g.D.Disk.words in
    let db = c.args.db.now in
    let w = db.width in
    let pending = c.args.pending.now in
    let s = session_of m db pending in
    let made = or_limit (line_step w s (seen_line c.args.line)) in
    let files = d.seen c.args.disk.now in
    let old = d.moments c.args.disk.now in
    let now = d.moments c.args.disk.now in
    let quiet : IsQuiet made (Ok c.new.result) db pending files = subst (λ (line : Line). IsQuiet (or_limit (line_step w s (seen_line line))) (Ok c.new.result) db pending files) (sym c.in-Skip.is) (skip_quiet m db pending files (Ok c.new.result) keeps c.new.ensures.bytes) in
    quiet_done s made (Ok c.new.result) db pending files quiet

pub returns-in-Skip-clause-told : goal.returns-in-Skip-clause-told
returns-in-Skip-clause-told g c = λ tells m keeps synced.
    let d = g.D.Disk.words in
    let db = c.args.db.now in
    let w = db.width in
    let pending = c.args.pending.now in
    let s = session_of m db pending in
    let made = or_limit (line_step w s (seen_line c.args.line)) in
    let files = d.seen c.args.disk.now in
    let old = d.moments c.args.disk.now in
    let now = d.moments c.args.disk.now in
    let quiet : IsQuiet made (Ok c.new.result) db pending files = subst (λ (line : Line). IsQuiet (or_limit (line_step w s (seen_line line))) (Ok c.new.result) db pending files) (sym c.in-Skip.is) (skip_quiet m db pending files (Ok c.new.result) keeps c.new.ensures.bytes) in
    quiet_told s made (Ok c.new.result) db pending files old now refl (kept_leaves db m (d.seen c.args.disk.now) old keeps synced) quiet

pub returns-in-Put-clause-done : goal.returns-in-Put-clause-done
returns-in-Put-clause-done g c = λ tells m keeps.
    let d = g.D.Disk.words in
    let db = c.args.db.now in
    let w = db.width in
    let pending = c.args.pending.now in
    let s = session_of m db pending in
    let made = or_limit (line_step w s (seen_line c.args.line)) in
    let files = d.seen c.args.disk.now in
    let old = d.moments c.args.disk.now in
    let now = d.moments c.args.disk.now in
    let quiet : IsQuiet made c.pend.result db c.pend.new.pending files = subst (λ (line : Line). IsQuiet (or_limit (line_step w s (seen_line line))) c.pend.result db c.pend.new.pending files) (sym c.in-Put.is) (pend_quiet m db pending c.pend.new.pending files c.in-Put.key.items (Some c.in-Put.value.items) c.pend.result keeps c.pend.ensures.ok c.pend.ensures.text) in
    quiet_done s made c.pend.result db c.pend.new.pending files quiet

pub returns-in-Put-clause-kept : goal.returns-in-Put-clause-kept
returns-in-Put-clause-kept g c = λ tells m keeps synced.
    let d = g.D.Disk.words in
    let db = c.args.db.now in
    let w = db.width in
    let pending = c.args.pending.now in
    let s = session_of m db pending in
    let made = or_limit (line_step w s (seen_line c.args.line)) in
    let files = d.seen c.args.disk.now in
    let old = d.moments c.args.disk.now in
    let now = d.moments c.args.disk.now in
    quiet_kept s made c.pend.result db c.pend.new.pending files old now refl (kept_leaves db m (d.seen c.args.disk.now) old keeps synced)

pub returns-in-Put-clause-told : goal.returns-in-Put-clause-told
returns-in-Put-clause-told g c = λ tells m keeps synced.
    let d = g.D.Disk.words in
    let db = c.args.db.now in
    let w = db.width in
    let pending = c.args.pending.now in
    let s = session_of m db pending in
    let made = or_limit (line_step w s (seen_line c.args.line)) in
    let files = d.seen c.args.disk.now in
    let old = d.moments c.args.disk.now in
    let now = d.moments c.args.disk.now in
    let quiet : IsQuiet made c.pend.result db c.pend.new.pending files = subst (λ (line : Line). IsQuiet (or_limit (line_step w s (seen_line line))) c.pend.result db c.pend.new.pending files) (sym c.in-Put.is) (pend_quiet m db pending c.pend.new.pending files c.in-Put.key.items (Some c.in-Put.value.items) c.pend.result keeps c.pend.ensures.ok c.pend.ensures.text) in
    quiet_told s made c.pend.result db c.pend.new.pending files old now refl (kept_leaves db m (d.seen c.args.disk.now) old keeps synced) quiet

pub returns-in-Del-clause-done : goal.returns-in-Del-clause-done
returns-in-Del-clause-done g c = λ tells m keeps.
    let d = g.D.Disk.words in
    let db = c.args.db.now in
    let w = db.width in
    let pending = c.args.pending.now in
    let s = session_of m db pending in
    let made = or_limit (line_step w s (seen_line c.args.line)) in
    let files = d.seen c.args.disk.now in
    let old = d.moments c.args.disk.now in
    let now = d.moments c.args.disk.now in
    let quiet : IsQuiet made c.pend-in-Del.result db c.pend-in-Del.new.pending files = subst (λ (line : Line). IsQuiet (or_limit (line_step w s (seen_line line))) c.pend-in-Del.result db c.pend-in-Del.new.pending files) (sym c.in-Del.is) (pend_quiet m db pending c.pend-in-Del.new.pending files c.in-Del.key.items None c.pend-in-Del.result keeps c.pend-in-Del.ensures.ok c.pend-in-Del.ensures.text) in
    quiet_done s made c.pend-in-Del.result db c.pend-in-Del.new.pending files quiet

pub returns-in-Del-clause-kept : goal.returns-in-Del-clause-kept
returns-in-Del-clause-kept g c = λ tells m keeps synced.
    let d = g.D.Disk.words in
    let db = c.args.db.now in
    let w = db.width in
    let pending = c.args.pending.now in
    let s = session_of m db pending in
    let made = or_limit (line_step w s (seen_line c.args.line)) in
    let files = d.seen c.args.disk.now in
    let old = d.moments c.args.disk.now in
    let now = d.moments c.args.disk.now in
    quiet_kept s made c.pend-in-Del.result db c.pend-in-Del.new.pending files old now refl (kept_leaves db m (d.seen c.args.disk.now) old keeps synced)

pub returns-in-Del-clause-told : goal.returns-in-Del-clause-told
returns-in-Del-clause-told g c = λ tells m keeps synced.
    let d = g.D.Disk.words in
    let db = c.args.db.now in
    let w = db.width in
    let pending = c.args.pending.now in
    let s = session_of m db pending in
    let made = or_limit (line_step w s (seen_line c.args.line)) in
    let files = d.seen c.args.disk.now in
    let old = d.moments c.args.disk.now in
    let now = d.moments c.args.disk.now in
    let quiet : IsQuiet made c.pend-in-Del.result db c.pend-in-Del.new.pending files = subst (λ (line : Line). IsQuiet (or_limit (line_step w s (seen_line line))) c.pend-in-Del.result db c.pend-in-Del.new.pending files) (sym c.in-Del.is) (pend_quiet m db pending c.pend-in-Del.new.pending files c.in-Del.key.items None c.pend-in-Del.result keeps c.pend-in-Del.ensures.ok c.pend-in-Del.ensures.text) in
    quiet_told s made c.pend-in-Del.result db c.pend-in-Del.new.pending files old now refl (kept_leaves db m (d.seen c.args.disk.now) old keeps synced) quiet

pub returns-in-Ok-clause-stopped : goal.returns-in-Ok-clause-stopped
returns-in-Ok-clause-stopped g c = λ tells m keeps.
    let d = g.D.Disk.words in
    let db = c.args.db.now in
    let w = db.width in
    let pending = c.args.pending.now in
    let s = session_of m db pending in
    let made = or_limit (line_step w s (seen_line c.args.line)) in
    let files = d.seen c.commit.new.disk in
    let old = d.moments c.args.disk.now in
    let now = d.moments c.commit.new.disk in
    let of_batch = c.commit.ensures.stopped tells m keeps in
    let of_pending = subst (λ (cs : List Change). IfErr c.commit.result (λ end. RunsUnprinted (session_of m db cs) (or_limit (commit w (session_of m db cs))) files (end_of end))) c.in-Ok.ensures.batch of_batch in
    subst (λ (line : Line). IfErr c.commit.result (λ end. RunsUnprinted (s) (or_limit (line_step w s (seen_line line))) files (end_of end))) (sym c.in-Commit.is) of_pending

pub returns-in-Ok-clause-kept : goal.returns-in-Ok-clause-kept
returns-in-Ok-clause-kept g c = λ tells m keeps synced.
    let d = g.D.Disk.words in
    let db = c.args.db.now in
    let w = db.width in
    let pending = c.args.pending.now in
    let s = session_of m db pending in
    let made = or_limit (line_step w s (seen_line c.args.line)) in
    let files = d.seen c.commit.new.disk in
    let old = d.moments c.args.disk.now in
    let now = d.moments c.commit.new.disk in
    let of_batch = c.commit.ensures.kept tells m keeps synced in
    let of_pending = subst (λ (cs : List Change). OnErr c.commit.result (KeptUnprinted (session_of m db cs) (or_limit (commit w (session_of m db cs))) old now)) c.in-Ok.ensures.batch of_batch in
    subst (λ (line : Line). OnErr c.commit.result (KeptUnprinted (s) (or_limit (line_step w s (seen_line line))) old now)) (sym c.in-Commit.is) of_pending

pub returns-in-Ok-clause-told : goal.returns-in-Ok-clause-told
returns-in-Ok-clause-told g c = λ tells m keeps synced.
    let d = g.D.Disk.words in
    let db = c.args.db.now in
    let w = db.width in
    let pending = c.args.pending.now in
    let s = session_of m db pending in
    let made = or_limit (line_step w s (seen_line c.args.line)) in
    let files = d.seen c.commit.new.disk in
    let old = d.moments c.args.disk.now in
    let now = d.moments c.commit.new.disk in
    let of_batch = c.commit.ensures.told tells m keeps synced in
    let of_pending = subst (λ (cs : List Change). OnOk c.commit.result (KeptPrinting (session_of m db cs) (or_limit (commit w (session_of m db cs))) old now)) c.in-Ok.ensures.batch of_batch in
    subst (λ (line : Line). OnOk c.commit.result (KeptPrinting (s) (or_limit (line_step w s (seen_line line))) old now)) (sym c.in-Commit.is) of_pending

pub returns-in-Commit-clause-kept : goal.returns-in-Commit-clause-kept
returns-in-Commit-clause-kept g c = λ tells m keeps synced taken. idle m _ taken (g.D.Disk.words.moments c.args.disk.now) (kept_leaves c.args.db.now m (g.D.Disk.words.seen c.args.disk.now) (g.D.Disk.words.moments c.args.disk.now) keeps synced)

pub returns-in-View-clause-kept : goal.returns-in-View-clause-kept
returns-in-View-clause-kept g c = λ tells m keeps synced taken. idle m _ taken (g.D.Disk.words.moments c.args.disk.now) (kept_leaves c.args.db.now m (g.D.Disk.words.seen c.args.disk.now) (g.D.Disk.words.moments c.args.disk.now) keeps synced)

pub returns-in-Ok-take-clause-done : goal.returns-in-Ok-take-clause-done
returns-in-Ok-take-clause-done g c = λ tells m keeps.
    let d = g.D.Disk.words in
    let db = c.args.db.now in
    let w = db.width in
    let pending = c.args.pending.now in
    let s = session_of m db pending in
    let made = or_limit (line_step w s (seen_line c.args.line)) in
    let files = d.seen c.view.new.disk in
    let old = d.moments c.args.disk.now in
    let now = d.moments c.view.new.disk in
    let quiet : IsQuiet made c.view.result c.view.new.db c.take-in-View.new.self files = subst (λ (line : Line). IsQuiet (or_limit (line_step w s (seen_line line))) c.view.result c.view.new.db c.take-in-View.new.self files) (sym c.in-View.is) (subst (λ (ps : List Change). IsQuiet (or_limit (view w s (seen_place c.in-View.place))) c.view.result c.view.new.db ps files) (sym c.take-in-View.ensures.none) (subst (λ (cs : List Change). IsQuiet (or_limit (view w (session_of m db cs) (seen_place c.in-View.place))) c.view.result c.view.new.db [] files) c.in-Ok-take.ensures.batch (c.view.ensures.quiet m files (kept_same db m (d.seen c.args.disk.now) files (ap d.seen c.view.ensures.disk) keeps)))) in
    quiet_done s made c.view.result c.view.new.db c.take-in-View.new.self files quiet

pub returns-in-Ok-take-clause-stopped : goal.returns-in-Ok-take-clause-stopped
returns-in-Ok-take-clause-stopped g c = λ tells m keeps.
    let d = g.D.Disk.words in
    let db = c.args.db.now in
    let w = db.width in
    let pending = c.args.pending.now in
    let s = session_of m db pending in
    let made = or_limit (line_step w s (seen_line c.args.line)) in
    let files = d.seen c.view.new.disk in
    let old = d.moments c.args.disk.now in
    let now = d.moments c.view.new.disk in
    let quiet : IsQuiet made c.view.result c.view.new.db c.take-in-View.new.self files = subst (λ (line : Line). IsQuiet (or_limit (line_step w s (seen_line line))) c.view.result c.view.new.db c.take-in-View.new.self files) (sym c.in-View.is) (subst (λ (ps : List Change). IsQuiet (or_limit (view w s (seen_place c.in-View.place))) c.view.result c.view.new.db ps files) (sym c.take-in-View.ensures.none) (subst (λ (cs : List Change). IsQuiet (or_limit (view w (session_of m db cs) (seen_place c.in-View.place))) c.view.result c.view.new.db [] files) c.in-Ok-take.ensures.batch (c.view.ensures.quiet m files (kept_same db m (d.seen c.args.disk.now) files (ap d.seen c.view.ensures.disk) keeps)))) in
    quiet_stopped s made c.view.result c.view.new.db c.take-in-View.new.self files (kept_stands db m files (kept_same db m (d.seen c.args.disk.now) files (ap d.seen c.view.ensures.disk) keeps)) quiet

pub returns-in-Ok-take-clause-kept : goal.returns-in-Ok-take-clause-kept
returns-in-Ok-take-clause-kept g c = λ tells m keeps synced.
    let d = g.D.Disk.words in
    let db = c.args.db.now in
    let w = db.width in
    let pending = c.args.pending.now in
    let s = session_of m db pending in
    let made = or_limit (line_step w s (seen_line c.args.line)) in
    let files = d.seen c.view.new.disk in
    let old = d.moments c.args.disk.now in
    let now = d.moments c.view.new.disk in
    quiet_kept s made c.view.result c.view.new.db c.take-in-View.new.self files old now (ap d.moments c.view.ensures.disk) (kept_leaves db m (d.seen c.args.disk.now) old keeps synced)

pub returns-in-Ok-take-clause-told : goal.returns-in-Ok-take-clause-told
returns-in-Ok-take-clause-told g c = λ tells m keeps synced.
    let d = g.D.Disk.words in
    let db = c.args.db.now in
    let w = db.width in
    let pending = c.args.pending.now in
    let s = session_of m db pending in
    let made = or_limit (line_step w s (seen_line c.args.line)) in
    let files = d.seen c.view.new.disk in
    let old = d.moments c.args.disk.now in
    let now = d.moments c.view.new.disk in
    let quiet : IsQuiet made c.view.result c.view.new.db c.take-in-View.new.self files = subst (λ (line : Line). IsQuiet (or_limit (line_step w s (seen_line line))) c.view.result c.view.new.db c.take-in-View.new.self files) (sym c.in-View.is) (subst (λ (ps : List Change). IsQuiet (or_limit (view w s (seen_place c.in-View.place))) c.view.result c.view.new.db ps files) (sym c.take-in-View.ensures.none) (subst (λ (cs : List Change). IsQuiet (or_limit (view w (session_of m db cs) (seen_place c.in-View.place))) c.view.result c.view.new.db [] files) c.in-Ok-take.ensures.batch (c.view.ensures.quiet m files (kept_same db m (d.seen c.args.disk.now) files (ap d.seen c.view.ensures.disk) keeps)))) in
    quiet_told s made c.view.result c.view.new.db c.take-in-View.new.self files old now (ap d.moments c.view.ensures.disk) (kept_leaves db m (d.seen c.args.disk.now) old keeps synced) quiet

pub returns-in-Ok-take-clause-cause : goal.returns-in-Ok-take-clause-cause
returns-in-Ok-take-clause-cause g c = λ writes writes'. c.view.ensures.cause writes writes' (g.D.Disk.words.faults c.args.disk.now) (g.D.Disk.words.faults c.view.new.disk)

pub returns-in-Take-clause-done : goal.returns-in-Take-clause-done
returns-in-Take-clause-done g c = λ tells m keeps.
    let d = g.D.Disk.words in
    let db = c.args.db.now in
    let w = db.width in
    let pending = c.args.pending.now in
    let s = session_of m db pending in
    let made = or_limit (line_step w s (seen_line c.args.line)) in
    let files = d.seen c.take-in-Take.new.disk in
    let old = d.moments c.args.disk.now in
    let now = d.moments c.take-in-Take.new.disk in
    subst (λ (line : Line). IfOk c.take-in-Take.result (λ t. IsMade (or_limit (line_step w s (seen_line line))) (string_bytes t) c.take-in-Take.new.db pending files)) (sym c.in-Take.is) (c.take-in-Take.ensures.done tells m pending keeps)

pub returns-in-Take-clause-stopped : goal.returns-in-Take-clause-stopped
returns-in-Take-clause-stopped g c = λ tells m keeps.
    let d = g.D.Disk.words in
    let db = c.args.db.now in
    let w = db.width in
    let pending = c.args.pending.now in
    let s = session_of m db pending in
    let made = or_limit (line_step w s (seen_line c.args.line)) in
    let files = d.seen c.take-in-Take.new.disk in
    let old = d.moments c.args.disk.now in
    let now = d.moments c.take-in-Take.new.disk in
    subst (λ (line : Line). IfErr c.take-in-Take.result (λ end. RunsUnprinted s (or_limit (line_step w s (seen_line line))) files (end_of end))) (sym c.in-Take.is) (c.take-in-Take.ensures.stopped tells m pending keeps)

pub returns-in-Take-clause-kept : goal.returns-in-Take-clause-kept
returns-in-Take-clause-kept g c = λ tells m keeps synced.
    let d = g.D.Disk.words in
    let db = c.args.db.now in
    let w = db.width in
    let pending = c.args.pending.now in
    let s = session_of m db pending in
    let made = or_limit (line_step w s (seen_line c.args.line)) in
    let files = d.seen c.take-in-Take.new.disk in
    let old = d.moments c.args.disk.now in
    let now = d.moments c.take-in-Take.new.disk in
    subst (λ (line : Line). OnErr c.take-in-Take.result (KeptUnprinted s (or_limit (line_step w s (seen_line line))) old now)) (sym c.in-Take.is) (c.take-in-Take.ensures.kept tells m pending keeps synced)

pub returns-in-Take-clause-told : goal.returns-in-Take-clause-told
returns-in-Take-clause-told g c = λ tells m keeps synced.
    let d = g.D.Disk.words in
    let db = c.args.db.now in
    let w = db.width in
    let pending = c.args.pending.now in
    let s = session_of m db pending in
    let made = or_limit (line_step w s (seen_line c.args.line)) in
    let files = d.seen c.take-in-Take.new.disk in
    let old = d.moments c.args.disk.now in
    let now = d.moments c.take-in-Take.new.disk in
    subst (λ (line : Line). OnOk c.take-in-Take.result (KeptPrinting s (or_limit (line_step w s (seen_line line))) old now)) (sym c.in-Take.is) (c.take-in-Take.ensures.told tells m pending keeps synced)

pub returns-in-Close-clause-done : goal.returns-in-Close-clause-done
returns-in-Close-clause-done g c = λ tells m keeps.
    let d = g.D.Disk.words in
    let db = c.args.db.now in
    let w = db.width in
    let pending = c.args.pending.now in
    let s = session_of m db pending in
    let made = or_limit (line_step w s (seen_line c.args.line)) in
    let files = d.seen c.args.disk.now in
    let old = d.moments c.args.disk.now in
    let now = d.moments c.args.disk.now in
    let quiet : IsQuiet made c.close.result c.close.new.db pending files = subst (λ (line : Line). IsQuiet (or_limit (line_step w s (seen_line line))) c.close.result c.close.new.db pending files) (sym c.in-Close.is) (c.close.ensures.quiet m pending files keeps) in
    quiet_done s made c.close.result c.close.new.db pending files quiet

pub returns-in-Close-clause-kept : goal.returns-in-Close-clause-kept
returns-in-Close-clause-kept g c = λ tells m keeps synced.
    let d = g.D.Disk.words in
    let db = c.args.db.now in
    let w = db.width in
    let pending = c.args.pending.now in
    let s = session_of m db pending in
    let made = or_limit (line_step w s (seen_line c.args.line)) in
    let files = d.seen c.args.disk.now in
    let old = d.moments c.args.disk.now in
    let now = d.moments c.args.disk.now in
    quiet_kept s made c.close.result c.close.new.db pending files old now refl (kept_leaves db m (d.seen c.args.disk.now) old keeps synced)

pub returns-in-Close-clause-told : goal.returns-in-Close-clause-told
returns-in-Close-clause-told g c = λ tells m keeps synced.
    let d = g.D.Disk.words in
    let db = c.args.db.now in
    let w = db.width in
    let pending = c.args.pending.now in
    let s = session_of m db pending in
    let made = or_limit (line_step w s (seen_line c.args.line)) in
    let files = d.seen c.args.disk.now in
    let old = d.moments c.args.disk.now in
    let now = d.moments c.args.disk.now in
    let quiet : IsQuiet made c.close.result c.close.new.db pending files = subst (λ (line : Line). IsQuiet (or_limit (line_step w s (seen_line line))) c.close.result c.close.new.db pending files) (sym c.in-Close.is) (c.close.ensures.quiet m pending files keeps) in
    quiet_told s made c.close.result c.close.new.db pending files old now refl (kept_leaves db m (d.seen c.args.disk.now) old keeps synced) quiet

pub returns-in-State-clause-done : goal.returns-in-State-clause-done
returns-in-State-clause-done g c = λ tells m keeps.
    let d = g.D.Disk.words in
    let db = c.args.db.now in
    let w = db.width in
    let pending = c.args.pending.now in
    let s = session_of m db pending in
    let made = or_limit (line_step w s (seen_line c.args.line)) in
    let files = d.seen c.args.disk.now in
    let old = d.moments c.args.disk.now in
    let now = d.moments c.args.disk.now in
    let quiet : IsQuiet made c.state.result db pending files = subst (λ (line : Line). IsQuiet (or_limit (line_step w s (seen_line line))) c.state.result db pending files) (sym c.in-State.is) (state_quiet m db pending files keeps c.in-State.number c.state.result c.state.ensures) in
    quiet_done s made c.state.result db pending files quiet

pub returns-in-State-clause-kept : goal.returns-in-State-clause-kept
returns-in-State-clause-kept g c = λ tells m keeps synced.
    let d = g.D.Disk.words in
    let db = c.args.db.now in
    let w = db.width in
    let pending = c.args.pending.now in
    let s = session_of m db pending in
    let made = or_limit (line_step w s (seen_line c.args.line)) in
    let files = d.seen c.args.disk.now in
    let old = d.moments c.args.disk.now in
    let now = d.moments c.args.disk.now in
    quiet_kept s made c.state.result db pending files old now refl (kept_leaves db m (d.seen c.args.disk.now) old keeps synced)

pub returns-in-State-clause-told : goal.returns-in-State-clause-told
returns-in-State-clause-told g c = λ tells m keeps synced.
    let d = g.D.Disk.words in
    let db = c.args.db.now in
    let w = db.width in
    let pending = c.args.pending.now in
    let s = session_of m db pending in
    let made = or_limit (line_step w s (seen_line c.args.line)) in
    let files = d.seen c.args.disk.now in
    let old = d.moments c.args.disk.now in
    let now = d.moments c.args.disk.now in
    let quiet : IsQuiet made c.state.result db pending files = subst (λ (line : Line). IsQuiet (or_limit (line_step w s (seen_line line))) c.state.result db pending files) (sym c.in-State.is) (state_quiet m db pending files keeps c.in-State.number c.state.result c.state.ensures) in
    quiet_told s made c.state.result db pending files old now refl (kept_leaves db m (d.seen c.args.disk.now) old keeps synced) quiet

pub returns-in-Root-clause-done : goal.returns-in-Root-clause-done
returns-in-Root-clause-done g c = λ tells m keeps.
    let d = g.D.Disk.words in
    let db = c.args.db.now in
    let w = db.width in
    let pending = c.args.pending.now in
    let s = session_of m db pending in
    let made = or_limit (line_step w s (seen_line c.args.line)) in
    let files = d.seen c.args.disk.now in
    let old = d.moments c.args.disk.now in
    let now = d.moments c.args.disk.now in
    let quiet : IsQuiet made c.root.result db pending files = subst (λ (line : Line). IsQuiet (or_limit (line_step w s (seen_line line))) c.root.result db pending files) (sym c.in-Root.is) (told_quiet m db pending files keeps (seen_place c.in-Root.place) (λ k. root_text (root w k)) c.root.result (c.root.ensures.text m files keeps)) in
    quiet_done s made c.root.result db pending files quiet

pub returns-in-Root-clause-kept : goal.returns-in-Root-clause-kept
returns-in-Root-clause-kept g c = λ tells m keeps synced.
    let d = g.D.Disk.words in
    let db = c.args.db.now in
    let w = db.width in
    let pending = c.args.pending.now in
    let s = session_of m db pending in
    let made = or_limit (line_step w s (seen_line c.args.line)) in
    let files = d.seen c.args.disk.now in
    let old = d.moments c.args.disk.now in
    let now = d.moments c.args.disk.now in
    quiet_kept s made c.root.result db pending files old now refl (kept_leaves db m (d.seen c.args.disk.now) old keeps synced)

pub returns-in-Root-clause-told : goal.returns-in-Root-clause-told
returns-in-Root-clause-told g c = λ tells m keeps synced.
    let d = g.D.Disk.words in
    let db = c.args.db.now in
    let w = db.width in
    let pending = c.args.pending.now in
    let s = session_of m db pending in
    let made = or_limit (line_step w s (seen_line c.args.line)) in
    let files = d.seen c.args.disk.now in
    let old = d.moments c.args.disk.now in
    let now = d.moments c.args.disk.now in
    let quiet : IsQuiet made c.root.result db pending files = subst (λ (line : Line). IsQuiet (or_limit (line_step w s (seen_line line))) c.root.result db pending files) (sym c.in-Root.is) (told_quiet m db pending files keeps (seen_place c.in-Root.place) (λ k. root_text (root w k)) c.root.result (c.root.ensures.text m files keeps)) in
    quiet_told s made c.root.result db pending files old now refl (kept_leaves db m (d.seen c.args.disk.now) old keeps synced) quiet

pub returns-in-Get-clause-done : goal.returns-in-Get-clause-done
returns-in-Get-clause-done g c = λ tells m keeps.
    let d = g.D.Disk.words in
    let db = c.args.db.now in
    let w = db.width in
    let pending = c.args.pending.now in
    let s = session_of m db pending in
    let made = or_limit (line_step w s (seen_line c.args.line)) in
    let files = d.seen c.get.new.disk in
    let old = d.moments c.args.disk.now in
    let now = d.moments c.get.new.disk in
    let went : Went m made Disk c.get.result c.get.new.db pending files old now = subst (λ (line : Line). Went m (or_limit (line_step w s (seen_line line))) Disk c.get.result c.get.new.db pending files old now) (sym c.in-Get.is)
    (told_got m db pending (d.seen c.args.disk.now) keeps (seen_place c.in-Get.place) (λ k. value_text (map_of.get k c.in-Get.key.items)) c.get.new.db files old now _ c.get.result (subst (λ (key : List ℕ). IfOk c.get.result (λ t. string_bytes t ≡ (told (session_of m db []) (seen_place c.in-Get.place) (λ k. value_text (map_of.get k key))).text)) c.deref.ensures (c.get.ensures.text tells m keeps)) c.get.ensures.end c.get.ensures.stays c.get.ensures.untouched.seen c.get.ensures.untouched.images) in
    went_done s made Disk c.get.result c.get.new.db pending files old now went

pub returns-in-Get-clause-stopped : goal.returns-in-Get-clause-stopped
returns-in-Get-clause-stopped g c = λ tells m keeps.
    let d = g.D.Disk.words in
    let db = c.args.db.now in
    let w = db.width in
    let pending = c.args.pending.now in
    let s = session_of m db pending in
    let made = or_limit (line_step w s (seen_line c.args.line)) in
    let files = d.seen c.get.new.disk in
    let old = d.moments c.args.disk.now in
    let now = d.moments c.get.new.disk in
    let went : Went m made Disk c.get.result c.get.new.db pending files old now = subst (λ (line : Line). Went m (or_limit (line_step w s (seen_line line))) Disk c.get.result c.get.new.db pending files old now) (sym c.in-Get.is)
    (told_got m db pending (d.seen c.args.disk.now) keeps (seen_place c.in-Get.place) (λ k. value_text (map_of.get k c.in-Get.key.items)) c.get.new.db files old now _ c.get.result (subst (λ (key : List ℕ). IfOk c.get.result (λ t. string_bytes t ≡ (told (session_of m db []) (seen_place c.in-Get.place) (λ k. value_text (map_of.get k key))).text)) c.deref.ensures (c.get.ensures.text tells m keeps)) c.get.ensures.end c.get.ensures.stays c.get.ensures.untouched.seen c.get.ensures.untouched.images) in
    went_stopped s made Disk c.get.result c.get.new.db pending files old now went

pub returns-in-Get-clause-kept : goal.returns-in-Get-clause-kept
returns-in-Get-clause-kept g c = λ tells m keeps synced.
    let d = g.D.Disk.words in
    let db = c.args.db.now in
    let w = db.width in
    let pending = c.args.pending.now in
    let s = session_of m db pending in
    let made = or_limit (line_step w s (seen_line c.args.line)) in
    let files = d.seen c.get.new.disk in
    let old = d.moments c.args.disk.now in
    let now = d.moments c.get.new.disk in
    let went : Went m made Disk c.get.result c.get.new.db pending files old now = subst (λ (line : Line). Went m (or_limit (line_step w s (seen_line line))) Disk c.get.result c.get.new.db pending files old now) (sym c.in-Get.is)
    (told_got m db pending (d.seen c.args.disk.now) keeps (seen_place c.in-Get.place) (λ k. value_text (map_of.get k c.in-Get.key.items)) c.get.new.db files old now _ c.get.result (subst (λ (key : List ℕ). IfOk c.get.result (λ t. string_bytes t ≡ (told (session_of m db []) (seen_place c.in-Get.place) (λ k. value_text (map_of.get k key))).text)) c.deref.ensures (c.get.ensures.text (contents_too d.tells tells) m keeps)) c.get.ensures.end c.get.ensures.stays c.get.ensures.untouched.seen c.get.ensures.untouched.images) in
    went_kept s made Disk c.get.result c.get.new.db pending files old now went (kept_leaves db m (d.seen c.args.disk.now) old keeps synced)
    (λ lost taken. subst (λ n. KeepsSteps m (played s made).steps taken taken old n) (sym c.get.ensures.untouched.images) (idle m (played s made).steps taken old (kept_leaves db m (d.seen c.args.disk.now) old keeps synced)))

pub returns-in-Get-clause-told : goal.returns-in-Get-clause-told
returns-in-Get-clause-told g c = λ tells m keeps synced.
    let d = g.D.Disk.words in
    let db = c.args.db.now in
    let w = db.width in
    let pending = c.args.pending.now in
    let s = session_of m db pending in
    let made = or_limit (line_step w s (seen_line c.args.line)) in
    let files = d.seen c.get.new.disk in
    let old = d.moments c.args.disk.now in
    let now = d.moments c.get.new.disk in
    let went : Went m made Disk c.get.result c.get.new.db pending files old now = subst (λ (line : Line). Went m (or_limit (line_step w s (seen_line line))) Disk c.get.result c.get.new.db pending files old now) (sym c.in-Get.is)
    (told_got m db pending (d.seen c.args.disk.now) keeps (seen_place c.in-Get.place) (λ k. value_text (map_of.get k c.in-Get.key.items)) c.get.new.db files old now _ c.get.result (subst (λ (key : List ℕ). IfOk c.get.result (λ t. string_bytes t ≡ (told (session_of m db []) (seen_place c.in-Get.place) (λ k. value_text (map_of.get k key))).text)) c.deref.ensures (c.get.ensures.text (contents_too d.tells tells) m keeps)) c.get.ensures.end c.get.ensures.stays c.get.ensures.untouched.seen c.get.ensures.untouched.images) in
    went_told s made Disk c.get.result c.get.new.db pending files old now went (kept_leaves db m (d.seen c.args.disk.now) old keeps synced)

pub returns-in-Prove-clause-done : goal.returns-in-Prove-clause-done
returns-in-Prove-clause-done g c = λ tells m keeps.
    let d = g.D.Disk.words in
    let db = c.args.db.now in
    let w = db.width in
    let pending = c.args.pending.now in
    let s = session_of m db pending in
    let made = or_limit (line_step w s (seen_line c.args.line)) in
    let files = d.seen c.prove.new.disk in
    let old = d.moments c.args.disk.now in
    let now = d.moments c.prove.new.disk in
    let went : Went m made Disk c.prove.result c.prove.new.db pending files old now = subst (λ (line : Line). Went m (or_limit (line_step w s (seen_line line))) Disk c.prove.result c.prove.new.db pending files old now) (sym c.in-Prove.is)
    (proof_got m db pending (d.seen c.args.disk.now) keeps (proved w (held_maps db m) (seen_root c.in-Prove.root) c.in-Prove.key.items) c.prove.new.db files old now _ c.prove.result (subst (λ (key : List ℕ). IfOk c.prove.result (λ t. string_bytes t ≡ (told_proof (proved w (held_maps db m) (seen_root c.in-Prove.root) key)).text)) c.deref-in-Prove.ensures (c.prove.ensures.text tells m keeps)) c.prove.ensures.end c.prove.ensures.stays c.prove.ensures.untouched.seen c.prove.ensures.untouched.images) in
    went_done s made Disk c.prove.result c.prove.new.db pending files old now went

pub returns-in-Prove-clause-stopped : goal.returns-in-Prove-clause-stopped
returns-in-Prove-clause-stopped g c = λ tells m keeps.
    let d = g.D.Disk.words in
    let db = c.args.db.now in
    let w = db.width in
    let pending = c.args.pending.now in
    let s = session_of m db pending in
    let made = or_limit (line_step w s (seen_line c.args.line)) in
    let files = d.seen c.prove.new.disk in
    let old = d.moments c.args.disk.now in
    let now = d.moments c.prove.new.disk in
    let went : Went m made Disk c.prove.result c.prove.new.db pending files old now = subst (λ (line : Line). Went m (or_limit (line_step w s (seen_line line))) Disk c.prove.result c.prove.new.db pending files old now) (sym c.in-Prove.is)
    (proof_got m db pending (d.seen c.args.disk.now) keeps (proved w (held_maps db m) (seen_root c.in-Prove.root) c.in-Prove.key.items) c.prove.new.db files old now _ c.prove.result (subst (λ (key : List ℕ). IfOk c.prove.result (λ t. string_bytes t ≡ (told_proof (proved w (held_maps db m) (seen_root c.in-Prove.root) key)).text)) c.deref-in-Prove.ensures (c.prove.ensures.text tells m keeps)) c.prove.ensures.end c.prove.ensures.stays c.prove.ensures.untouched.seen c.prove.ensures.untouched.images) in
    went_stopped s made Disk c.prove.result c.prove.new.db pending files old now went

pub returns-in-Prove-clause-kept : goal.returns-in-Prove-clause-kept
returns-in-Prove-clause-kept g c = λ tells m keeps synced.
    let d = g.D.Disk.words in
    let db = c.args.db.now in
    let w = db.width in
    let pending = c.args.pending.now in
    let s = session_of m db pending in
    let made = or_limit (line_step w s (seen_line c.args.line)) in
    let files = d.seen c.prove.new.disk in
    let old = d.moments c.args.disk.now in
    let now = d.moments c.prove.new.disk in
    let went : Went m made Disk c.prove.result c.prove.new.db pending files old now = subst (λ (line : Line). Went m (or_limit (line_step w s (seen_line line))) Disk c.prove.result c.prove.new.db pending files old now) (sym c.in-Prove.is)
    (proof_got m db pending (d.seen c.args.disk.now) keeps (proved w (held_maps db m) (seen_root c.in-Prove.root) c.in-Prove.key.items) c.prove.new.db files old now _ c.prove.result (subst (λ (key : List ℕ). IfOk c.prove.result (λ t. string_bytes t ≡ (told_proof (proved w (held_maps db m) (seen_root c.in-Prove.root) key)).text)) c.deref-in-Prove.ensures (c.prove.ensures.text (contents_too d.tells tells) m keeps)) c.prove.ensures.end c.prove.ensures.stays c.prove.ensures.untouched.seen c.prove.ensures.untouched.images) in
    went_kept s made Disk c.prove.result c.prove.new.db pending files old now went (kept_leaves db m (d.seen c.args.disk.now) old keeps synced)
    (λ lost taken. subst (λ n. KeepsSteps m (played s made).steps taken taken old n) (sym c.prove.ensures.untouched.images) (idle m (played s made).steps taken old (kept_leaves db m (d.seen c.args.disk.now) old keeps synced)))

pub returns-in-Prove-clause-told : goal.returns-in-Prove-clause-told
returns-in-Prove-clause-told g c = λ tells m keeps synced.
    let d = g.D.Disk.words in
    let db = c.args.db.now in
    let w = db.width in
    let pending = c.args.pending.now in
    let s = session_of m db pending in
    let made = or_limit (line_step w s (seen_line c.args.line)) in
    let files = d.seen c.prove.new.disk in
    let old = d.moments c.args.disk.now in
    let now = d.moments c.prove.new.disk in
    let went : Went m made Disk c.prove.result c.prove.new.db pending files old now = subst (λ (line : Line). Went m (or_limit (line_step w s (seen_line line))) Disk c.prove.result c.prove.new.db pending files old now) (sym c.in-Prove.is)
    (proof_got m db pending (d.seen c.args.disk.now) keeps (proved w (held_maps db m) (seen_root c.in-Prove.root) c.in-Prove.key.items) c.prove.new.db files old now _ c.prove.result (subst (λ (key : List ℕ). IfOk c.prove.result (λ t. string_bytes t ≡ (told_proof (proved w (held_maps db m) (seen_root c.in-Prove.root) key)).text)) c.deref-in-Prove.ensures (c.prove.ensures.text (contents_too d.tells tells) m keeps)) c.prove.ensures.end c.prove.ensures.stays c.prove.ensures.untouched.seen c.prove.ensures.untouched.images) in
    went_told s made Disk c.prove.result c.prove.new.db pending files old now went (kept_leaves db m (d.seen c.args.disk.now) old keeps synced)

pub returns-in-RangeOf-clause-done : goal.returns-in-RangeOf-clause-done
returns-in-RangeOf-clause-done g c = λ tells m keeps.
    let d = g.D.Disk.words in
    let db = c.args.db.now in
    let w = db.width in
    let pending = c.args.pending.now in
    let s = session_of m db pending in
    let made = or_limit (line_step w s (seen_line c.args.line)) in
    let files = d.seen c.range.new.disk in
    let old = d.moments c.args.disk.now in
    let now = d.moments c.range.new.disk in
    let went : Went m made Disk c.range.result c.range.new.db pending files old now = subst (λ (line : Line). Went m (or_limit (line_step w s (seen_line line))) Disk c.range.result c.range.new.db pending files old now) (sym c.in-RangeOf.is)
    (range_got m db pending (d.seen c.args.disk.now) keeps (range_proved w (held_maps db m) (seen_root c.in-RangeOf.root) c.in-RangeOf.asked c.in-RangeOf.pairs c.in-RangeOf.bytes) c.range.new.db files old now _ c.range.result (c.range.ensures.text tells m keeps) c.range.ensures.end c.range.ensures.stays c.range.ensures.untouched.seen c.range.ensures.untouched.images) in
    went_done s made Disk c.range.result c.range.new.db pending files old now went

pub returns-in-RangeOf-clause-stopped : goal.returns-in-RangeOf-clause-stopped
returns-in-RangeOf-clause-stopped g c = λ tells m keeps.
    let d = g.D.Disk.words in
    let db = c.args.db.now in
    let w = db.width in
    let pending = c.args.pending.now in
    let s = session_of m db pending in
    let made = or_limit (line_step w s (seen_line c.args.line)) in
    let files = d.seen c.range.new.disk in
    let old = d.moments c.args.disk.now in
    let now = d.moments c.range.new.disk in
    let went : Went m made Disk c.range.result c.range.new.db pending files old now = subst (λ (line : Line). Went m (or_limit (line_step w s (seen_line line))) Disk c.range.result c.range.new.db pending files old now) (sym c.in-RangeOf.is)
    (range_got m db pending (d.seen c.args.disk.now) keeps (range_proved w (held_maps db m) (seen_root c.in-RangeOf.root) c.in-RangeOf.asked c.in-RangeOf.pairs c.in-RangeOf.bytes) c.range.new.db files old now _ c.range.result (c.range.ensures.text tells m keeps) c.range.ensures.end c.range.ensures.stays c.range.ensures.untouched.seen c.range.ensures.untouched.images) in
    went_stopped s made Disk c.range.result c.range.new.db pending files old now went

pub returns-in-RangeOf-clause-kept : goal.returns-in-RangeOf-clause-kept
returns-in-RangeOf-clause-kept g c = λ tells m keeps synced.
    let d = g.D.Disk.words in
    let db = c.args.db.now in
    let w = db.width in
    let pending = c.args.pending.now in
    let s = session_of m db pending in
    let made = or_limit (line_step w s (seen_line c.args.line)) in
    let files = d.seen c.range.new.disk in
    let old = d.moments c.args.disk.now in
    let now = d.moments c.range.new.disk in
    let went : Went m made Disk c.range.result c.range.new.db pending files old now = subst (λ (line : Line). Went m (or_limit (line_step w s (seen_line line))) Disk c.range.result c.range.new.db pending files old now) (sym c.in-RangeOf.is)
    (range_got m db pending (d.seen c.args.disk.now) keeps (range_proved w (held_maps db m) (seen_root c.in-RangeOf.root) c.in-RangeOf.asked c.in-RangeOf.pairs c.in-RangeOf.bytes) c.range.new.db files old now _ c.range.result (c.range.ensures.text (contents_too d.tells tells) m keeps) c.range.ensures.end c.range.ensures.stays c.range.ensures.untouched.seen c.range.ensures.untouched.images) in
    went_kept s made Disk c.range.result c.range.new.db pending files old now went (kept_leaves db m (d.seen c.args.disk.now) old keeps synced)
    (λ lost taken. subst (λ n. KeepsSteps m (played s made).steps taken taken old n) (sym c.range.ensures.untouched.images) (idle m (played s made).steps taken old (kept_leaves db m (d.seen c.args.disk.now) old keeps synced)))

pub returns-in-RangeOf-clause-told : goal.returns-in-RangeOf-clause-told
returns-in-RangeOf-clause-told g c = λ tells m keeps synced.
    let d = g.D.Disk.words in
    let db = c.args.db.now in
    let w = db.width in
    let pending = c.args.pending.now in
    let s = session_of m db pending in
    let made = or_limit (line_step w s (seen_line c.args.line)) in
    let files = d.seen c.range.new.disk in
    let old = d.moments c.args.disk.now in
    let now = d.moments c.range.new.disk in
    let went : Went m made Disk c.range.result c.range.new.db pending files old now = subst (λ (line : Line). Went m (or_limit (line_step w s (seen_line line))) Disk c.range.result c.range.new.db pending files old now) (sym c.in-RangeOf.is)
    (range_got m db pending (d.seen c.args.disk.now) keeps (range_proved w (held_maps db m) (seen_root c.in-RangeOf.root) c.in-RangeOf.asked c.in-RangeOf.pairs c.in-RangeOf.bytes) c.range.new.db files old now _ c.range.result (c.range.ensures.text (contents_too d.tells tells) m keeps) c.range.ensures.end c.range.ensures.stays c.range.ensures.untouched.seen c.range.ensures.untouched.images) in
    went_told s made Disk c.range.result c.range.new.db pending files old now went (kept_leaves db m (d.seen c.args.disk.now) old keeps synced)

pub returns-in-ChangesOf-clause-done : goal.returns-in-ChangesOf-clause-done
returns-in-ChangesOf-clause-done g c = λ tells m keeps.
    let d = g.D.Disk.words in
    let db = c.args.db.now in
    let w = db.width in
    let pending = c.args.pending.now in
    let s = session_of m db pending in
    let made = or_limit (line_step w s (seen_line c.args.line)) in
    let files = d.seen c.changes.new.disk in
    let old = d.moments c.args.disk.now in
    let now = d.moments c.changes.new.disk in
    let went : Went m made Disk c.changes.result c.changes.new.db pending files old now = subst (λ (line : Line). Went m (or_limit (line_step w s (seen_line line))) Disk c.changes.result c.changes.new.db pending files old now) (sym c.in-ChangesOf.is)
    (changes_got m db pending (d.seen c.args.disk.now) keeps (changes_proved w (held_maps db m) (seen_root c.in-ChangesOf.from) (seen_root c.in-ChangesOf.to) c.in-ChangesOf.asked c.in-ChangesOf.pairs c.in-ChangesOf.bytes) c.changes.new.db files old now _ c.changes.result (c.changes.ensures.text tells m keeps) c.changes.ensures.end c.changes.ensures.stays c.changes.ensures.untouched.seen c.changes.ensures.untouched.images) in
    went_done s made Disk c.changes.result c.changes.new.db pending files old now went

pub returns-in-ChangesOf-clause-stopped : goal.returns-in-ChangesOf-clause-stopped
returns-in-ChangesOf-clause-stopped g c = λ tells m keeps.
    let d = g.D.Disk.words in
    let db = c.args.db.now in
    let w = db.width in
    let pending = c.args.pending.now in
    let s = session_of m db pending in
    let made = or_limit (line_step w s (seen_line c.args.line)) in
    let files = d.seen c.changes.new.disk in
    let old = d.moments c.args.disk.now in
    let now = d.moments c.changes.new.disk in
    let went : Went m made Disk c.changes.result c.changes.new.db pending files old now = subst (λ (line : Line). Went m (or_limit (line_step w s (seen_line line))) Disk c.changes.result c.changes.new.db pending files old now) (sym c.in-ChangesOf.is)
    (changes_got m db pending (d.seen c.args.disk.now) keeps (changes_proved w (held_maps db m) (seen_root c.in-ChangesOf.from) (seen_root c.in-ChangesOf.to) c.in-ChangesOf.asked c.in-ChangesOf.pairs c.in-ChangesOf.bytes) c.changes.new.db files old now _ c.changes.result (c.changes.ensures.text tells m keeps) c.changes.ensures.end c.changes.ensures.stays c.changes.ensures.untouched.seen c.changes.ensures.untouched.images) in
    went_stopped s made Disk c.changes.result c.changes.new.db pending files old now went

pub returns-in-ChangesOf-clause-kept : goal.returns-in-ChangesOf-clause-kept
returns-in-ChangesOf-clause-kept g c = λ tells m keeps synced.
    let d = g.D.Disk.words in
    let db = c.args.db.now in
    let w = db.width in
    let pending = c.args.pending.now in
    let s = session_of m db pending in
    let made = or_limit (line_step w s (seen_line c.args.line)) in
    let files = d.seen c.changes.new.disk in
    let old = d.moments c.args.disk.now in
    let now = d.moments c.changes.new.disk in
    let went : Went m made Disk c.changes.result c.changes.new.db pending files old now = subst (λ (line : Line). Went m (or_limit (line_step w s (seen_line line))) Disk c.changes.result c.changes.new.db pending files old now) (sym c.in-ChangesOf.is)
    (changes_got m db pending (d.seen c.args.disk.now) keeps (changes_proved w (held_maps db m) (seen_root c.in-ChangesOf.from) (seen_root c.in-ChangesOf.to) c.in-ChangesOf.asked c.in-ChangesOf.pairs c.in-ChangesOf.bytes) c.changes.new.db files old now _ c.changes.result (c.changes.ensures.text (contents_too d.tells tells) m keeps) c.changes.ensures.end c.changes.ensures.stays c.changes.ensures.untouched.seen c.changes.ensures.untouched.images) in
    went_kept s made Disk c.changes.result c.changes.new.db pending files old now went (kept_leaves db m (d.seen c.args.disk.now) old keeps synced)
    (λ lost taken. subst (λ n. KeepsSteps m (played s made).steps taken taken old n) (sym c.changes.ensures.untouched.images) (idle m (played s made).steps taken old (kept_leaves db m (d.seen c.args.disk.now) old keeps synced)))

pub returns-in-ChangesOf-clause-told : goal.returns-in-ChangesOf-clause-told
returns-in-ChangesOf-clause-told g c = λ tells m keeps synced.
    let d = g.D.Disk.words in
    let db = c.args.db.now in
    let w = db.width in
    let pending = c.args.pending.now in
    let s = session_of m db pending in
    let made = or_limit (line_step w s (seen_line c.args.line)) in
    let files = d.seen c.changes.new.disk in
    let old = d.moments c.args.disk.now in
    let now = d.moments c.changes.new.disk in
    let went : Went m made Disk c.changes.result c.changes.new.db pending files old now = subst (λ (line : Line). Went m (or_limit (line_step w s (seen_line line))) Disk c.changes.result c.changes.new.db pending files old now) (sym c.in-ChangesOf.is)
    (changes_got m db pending (d.seen c.args.disk.now) keeps (changes_proved w (held_maps db m) (seen_root c.in-ChangesOf.from) (seen_root c.in-ChangesOf.to) c.in-ChangesOf.asked c.in-ChangesOf.pairs c.in-ChangesOf.bytes) c.changes.new.db files old now _ c.changes.result (c.changes.ensures.text (contents_too d.tells tells) m keeps) c.changes.ensures.end c.changes.ensures.stays c.changes.ensures.untouched.seen c.changes.ensures.untouched.images) in
    went_told s made Disk c.changes.result c.changes.new.db pending files old now went (kept_leaves db m (d.seen c.args.disk.now) old keeps synced)

pub returns-in-Point-clause-done : goal.returns-in-Point-clause-done
returns-in-Point-clause-done g c = λ tells m keeps.
    let d = g.D.Disk.words in
    let db = c.args.db.now in
    let w = db.width in
    let pending = c.args.pending.now in
    let s = session_of m db pending in
    let made = or_limit (line_step w s (seen_line c.args.line)) in
    let files = d.seen c.args.disk.now in
    let old = d.moments c.args.disk.now in
    let now = d.moments c.args.disk.now in
    let quiet : IsQuiet made (Ok c.new-in-Point.result) db pending files = subst (λ (line : Line). IsQuiet (or_limit (line_step w s (seen_line line))) (Ok c.new-in-Point.result) db pending files) (sym c.in-Point.is) (skip_quiet m db pending files (Ok c.new-in-Point.result) keeps c.new-in-Point.ensures.bytes) in
    quiet_done s made (Ok c.new-in-Point.result) db pending files quiet

pub returns-in-Point-clause-told : goal.returns-in-Point-clause-told
returns-in-Point-clause-told g c = λ tells m keeps synced.
    let d = g.D.Disk.words in
    let db = c.args.db.now in
    let w = db.width in
    let pending = c.args.pending.now in
    let s = session_of m db pending in
    let made = or_limit (line_step w s (seen_line c.args.line)) in
    let files = d.seen c.args.disk.now in
    let old = d.moments c.args.disk.now in
    let now = d.moments c.args.disk.now in
    let quiet : IsQuiet made (Ok c.new-in-Point.result) db pending files = subst (λ (line : Line). IsQuiet (or_limit (line_step w s (seen_line line))) (Ok c.new-in-Point.result) db pending files) (sym c.in-Point.is) (skip_quiet m db pending files (Ok c.new-in-Point.result) keeps c.new-in-Point.ensures.bytes) in
    quiet_told s made (Ok c.new-in-Point.result) db pending files old now refl (kept_leaves db m (d.seen c.args.disk.now) old keeps synced) quiet

pub returns-in-VerifyRange-clause-done : goal.returns-in-VerifyRange-clause-done
returns-in-VerifyRange-clause-done g c = λ tells m keeps.
    let d = g.D.Disk.words in
    let db = c.args.db.now in
    let w = db.width in
    let pending = c.args.pending.now in
    let s = session_of m db pending in
    let made = or_limit (line_step w s (seen_line c.args.line)) in
    let files = d.seen c.args.disk.now in
    let old = d.moments c.args.disk.now in
    let now = d.moments c.args.disk.now in
    let quiet : IsQuiet made (Ok c.new-in-VerifyRange.result) db pending files = subst (λ (line : Line). IsQuiet (or_limit (line_step w s (seen_line line))) (Ok c.new-in-VerifyRange.result) db pending files) (sym c.in-VerifyRange.is) (skip_quiet m db pending files (Ok c.new-in-VerifyRange.result) keeps c.new-in-VerifyRange.ensures.bytes) in
    quiet_done s made (Ok c.new-in-VerifyRange.result) db pending files quiet

pub returns-in-VerifyRange-clause-told : goal.returns-in-VerifyRange-clause-told
returns-in-VerifyRange-clause-told g c = λ tells m keeps synced.
    let d = g.D.Disk.words in
    let db = c.args.db.now in
    let w = db.width in
    let pending = c.args.pending.now in
    let s = session_of m db pending in
    let made = or_limit (line_step w s (seen_line c.args.line)) in
    let files = d.seen c.args.disk.now in
    let old = d.moments c.args.disk.now in
    let now = d.moments c.args.disk.now in
    let quiet : IsQuiet made (Ok c.new-in-VerifyRange.result) db pending files = subst (λ (line : Line). IsQuiet (or_limit (line_step w s (seen_line line))) (Ok c.new-in-VerifyRange.result) db pending files) (sym c.in-VerifyRange.is) (skip_quiet m db pending files (Ok c.new-in-VerifyRange.result) keeps c.new-in-VerifyRange.ensures.bytes) in
    quiet_told s made (Ok c.new-in-VerifyRange.result) db pending files old now refl (kept_leaves db m (d.seen c.args.disk.now) old keeps synced) quiet

pub returns-clause-done : goal.returns-clause-done
returns-clause-done g c = λ tells m keeps.
    let d = g.D.Disk.words in
    let db = c.args.db.now in
    let w = db.width in
    let pending = c.args.pending.now in
    let s = session_of m db pending in
    let made = or_limit (line_step w s (seen_line c.args.line)) in
    let files = d.seen c.args.disk.now in
    let old = d.moments c.args.disk.now in
    let now = d.moments c.args.disk.now in
    let quiet : IsQuiet made (Ok c.new-in-VerifyChanges.result) db pending files = subst (λ (line : Line). IsQuiet (or_limit (line_step w s (seen_line line))) (Ok c.new-in-VerifyChanges.result) db pending files) (sym c.in-VerifyChanges.is) (skip_quiet m db pending files (Ok c.new-in-VerifyChanges.result) keeps c.new-in-VerifyChanges.ensures.bytes) in
    quiet_done s made (Ok c.new-in-VerifyChanges.result) db pending files quiet

pub returns-clause-told : goal.returns-clause-told
returns-clause-told g c = λ tells m keeps synced.
    let d = g.D.Disk.words in
    let db = c.args.db.now in
    let w = db.width in
    let pending = c.args.pending.now in
    let s = session_of m db pending in
    let made = or_limit (line_step w s (seen_line c.args.line)) in
    let files = d.seen c.args.disk.now in
    let old = d.moments c.args.disk.now in
    let now = d.moments c.args.disk.now in
    let quiet : IsQuiet made (Ok c.new-in-VerifyChanges.result) db pending files = subst (λ (line : Line). IsQuiet (or_limit (line_step w s (seen_line line))) (Ok c.new-in-VerifyChanges.result) db pending files) (sym c.in-VerifyChanges.is) (skip_quiet m db pending files (Ok c.new-in-VerifyChanges.result) keeps c.new-in-VerifyChanges.ensures.bytes) in
    quiet_told s made (Ok c.new-in-VerifyChanges.result) db pending files old now refl (kept_leaves db m (d.seen c.args.disk.now) old keeps synced) quiet
