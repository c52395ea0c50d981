use Rattle.std.proofs.Common.{◌<◌, ◌≤◌, length, subst, sym, ap, ◌∙◌, arith}
use Rattle.disk_model.specs.Files.{Files, first_touched}
use Rattle.disk_model.specs.Moments.{Moments, Meanwhile}
use Rattle.disk_model.proofs.Meanwhile.{weaker}
use Rattle.disk_model.proofs.Telling.{contents_too}
use Rattle.store_model.specs.Header.{first_gate}
use Rattle.mdb_journal.specs.DiskMoves.{TornAlone}
use Rattle.mdb_journal.specs.FirstHeader.{IsShut}
use Rattle.mdb_journal.proofs.FirstHeaders.{while_closing, long_shut}
use Rattle.mdb_journal.proofs.first_header.close_gate.Goals as goal

pub returns-then-branch-le-FIRST_GATE-clause-meanwhile : goal.returns-then-branch-le-FIRST_GATE-clause-meanwhile
returns-then-branch-le-FIRST_GATE-clause-meanwhile g c = λ told closed synced.
    let w = g.D.Disk.words in
    let old = c.args.disk.now in
    let s = w.seen old 0 in
    let run = c.write_synced.ensures.meanwhile told s (record { is = ap (λ (f : Files). f 0) c.len.ensures.seen; synced = ap (λ (m : Moments). m.now 0) c.len.ensures.images ∙ synced 0 (omega arith) }) in
    let short : length s ≤ first_gate = omega (arith, c.in_ok-len.ensures.contents (contents_too w.tells told), c.if-branch-le-FIRST_GATE.true) in
    weaker (subst (λ (m : Moments). Meanwhile (TornAlone m 0 (first_touched s 0) 1 s) m (w.moments c.write_synced.new.disk)) c.len.ensures.images run) (λ image. while_closing (w.moments old) (w.seen old) image closed synced short)

pub returns-clause-contents : goal.returns-clause-contents
returns-clause-contents g c = λ told closed.
    let w = g.D.Disk.words in
    let long : first_gate < length (w.seen c.args.disk.now 0) = omega (arith, c.in_ok-len.ensures.contents told, c.if-branch-le-FIRST_GATE.false) in
    subst (λ (s : Files). IsShut (s 0)) (sym c.len.ensures.seen) (long_shut (w.seen c.args.disk.now 0) closed.first long)
