use Rattle.std.proofs.Common.{refl, sym, ap, ◌∙◌, arith}
use Rattle.disk_model.specs.Crash.{at_rest}
use Rattle.disk_model.proofs.Meanwhile.{joined, weaker}
use Rattle.disk_model.proofs.Telling.{contents_too}
use Rattle.store_model.specs.Header.{header_of}
use Rattle.mdb_journal.proofs.WriteAndSync.{where_ok}
use Rattle.mdb_journal.proofs.FirstHeaders.{while_heading, headed, while_opening, opened_is}
use Rattle.mdb_journal.proofs.first_header.write_header.Goals as goal

pub returns-in_err-write_synced-clause-meanwhile : goal.returns-in_err-write_synced-clause-meanwhile
returns-in_err-write_synced-clause-meanwhile g c = λ told closed shut synced.
    let w = g.D.Disk.words in
    let old = c.args.disk.now in
    weaker (c.write_synced.ensures.meanwhile told (w.seen old 0) (record { is = refl; synced = synced 0 (omega arith) })) (λ image. while_heading (w.moments old) (w.seen old) image _ closed synced shut)

pub returns-clause-contents : goal.returns-clause-contents
returns-clause-contents g c = λ told shut.
    let w = g.D.Disk.words in
    let h = headed (w.seen c.args.disk.now 0) (w.seen c.write_synced.new.disk 0) c.header_bytes.result c.args.width shut (c.in_ok-write_synced.ensures.contents told).here c.header_bytes.ensures in
    where_ok c.write_synced-2.result (opened_is (w.seen c.write_synced.new.disk 0) (w.seen c.write_synced-2.new.disk 0) h.0 shut.gate c.args.width c.requires h.1) (c.write_synced-2.ensures.contents told).here

pub returns-clause-meanwhile : goal.returns-clause-meanwhile
returns-clause-meanwhile g c = λ told closed shut synced.
    let w = g.D.Disk.words in
    let old = c.args.disk.now in
    let mid = c.write_synced.new.disk in
    let contents = c.in_ok-write_synced.ensures.contents (contents_too w.tells told) in
    let h = headed (w.seen old 0) (w.seen mid 0) c.header_bytes.result c.args.width shut contents.here c.header_bytes.ensures in
    let other = contents.others 1 (λ e. absurd (omega (arith, e))) in
    let left = c.write_synced.ensures.others told 1 (λ e. absurd (omega (arith, e))) ∙ synced 1 (omega arith) ∙ ap at_rest (sym other) in
    joined
    (weaker (c.write_synced.ensures.meanwhile told (w.seen old 0) (record { is = refl; synced = synced 0 (omega arith) })) (λ image. while_heading (w.moments old) (w.seen old) image _ closed synced shut))
    (weaker (c.write_synced-2.ensures.meanwhile told (w.seen mid 0) (record { is = refl; synced = c.in_ok-write_synced.ensures.synced told })) (λ image. while_opening (w.moments mid) (w.seen mid) image shut.gate c.args.width h.0 c.requires (ap (header_of 1) other ∙ closed.second) left h.1))
