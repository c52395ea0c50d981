use Rattle.std.proofs.Common.{ap, ◌∙◌, arith}
use Rattle.disk_model.proofs.Meanwhile.{joined}
use Rattle.disk_model.proofs.Telling.{contents_too}
use Rattle.store_model.specs.Header.{header_of}
use Rattle.mdb_journal.specs.FirstHeader.{BothClosed}
use Rattle.mdb_journal.proofs.FirstHeaders.{shut_closed}
use Rattle.mdb_journal.proofs.first_header.make_header.Goals as goal

pub returns-clause-meanwhile : goal.returns-clause-meanwhile
returns-clause-meanwhile g c = λ told closed synced.
    let w = g.D.Disk.words in
    let told' = contents_too w.tells told in
    let shut = c.in_ok-close_gate.ensures.contents told' closed in
    let other = c.in_ok-close_gate.ensures.read_others told' 1 (λ e. absurd (omega (arith, e))) in
    let still : BothClosed (w.seen c.close_gate.new.disk) = record { first = shut_closed _ shut; second = ap (header_of 1) other ∙ closed.second } in
    joined (c.close_gate.ensures.meanwhile told closed synced) (c.write_header.ensures.meanwhile told still shut (c.in_ok-close_gate.ensures.synced told synced))
