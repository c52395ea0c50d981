use Rattle.std.proofs.Common.{[], ◌∷◌, ◌++◌, sym, subst}
use Rattle.disk_model.specs.Moments.{Meanwhile}
use Rattle.disk_model.proofs.Meanwhile.{weaker}
use Rattle.disk_model.proofs.Telling.{contents_too}
use Rattle.mdb_journal.proofs.OpenedFiles.{all_synced, synced_leave, known_hold}
use Rattle.mdb_journal.specs.Journal.{Knows, record_in}
use Rattle.mdb_journal.specs.DiskMoves.{HoldEither}
use Rattle.mdb_journal.proofs.AppendCrashes.{holds_either, known}
use Rattle.mdb_journal.proofs.journal.Journal.append.Goals as goal

pub returns-in_default-clause-meanwhile : goal.returns-in_default-clause-meanwhile
returns-in_default-clause-meanwhile g c = λ told rs fits knows synced.
    let w = g.D.Disk.words in
    let old = c.args.disk.now in
    let r = record_in c.args.kind c.args.room.now in
    let k = subst (λ j. Knows j rs (w.seen old)) (sym c.self.view_is) knows in
    subst (λ j. Meanwhile (HoldEither (w.moments old) j.file rs (rs ++ r ∷ [])) (w.moments old) (w.moments c.write_record.new.disk)) c.self.view_is
    (weaker (c.write_record.ensures.meanwhile told k.header rs r c.fill.ensures k.place fits k.journal (synced _ c.self.invariant.0)) (holds_either (w.moments old) (w.seen old) _ rs r k synced))

pub returns-clause-meanwhile : goal.returns-clause-meanwhile
returns-clause-meanwhile g c = λ told rs fits knows synced.
    let w = g.D.Disk.words in
    let old = c.args.disk.now in
    let r = record_in c.args.kind c.args.room.now in
    let k = subst (λ j. Knows j rs (w.seen old)) (sym c.self.view_is) knows in
    subst (λ j. Meanwhile (HoldEither (w.moments old) j.file rs (rs ++ r ∷ [])) (w.moments old) (w.moments c.write_record.new.disk)) c.self.view_is
    (weaker (c.write_record.ensures.meanwhile told k.header rs r c.fill.ensures k.place fits k.journal (synced _ c.self.invariant.0)) (holds_either (w.moments old) (w.seen old) _ rs r k synced))

pub returns-clause-contents : goal.returns-clause-contents
returns-clause-contents g c = λ told rs fits knows.
    let w = g.D.Disk.words in
    let k = subst (λ j. Knows j rs (w.seen c.args.disk.now)) (sym c.self.view_is) knows in
    let contents = c.in-Ok.ensures.contents told in
    known _ rs (record_in c.args.kind c.args.room.now) (w.seen c.args.disk.now) (w.seen c.write_record.new.disk) c.fill.new.room k fits contents.others contents.here c.fill.ensures

pub returns-clause-left : goal.returns-clause-left
returns-clause-left g c = λ told rs fits knows synced.
    let w = g.D.Disk.words in
    let told' = contents_too w.tells told in
    let after = rs ++ record_in c.args.kind c.args.room.now ∷ [] in
    let file = c.self.inside.file in
    let now = all_synced file (w.seen c.args.disk.now) (w.seen c.write_record.new.disk) (w.moments c.args.disk.now) (w.moments c.write_record.new.disk) synced (c.in-Ok.ensures.contents told').others (c.write_record.ensures.others told) (c.in-Ok.ensures.synced told) in
    synced_leave (w.seen c.write_record.new.disk) (w.moments c.write_record.new.disk) after now (known_hold _ after (w.seen c.write_record.new.disk) (returns-clause-contents g c told' rs fits knows))
