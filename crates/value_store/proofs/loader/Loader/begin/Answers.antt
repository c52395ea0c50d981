use Rattle.std.proofs.Common.{◌≡◌, ◌≤◌, ◌+◌, min, length, sym, ap, ◌∙◌, subst, arith}
use Rattle.mdb_base.specs.ReadNumbers.{seen}
use Rattle.base_model.specs.ReadUvarint.{uvarint_at}
use Rattle.value_store.specs.PayloadPieces.{PieceState, IsPieceOf}
use Rattle.value_store.specs.BatchReading.{Counted, payload_at}
use Rattle.value_store.proofs.ReadBatches.{at_start, counted, uncounted}
use Rattle.value_store.proofs.loader.Loader.begin.Goals as goal

pub returns-in_default-read_uvarint-clause-outside : goal.returns-in_default-read_uvarint-clause-outside
returns-in_default-read_uvarint-clause-outside g c = λ told inside e.
    let file = g.D.Disk.words.seen c.args.disk.now c.args.journal.now.file in
    let q = c.fill.new.self in
    let was = c.begin.ensures in
    let room : c.args.place + c.args.count ≤ length file = omega (arith, c.requires.end, inside) in
    let place : q.place ≡ c.args.place = c.in-Ok.ensures.stays.0 ∙ ap (λ (p : PieceState). p.place) was in
    let left : q.left ≡ c.args.count = c.in-Ok.ensures.stays.1 ∙ ap (λ (p : PieceState). p.left) was in
    let piece : IsPieceOf file q = c.in-Ok.ensures.piece told (subst (λ (p : PieceState). IsPieceOf file p) (sym was) (at_start file c.args.place c.args.count room).piece) in
    let fits : length q.piece ≤ q.left = omega (arith, c.piece.ensures.fits, ap length c.piece.ensures.all) in
    let enough : min 300 q.left ≤ length q.piece = omega (arith, c.in-Ok.ensures.enough, c.in-Ok.ensures.stays.1) in
    uncounted file c.args.place c.args.count room q place left piece fits enough _ (ap (λ w. uvarint_at w 0) (sym c.piece.ensures.all) ∙ sym c.in_default-read_uvarint.ensures.exact)

pub returns-clause-counted : goal.returns-clause-counted
returns-clause-counted g c = λ told inside.
    let file = g.D.Disk.words.seen c.args.disk.now c.args.journal.now.file in
    let q = c.fill.new.self in
    let was = c.begin.ensures in
    let room : c.args.place + c.args.count ≤ length file = omega (arith, c.requires.end, inside) in
    let place : q.place ≡ c.args.place = c.in-Ok.ensures.stays.0 ∙ ap (λ (p : PieceState). p.place) was in
    let left : q.left ≡ c.args.count = c.in-Ok.ensures.stays.1 ∙ ap (λ (p : PieceState). p.left) was in
    let piece : IsPieceOf file q = c.in-Ok.ensures.piece told (subst (λ (p : PieceState). IsPieceOf file p) (sym was) (at_start file c.args.place c.args.count room).piece) in
    let fits : length q.piece ≤ q.left = omega (arith, c.piece.ensures.fits, ap length c.piece.ensures.all) in
    let enough : min 300 q.left ≤ length q.piece = omega (arith, c.in-Ok.ensures.enough, c.in-Ok.ensures.stays.1) in
    subst (λ (p : PieceState). Counted file (payload_at file c.args.place c.args.count) c.in-Ok-read_uvarint.changes p) (sym c.skip.ensures)
    (counted file c.args.place c.args.count room q place left piece fits enough c.in-Ok-read_uvarint.changes c.in-Ok-read_uvarint.start
    (ap (λ w. uvarint_at w 0) (sym c.piece.ensures.all) ∙ sym c.in-Ok-read_uvarint.ensures.exact) (omega (arith, c.in-Ok-read_uvarint.ensures.inside, c.piece.ensures.fits)))
