use Rattle.std.proofs.Common.{drop, arith}
use Rattle.value_store.proofs.FactsAtOk.{on_ok}
use Rattle.value_store.proofs.PieceRanges.{range-read}
use Rattle.value_store.proofs.pieces.Pieces.fill.Goals as goal

pub returns-clause-piece : goal.returns-clause-piece
returns-clause-piece g c = λ told was.
    let p = c.self.inside in
    on_ok c.read_front.result
    (range-read p.room.len c.min-count.result c.read_front.new.room p.room.items (drop p.place (g.D.Disk.words.seen c.args.disk.now c.args.journal.now.file))
    (omega (arith, c.read_front.auto.room, c.deref_mut.ensures.len)) (omega (arith, c.min-count.ensures, c.self.invariant)))
    (c.read_front.ensures.bytes told)
