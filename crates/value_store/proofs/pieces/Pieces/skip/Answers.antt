use Rattle.std.proofs.Common.{◌≡◌, ◌+◌, ◌-◌, drop, slice_range, ap, ◌∙◌, arith}
use Rattle.value_store.specs.PayloadPieces.{PieceState}
use Rattle.value_store.proofs.PieceRanges.{range-later, range-past}
use Rattle.value_store.proofs.pieces.Pieces.skip.Goals as goal
use Rattle.value_store.proofs.pieces.Pieces.skip.Goals.{then-count-inside, else-count-inside}

pub returns : goal.returns
returns c =
    let p = c.self.inside in
    let n = c.args.count in
    let piece : slice_range p.room.items c.if-count-inside.self p.end ≡ drop n (slice_range p.room.items p.start p.end) = elim c.if-count-inside.branch [
      | then-count-inside w ↦ rw w.self-is (range-later p.room.items p.start p.end n (omega arith))
      | else-count-inside w ↦ rw w.self-is (range-past p.room.items p.start p.end n (omega arith))
    ] in
    ap (λ x. record { place = p.place + n; left = p.left - n; piece = x }) piece
    ∙ ap (λ (s : PieceState). record { place = s.place + n; left = s.left - n; piece = drop n s.piece }) c.self.view_is
