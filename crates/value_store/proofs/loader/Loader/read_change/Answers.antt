use Rattle.std.proofs.Common.{◌≡◌, ◌≤◌, ◌+◌, ◌-◌, ℕ, min, length, drop, Some, sym, ap, ◌∙◌, subst, arith}
use Rattle.std.specs.Prelude.{unwrap_or, IfSome}
use Rattle.trie_model.specs.Maps.{limits}
use Rattle.value_store.specs.ChangeHeads.{head_at}
use Rattle.value_store.specs.Index.{AreInFile, IsInFile}
use Rattle.value_store.specs.PayloadPieces.{PieceState}
use Rattle.value_store.specs.BatchReading.{laid, place_behind}
use Rattle.value_store.proofs.ReadBatches.{wrong_head, wrong_value, next_change, same_midway, in_file-laid, in_file-behind}
use Rattle.value_store.proofs.loader.Loader.read_change.Goals as goal

pub returns-in_default-read_head-clause-outside : goal.returns-in_default-read_head-clause-outside
returns-in_default-read_head-clause-outside g c = λ told payload n whole m e.
    let file = g.D.Disk.words.seen c.args.disk.now c.args.journal.now.file in
    let s = c.args.self.now in
    let q = c.fill.new.self in
    let fits : length q.piece ≤ q.left = omega (arith, c.piece.ensures.fits, ap length c.piece.ensures.all) in
    let enough : min 300 q.left ≤ length q.piece = omega (arith, c.in-Ok.ensures.enough, c.in-Ok.ensures.stays.1) in
    wrong_head file payload n s.last s.pieces q s.index whole m c.in-Ok.ensures.stays.0 c.in-Ok.ensures.stays.1 (c.in-Ok.ensures.piece told m.are_at.piece) fits enough
    (ap (λ w. head_at limits s.last w 0) (sym c.piece.ensures.all) ∙ sym c.in_default-read_head.ensures.exact)

pub returns-then-left-whole-clause-outside : goal.returns-then-left-whole-clause-outside
returns-then-left-whole-clause-outside g c = λ told payload n whole m e.
    let file = g.D.Disk.words.seen c.args.disk.now c.args.journal.now.file in
    let s = c.args.self.now in
    let q = c.fill.new.self in
    let h = c.in-Some.head in
    let fits : length q.piece ≤ q.left = omega (arith, c.piece.ensures.fits, ap length c.piece.ensures.all) in
    let enough : min 300 q.left ≤ length q.piece = omega (arith, c.in-Ok.ensures.enough, c.in-Ok.ensures.stays.1) in
    wrong_value file payload n s.last s.pieces q s.index whole m c.in-Ok.ensures.stays.0 c.in-Ok.ensures.stays.1 (c.in-Ok.ensures.piece told m.are_at.piece) fits enough
    (record { key = h.key.now; count = h.count }) h.length (ap (λ w. head_at limits s.last w 0) (sym c.piece.ensures.all) ∙ sym c.in-Some.ensures.exact)
    (omega (arith, c.in-Some.ensures.within, c.piece.ensures.fits))
    (omega (arith, c.if-left-whole.true, c.left.ensures, c.from.ensures, c.unwrap_or.ensures))

pub returns-clause-goes : goal.returns-clause-goes
returns-clause-goes g c = λ told payload n whole m.
    let file = g.D.Disk.words.seen c.args.disk.now c.args.journal.now.file in
    let s = c.args.self.now in
    let q = c.fill.new.self in
    let h = c.in-Some.head in
    let fits : length q.piece ≤ q.left = omega (arith, c.piece.ensures.fits, ap length c.piece.ensures.all) in
    let enough : min 300 q.left ≤ length q.piece = omega (arith, c.in-Ok.ensures.enough, c.in-Ok.ensures.stays.1) in
    let count : c.from.result ≡ unwrap_or h.count 0 = c.from.ensures ∙ c.unwrap_or.ensures in
    let next = next_change file payload n s.last s.pieces q s.index whole m c.in-Ok.ensures.stays.0 c.in-Ok.ensures.stays.1 (c.in-Ok.ensures.piece told m.are_at.piece) fits enough
    (record { key = h.key.now; count = h.count }) h.length (ap (λ w. head_at limits s.last w 0) (sym c.piece.ensures.all) ∙ sym c.in-Some.ensures.exact)
    (omega (arith, c.if-left-whole.false, c.left.ensures, count)) in
    let skipped = ap (λ (k : ℕ). let w = h.length + k in let r : PieceState = record { place = q.place + w; left = q.left - w; piece = drop w q.piece } in r) (sym count) ∙ sym c.skip.ensures in
    let put : laid s.index h.key.now (place_behind (q.place + h.length) h.count) ≡ c.lay.new.index =
    ap (λ k. laid s.index h.key.now (place_behind (k + h.length) h.count)) (sym c.place.ensures.is) ∙ ap (laid s.index h.key.now) (sym c.place_behind-place.ensures) ∙ sym c.in-Ok-lay.ensures in
    same_midway file payload n (Some h.key.now) c.set.new.self _ c.skip.new.self _ c.lay.new.index whole (sym c.in-Ok-set.ensures) skipped put next

pub returns-clause-in_file : goal.returns-clause-in_file
returns-clause-in_file g c = λ all.
    let end = c.args.journal.now.end in
    let h = c.in-Some.head in
    let s = c.args.self.now in
    let p = c.place_behind-place in
    let one = in_file-behind end (c.place.result + h.length) h.count (omega (arith, c.requires.behind, c.place.ensures.is, c.in-Ok.ensures.stays.0))
    (omega (arith, c.requires.end, c.place.ensures.is, c.in-Ok.ensures.stays, c.if-left-whole.false, c.left.ensures, c.from.ensures, c.unwrap_or.ensures)) in
    subst (λ x. AreInFile end x) (sym c.in-Ok-lay.ensures) (in_file-laid end s.index h.key.now p.result all (subst (λ o. IfSome o (IsInFile end)) (sym p.ensures) one))
