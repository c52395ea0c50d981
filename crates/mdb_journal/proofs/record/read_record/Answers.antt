use Rattle.std.proofs.Common.{◌+◌, get_or, refl, sym, ap, ◌∙◌, arith, rules, subst}
use Rattle.std.specs.Int.{w32, from_be_bytes}
use Rattle.mdb_journal.specs.GateWalk.{IsFound}
use Rattle.mdb_journal.proofs.RecordFields.{too_short, unknown_read, long_read, found_read, head_read, gate_read, piece_read}
use Rattle.mdb_journal.proofs.record.read_record.Goals as goal

pub returns-then-len-at-lt6-clause-found : goal.returns-then-len-at-lt6-clause-found
returns-then-len-at-lt6-clause-found g c = λ told len.
    let bytes = g.D.Disk.words.seen c.args.disk.now c.args.file in
    let gate = piece_read c.read.new.into bytes _ 1 c.args.at (omega arith) (c.in-Ok.ensures.contents told) refl in
    (refl, refl, sym (gate_read c.read.new.into bytes c.args.at gate) ∙ c.if-gate-ne-OPEN.false, too_short bytes c.args.at (omega (arith, len)))

pub returns-then-not-is_record-clause-found : goal.returns-then-not-is_record-clause-found
returns-then-not-is_record-clause-found g c = λ told len.
    let bytes = g.D.Disk.words.seen c.args.disk.now c.args.file in
    let same = ap (λ s. s c.args.file) c.read.ensures.seen in
    let gate = piece_read c.read.new.into bytes _ 1 c.args.at (omega arith) (c.in-Ok.ensures.contents told) refl in
    let head = head_read c.read-2.new.into bytes c.args.at (piece_read c.read-2.new.into bytes _ 5 (c.args.at + 1) (omega arith) (c.in-Ok-read.ensures.contents told) same) (omega (arith, len)) in
    let count = c.count_in-count.ensures ∙ ap (from_be_bytes w32) head.1 in
    let is_open = sym (gate_read c.read.new.into bytes c.args.at gate) ∙ c.if-gate-ne-OPEN.false in
    (refl, refl, is_open, unknown_read bytes c.args.at (get_or c.read-2.new.into 0 0) c.count_in-count.result (omega (arith, len)) head.0 count (search rules))

pub returns-then-next-len-clause-found : goal.returns-then-next-len-clause-found
returns-then-next-len-clause-found g c = λ told len.
    let bytes = g.D.Disk.words.seen c.args.disk.now c.args.file in
    let same = ap (λ s. s c.args.file) c.read.ensures.seen in
    let gate = piece_read c.read.new.into bytes _ 1 c.args.at (omega arith) (c.in-Ok.ensures.contents told) refl in
    let head = head_read c.read-2.new.into bytes c.args.at (piece_read c.read-2.new.into bytes _ 5 (c.args.at + 1) (omega arith) (c.in-Ok-read.ensures.contents told) same) (omega (arith, len)) in
    let count = c.count_in-count.ensures ∙ ap (from_be_bytes w32) head.1 in
    let is_open = sym (gate_read c.read.new.into bytes c.args.at gate) ∙ c.if-gate-ne-OPEN.false in
    (refl, refl, is_open, long_read bytes c.args.at (get_or c.read-2.new.into 0 0) c.count_in-count.result (omega (arith, len)) head.0 count (search rules) (omega (arith, len, c.from.ensures, c.if-next-len.true)))

pub returns-clause-found : goal.returns-clause-found
returns-clause-found g c = λ told len.
    let bytes = g.D.Disk.words.seen c.args.disk.now c.args.file in
    let same = ap (λ s. s c.args.file) c.read.ensures.seen in
    let gate = piece_read c.read.new.into bytes _ 1 c.args.at (omega arith) (c.in-Ok.ensures.contents told) refl in
    let head = head_read c.read-2.new.into bytes c.args.at (piece_read c.read-2.new.into bytes _ 5 (c.args.at + 1) (omega arith) (c.in-Ok-read.ensures.contents told) same) (omega (arith, len)) in
    let count = c.count_in-count.ensures ∙ ap (from_be_bytes w32) head.1 in
    let is_open = sym (gate_read c.read.new.into bytes c.args.at gate) ∙ c.if-gate-ne-OPEN.false in
    let f = found_read bytes c.args.at (get_or c.read-2.new.into 0 0) c.count_in-count.result (omega (arith, len)) head.0 count (search rules) (omega (arith, len, c.from.ensures, c.if-next-len.false)) in
    (is_open, subst (λ n. IsFound bytes c.args.at (record { kind = get_or c.read-2.new.into 0 0; place = c.args.at + 6; length = c.count_in-count.result; next = c.args.at + 6 + n })) (sym c.from.ensures) f)
