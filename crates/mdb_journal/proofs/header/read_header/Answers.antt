use Rattle.std.proofs.Common.{inl, take, Ok, Some, sym, ap, ◌∙◌, arith}
use Rattle.store_model.specs.Header.{first_gate, header_behind_gate}
use Rattle.mdb_journal.specs.Opening.{as_answer}
use Rattle.mdb_journal.proofs.HeaderFields.{too_short, front_read, first_read, closed_gate, open_header, some_answer, fault_answer}
use Rattle.mdb_journal.proofs.header.read_header.Goals as goal

pub returns-then-len-le-FIRST_GATE-clause-answer : goal.returns-then-len-le-FIRST_GATE-clause-answer
returns-then-len-le-FIRST_GATE-clause-answer g c = λ told.
    let bytes = g.D.Disk.words.seen c.args.disk.now c.args.file in
    inl (sym (ap as_answer (too_short c.args.file bytes (omega (arith, c.in-Ok.ensures.contents told, c.if-len-le-FIRST_GATE.true)))))

pub returns-then-bytes-ne-OPEN-clause-answer : goal.returns-then-bytes-ne-OPEN-clause-answer
returns-then-bytes-ne-OPEN-clause-answer g c = λ told.
    let bytes = g.D.Disk.words.seen c.args.disk.now c.args.file in
    let front = front_read c.read.new.into bytes _ (omega arith) (c.in-Ok-read.ensures.contents told) (ap (λ s. s c.args.file) c.len.ensures.seen) in
    inl (sym (ap as_answer (closed_gate c.args.file bytes (λ e. c.if-bytes-ne-OPEN.true (first_read c.read.new.into bytes front ∙ e)))))

pub returns-in-Ok-header_in-clause-answer : goal.returns-in-Ok-header_in-clause-answer
returns-in-Ok-header_in-clause-answer g c = λ told.
    let bytes = g.D.Disk.words.seen c.args.disk.now c.args.file in
    let front = front_read c.read.new.into bytes _ (omega arith) (c.in-Ok-read.ensures.contents told) (ap (λ s. s c.args.file) c.len.ensures.seen) in
    let is = open_header c.args.file bytes (omega (arith, c.in-Ok.ensures.contents told, c.if-len-le-FIRST_GATE.false)) (sym (first_read c.read.new.into bytes front) ∙ c.if-bytes-ne-OPEN.false) in
    let read = c.in-Ok-header_in.ensures ∙ ap (λ b. as_answer (header_behind_gate c.args.file b)) front in
    inl (some_answer (header_behind_gate c.args.file (take first_gate bytes)) c.in-Ok-header_in.header read ∙ sym (ap as_answer is))

pub returns-in-Err-clause-answer : goal.returns-in-Err-clause-answer
returns-in-Err-clause-answer g c = λ told.
    let bytes = g.D.Disk.words.seen c.args.disk.now c.args.file in
    let front = front_read c.read.new.into bytes _ (omega arith) (c.in-Ok-read.ensures.contents told) (ap (λ s. s c.args.file) c.len.ensures.seen) in
    let is = open_header c.args.file bytes (omega (arith, c.in-Ok.ensures.contents told, c.if-len-le-FIRST_GATE.false)) (sym (first_read c.read.new.into bytes front) ∙ c.if-bytes-ne-OPEN.false) in
    let read = c.in-Err.ensures ∙ ap (λ b. as_answer (header_behind_gate c.args.file b)) front in
    inl (fault_answer (header_behind_gate c.args.file (take first_gate bytes)) (λ h. Ok (Some h)) c.in-Err.fault read ∙ sym (ap as_answer is))
