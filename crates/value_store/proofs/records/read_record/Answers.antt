use Rattle.std.proofs.Common.{◌≡◌, ◌≤◌, List, ℕ, Err, length, refl, sym, ap, ◌∙◌, subst, arith}
use Rattle.disk_model.specs.Files.{Files}
use Rattle.mdb_journal.specs.Journal.{JournalState}
use Rattle.trie_model.specs.Maps.{limits}
use Rattle.batch_model.specs.Batch.{Outside, batch_of}
use Rattle.value_store.specs.declared.fault.ValueFault.{ValueFault}
use Rattle.value_store.specs.BatchReading.{BatchRead, Shows, RecordsFail, payload_at}
use Rattle.value_store.proofs.RecordGates.{none_left, not_damaged, next_record, other_record, batch_record, wrong_record, end_inside, read_fails}
use Rattle.value_store.proofs.records.read_record.Goals as goal

pub returns-in-Ok-None-clause-read : goal.returns-in-Ok-None-clause-read
returns-in-Ok-None-clause-read g c = λ told rs knows s.
    let files = g.D.Disk.words.seen c.args.disk.now in
    let h = rw c.in-Ok-None.field-0-is at c.in-Ok-None.ensures in
    none_left files c.args.journal.now rs knows c.args.at c.args.loader.now.index s (h.found told c.requires.works)

pub returns-in-Err-clause-refused : goal.returns-in-Err-clause-refused
returns-in-Err-clause-refused g c = λ told rs knows s.
    let files = g.D.Disk.words.seen c.args.disk.now in
    let j = c.args.journal.now in
    subst (λ (fault : ValueFault). RecordsFail j.file rs fault) (sym c.store_fault.ensures)
    (read_fails (files j.file) j.file c.args.at rs c.in-Err.fault (not_damaged files j rs knows c.args.at c.args.loader.now.index s) (c.in-Err.ensures.found told c.requires.works))

pub returns-then-record-end-clause-refused : goal.returns-then-record-end-clause-refused
returns-then-record-end-clause-refused g c = λ told rs knows s.
    let files = g.D.Disk.words.seen c.args.disk.now in
    let h = rw c.in-Ok-Some.field-0-is at c.in-Ok-Some.ensures in
    let f = h.found told c.requires.works in
    let n = next_record files c.args.journal.now rs knows c.args.at c.args.loader.now.index s c.in-Ok-Some.record f.0 f.1 in
    absurd (omega (arith, n.fits, c.if-record-end.true, c.end.ensures.is, ap (λ (k : JournalState). k.end) (h.stays (λ e. absurd cc))))

pub returns-then-record-ne-BATCH-clause-read : goal.returns-then-record-ne-BATCH-clause-read
returns-then-record-ne-BATCH-clause-read g c = λ told rs knows s.
    let files = g.D.Disk.words.seen c.args.disk.now in
    let h = rw c.in-Ok-Some.field-0-is at c.in-Ok-Some.ensures in
    let f = h.found told c.requires.works in
    let n = next_record files c.args.journal.now rs knows c.args.at c.args.loader.now.index s c.in-Ok-Some.record f.0 f.1 in
    other_record files c.args.journal.now rs knows c.args.at c.args.loader.now.index s c.in-Ok-Some.record n c.if-record-ne-BATCH.true

pub returns-in-Ok-clause-read : goal.returns-in-Ok-clause-read
returns-in-Ok-clause-read g c = λ told rs knows s.
    let w = g.D.Disk.words in
    let files = w.seen c.args.disk.now in
    let j = c.args.journal.now in
    let r = c.in-Ok-Some.record in
    let h = rw c.in-Ok-Some.field-0-is at c.in-Ok-Some.ensures in
    let f = h.found told c.requires.works in
    let n = next_record files j rs knows c.args.at c.args.loader.now.index s r f.0 f.1 in
    let stays = h.stays (λ e. absurd cc) in
    let same : w.seen c.record.new.disk c.record.new.self.file ≡ files j.file = ap (λ (x : Files). x c.record.new.self.file) h.untouched.seen ∙ ap (λ (k : JournalState). files k.file) stays in
    let inside : c.record.new.self.end ≤ length (w.seen c.record.new.disk c.record.new.self.file) = omega (arith, end_inside files j rs knows, ap length same, ap (λ (k : JournalState). k.end) stays) in
    let b = c.in-Ok.ensures.read told inside s.map (subst (λ (x : List ℕ). Shows x s.map c.args.loader.now.index) (sym same) s.shows) in
    batch_record files j rs knows c.args.at c.args.loader.now.index s r n c.read_batch.new.self.index (omega (arith, c.if-record-ne-BATCH.false))
    (subst (λ (k : ℕ). BatchRead (files j.file) (payload_at (files j.file) r.place k) s.map c.read_batch.new.self.index) c.from.ensures
    (subst (λ (x : List ℕ). BatchRead x (payload_at x r.place c.from.result) s.map c.read_batch.new.self.index) same b))

pub returns-in-Err-Outside-clause-refused : goal.returns-in-Err-Outside-clause-refused
returns-in-Err-Outside-clause-refused g c = λ told rs knows s.
    let w = g.D.Disk.words in
    let files = w.seen c.args.disk.now in
    let j = c.args.journal.now in
    let r = c.in-Ok-Some.record in
    let h = rw c.in-Ok-Some.field-0-is at c.in-Ok-Some.ensures in
    let f = h.found told c.requires.works in
    let n = next_record files j rs knows c.args.at c.args.loader.now.index s r f.0 f.1 in
    let stays = h.stays (λ e. absurd cc) in
    let same : w.seen c.record.new.disk c.record.new.self.file ≡ files j.file = ap (λ (x : Files). x c.record.new.self.file) h.untouched.seen ∙ ap (λ (k : JournalState). files k.file) stays in
    let inside : c.record.new.self.end ≤ length (w.seen c.record.new.disk c.record.new.self.file) = omega (arith, end_inside files j rs knows, ap length same, ap (λ (k : JournalState). k.end) stays) in
    let o = rw c.in-Err-Outside.field-0-is at c.in-Err-Outside.ensures in
    let b = o.outside told inside s.map (subst (λ (x : List ℕ). Shows x s.map c.args.loader.now.index) (sym same) s.shows) refl in (
      c.active.ensures ∙ ap (λ (k : JournalState). k.file) stays,
      wrong_record files j rs knows c.args.at c.args.loader.now.index s r n (omega (arith, c.if-record-ne-BATCH.false))
          (subst (λ (k : ℕ). batch_of limits (payload_at (files j.file) r.place k) ≡ Err Outside) c.from.ensures
          (subst (λ (x : List ℕ). batch_of limits (payload_at x r.place c.from.result) ≡ Err Outside) same b)),
    )
