use Rattle.std.proofs.Common.{ℕ, List, refl, sym, ap, ◌∙◌, subst, arith}
use Rattle.std.specs.FinMap as map_of
use Rattle.mdb_journal.specs.Journal.{JournalState}
use Rattle.value_store.specs.Index.{Places, AreInFile}
use Rattle.value_store.specs.BatchReading.{Standing, Found, RecordsFail}
use Rattle.value_store.proofs.RecordGates.{at_first, none_in_file, still_knows, still_file}
use Rattle.value_store.proofs.records.read_records.Goals as goal

pub records-init : goal.records-init
records-init g c =
    let files = g.D.Disk.words.seen c.args.disk.now in
    let none = sym c.in-Ok.ensures in
    record {
      read = λ told rs knows. subst (λ (x : Places). Standing (files c.args.journal.now.file) rs c.first-at.result x) none
          (subst (λ (n : ℕ). Standing (files c.args.journal.now.file) rs n map_of.empty) (sym c.first-at.ensures) (at_first (files c.args.journal.now.file) rs));
      behind = omega (arith, c.first-at.ensures);
      in_file = subst (λ (x : Places). AreInFile c.args.journal.now.end x) none (none_in_file c.args.journal.now.end);
      journal = refl;
      untouched = record { seen = refl; images = refl };
      later = omega arith;
    }

pub records-preserved : goal.records-preserved
records-preserved g c =
    let w = g.D.Disk.words in
    let files = w.seen c.args.disk.now in
    let now = w.seen c.records.disk in
    let k = c.records.invariant in
    let j = c.args.journal.now in
    let h = rw c.in-Ok-Some.field-0-is at c.in-Ok-Some.ensures in
    let file = still_file files now j c.records.journal k.untouched.seen k.journal in
    let end = ap (λ (x : JournalState). x.end) k.journal in
    record {
      read = λ told rs knows.
          subst (λ (x : List ℕ). Standing x rs c.in-Ok-Some.next c.read_record.new.loader.index) file
          (h.read told rs (still_knows files now j c.records.journal rs k.untouched.seen k.journal knows)
          (subst (λ (x : List ℕ). Standing x rs c.records.at c.records.loader.index) (sym file) (k.read told rs knows)));
      behind = omega (arith, h.on.0, k.behind);
      in_file = subst (λ (n : ℕ). AreInFile n c.read_record.new.loader.index) end (h.in_file (subst (λ (n : ℕ). AreInFile n c.records.loader.index) (sym end) k.in_file));
      journal = h.journal ∙ k.journal;
      untouched = record { seen = h.untouched.seen ∙ k.untouched.seen; images = h.untouched.images ∙ k.untouched.images };
      later = omega (arith, k.later, h.later);
    }

pub returns-in-Ok-None-clause-found : goal.returns-in-Ok-None-clause-found
returns-in-Ok-None-clause-found g c = λ told rs knows.
    let w = g.D.Disk.words in
    let files = w.seen c.args.disk.now in
    let now = w.seen c.records.disk in
    let k = c.records.invariant in
    let j = c.args.journal.now in
    let h = rw c.in-Ok-None.field-0-is at c.in-Ok-None.ensures in
    let file = still_file files now j c.records.journal k.untouched.seen k.journal in
    subst (λ (x : Places). Found (files j.file) rs x) (sym c.into_index.ensures)
    (subst (λ (x : List ℕ). Found x rs c.read_record.new.loader.index) file
    (h.read told rs (still_knows files now j c.records.journal rs k.untouched.seen k.journal knows)
    (subst (λ (x : List ℕ). Standing x rs c.records.at c.records.loader.index) (sym file) (k.read told rs knows))))

pub returns-in-Err-clause-refused : goal.returns-in-Err-clause-refused
returns-in-Err-clause-refused g c = λ told rs knows.
    let w = g.D.Disk.words in
    let files = w.seen c.args.disk.now in
    let now = w.seen c.records.disk in
    let k = c.records.invariant in
    let j = c.args.journal.now in
    let file = still_file files now j c.records.journal k.untouched.seen k.journal in
    subst (λ (x : JournalState). RecordsFail x.file rs c.in-Err.fault) k.journal
    (c.in-Err.ensures.refused told rs (still_knows files now j c.records.journal rs k.untouched.seen k.journal knows)
    (subst (λ (x : List ℕ). Standing x rs c.records.at c.records.loader.index) (sym file) (k.read told rs knows)))
