use Rattle.std.proofs.Common.{◌≡◌, ℕ, List, refl, sym, ◌∙◌, subst}
use Rattle.disk_model.specs.Moments.{Moments, LeavesOnly}
use Rattle.bit_keys.specs.Branch.{width_of}
use Rattle.store_model.specs.Journal.{Hold}
use Rattle.mdb_journal.specs.Journal.{JournalState}
use Rattle.value_store.specs.Index.{AreInFile}
use Rattle.value_store.specs.BatchReading.{Found}
use Rattle.value_store.proofs.RecordGates.{still_knows, still_file}
use Rattle.value_store.proofs.OpenedStores.{were_held, opened_store, records_refused, no_memory_refused, still_stands, left_stands, opens_store}
use Rattle.value_store.specs.declared.fault.ValueFault.TheVariants.{NoMemory}
use Rattle.value_store.proofs.store.ValueStore.open.Goals as goal

pub returns-in-Err-clause-opens : goal.returns-in-Err-clause-opens
returns-in-Err-clause-opens g c = λ told m s.
    let w = g.D.Disk.words in
    opens_store (w.seen c.args.disk.now) m s (w.moments c.args.disk.now) (w.moments c.open.new.disk) (w.moments c.open.new.disk) refl (c.open.ensures.opens told s.records s.hold)

pub returns-in-Err-clause-kept : goal.returns-in-Err-clause-kept
returns-in-Err-clause-kept g c = λ told m s is.
    let same : c.store_fault.result ≡ NoMemory = cc is in
    absurd (no_memory_refused (width_of c.args.branch) (g.D.Disk.words.seen c.args.disk.now) c.in-Err.fault (c.in-Err.ensures.refused told) (sym c.store_fault.ensures ∙ same))

pub returns-in-Err-read_records-clause-kept : goal.returns-in-Err-read_records-clause-kept
returns-in-Err-read_records-clause-kept g c = λ told m s is.
    let w = g.D.Disk.words in
    still_stands (w.seen c.args.disk.now) (w.seen c.open.new.disk) (w.seen c.read_records.new.disk) m s c.in-Ok.journal (c.in-Ok.ensures.records told s.records s.hold) c.in-Err-read_records.ensures.untouched.seen

pub returns-in-Ok-read_records-clause-opened : goal.returns-in-Ok-read_records-clause-opened
returns-in-Ok-read_records-clause-opened g c = λ told.
    let w = g.D.Disk.words in
    let was = w.seen c.args.disk.now in
    let mid = w.seen c.open.new.disk in
    let is = w.seen c.read_records.new.disk in
    let j = c.in-Ok.journal in
    let now = c.read_records.new.journal in
    let index = c.in-Ok-read_records.index in
    let r = c.in-Ok-read_records.ensures in
    let held = were_held (width_of c.args.branch) was j (c.in-Ok.ensures.found told) in
    let knows = c.in-Ok.ensures.records told held.records held.hold in
    opened_store (width_of c.args.branch) was j is held now index
    (still_knows mid is j now held.records r.untouched.seen r.journal knows)
    (subst (λ (x : JournalState). AreInFile x.end index) (sym r.journal) r.in_file)
    (subst (λ (x : List ℕ). Found x held.records index) (sym (still_file mid is j now r.untouched.seen r.journal)) (r.found told held.records knows))

pub returns-in-Ok-read_records-clause-left : goal.returns-in-Ok-read_records-clause-left
returns-in-Ok-read_records-clause-left g c = λ told m s.
    let w = g.D.Disk.words in
    left_stands (w.seen c.args.disk.now) m s (w.moments c.read_records.new.disk)
    (subst (λ (x : Moments). LeavesOnly (λ image. Hold image s.records) x.now) (sym c.in-Ok-read_records.ensures.untouched.images) (c.in-Ok.ensures.left told s.records s.hold))

pub returns-in-Ok-read_records-clause-opens : goal.returns-in-Ok-read_records-clause-opens
returns-in-Ok-read_records-clause-opens g c = λ told m s.
    let w = g.D.Disk.words in
    opens_store (w.seen c.args.disk.now) m s (w.moments c.args.disk.now) (w.moments c.open.new.disk) (w.moments c.read_records.new.disk) c.in-Ok-read_records.ensures.untouched.images (c.open.ensures.opens told s.records s.hold)

pub returns-in-Err-read_records-clause-refused : goal.returns-in-Err-read_records-clause-refused
returns-in-Err-read_records-clause-refused g c = λ told.
    let w = g.D.Disk.words in
    let was = w.seen c.args.disk.now in
    let o = c.in-Ok.ensures.found told in
    let held = were_held (width_of c.args.branch) was c.in-Ok.journal o in
    records_refused (width_of c.args.branch) was c.in-Ok.journal o c.in-Err-read_records.fault (c.in-Err-read_records.ensures.refused told held.records (c.in-Ok.ensures.records told held.records held.hold))

pub returns-in-Err-read_records-clause-opens : goal.returns-in-Err-read_records-clause-opens
returns-in-Err-read_records-clause-opens g c = λ told m s.
    let w = g.D.Disk.words in
    opens_store (w.seen c.args.disk.now) m s (w.moments c.args.disk.now) (w.moments c.open.new.disk) (w.moments c.read_records.new.disk) c.in-Err-read_records.ensures.untouched.images (c.open.ensures.opens told s.records s.hold)
