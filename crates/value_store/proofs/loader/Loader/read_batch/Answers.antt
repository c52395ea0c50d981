use Rattle.std.proofs.Common.{◌≡◌, ℕ, List, None, Err, sym, ap, ◌∙◌, subst, arith}
use Rattle.disk_model.specs.Files.{Files}
use Rattle.mdb_journal.specs.Journal.{JournalState}
use Rattle.value_store.specs.Index.{Places}
use Rattle.value_store.specs.declared.loader.BatchTrouble.TheVariants.{Outside as outside}
use Rattle.value_store.specs.BatchReading.{Midway, Shows, changes_into, payload_at}
use Rattle.value_store.proofs.ReadBatches.{started, no_number, wrong_changes, batch_read, bytes_left}
use Rattle.value_store.proofs.loader.Loader.read_batch.Goals as goal

pub returns-in-Err-clause-outside : goal.returns-in-Err-clause-outside
returns-in-Err-clause-outside g c = λ told inside m shows e.
    let t : c.in-Err.trouble ≡ outside = cc in
    no_number _ (c.in-Err.ensures.outside told inside (ap (λ t. Err t) t))

pub returns-in-Err-read_changes-clause-outside : goal.returns-in-Err-read_changes-clause-outside
returns-in-Err-read_changes-clause-outside g c = λ told inside m shows e.
    let w = g.D.Disk.words in
    let b = c.begin.new.self in
    let file = w.seen c.args.disk.now c.args.journal.now.file in
    let payload = payload_at file c.args.place c.args.count in
    let o = c.in-Ok.ensures in
    let n = o.counted told inside in
    let same = ap (λ (x : Files). x c.args.journal.now.file) (sym o.untouched.seen) ∙ ap (λ (j : JournalState). w.seen c.begin.new.disk j.file) (sym o.journal) in
    let first = started file payload c.in-Ok.changes b.last b.pieces b.index m n o.last (subst (λ (x : Places). Shows file m x) (sym o.index) shows) in
    wrong_changes payload c.in-Ok.changes n.at n.is m (c.in-Err-read_changes.ensures.outside told payload (changes_into c.in-Ok.changes None payload n.at m)
    (subst (λ (x : List ℕ). Midway x payload c.in-Ok.changes b.last b.pieces b.index (changes_into c.in-Ok.changes None payload n.at m)) same first) e)

pub returns-then-left-gt0-clause-outside : goal.returns-then-left-gt0-clause-outside
returns-then-left-gt0-clause-outside g c = λ told inside m shows e.
    let w = g.D.Disk.words in
    let b = c.begin.new.self in
    let s = c.read_changes.new.self in
    let file = w.seen c.args.disk.now c.args.journal.now.file in
    let payload = payload_at file c.args.place c.args.count in
    let o = c.in-Ok.ensures in
    let n = o.counted told inside in
    let same = ap (λ (x : Files). x c.args.journal.now.file) (sym o.untouched.seen) ∙ ap (λ (j : JournalState). w.seen c.begin.new.disk j.file) (sym o.journal) in
    let first = started file payload c.in-Ok.changes b.last b.pieces b.index m n o.last (subst (λ (x : Places). Shows file m x) (sym o.index) shows) in
    let whole = changes_into c.in-Ok.changes None payload n.at m in
    let end = c.in-Ok-read_changes.ensures.goes told payload whole (subst (λ (x : List ℕ). Midway x payload c.in-Ok.changes b.last b.pieces b.index whole) same first) in
    bytes_left file payload c.in-Ok.changes b.pieces n m s.last s.pieces s.index (subst (λ (x : List ℕ). Midway x payload 0 s.last s.pieces s.index whole) (sym same) end) (omega (arith, c.left.ensures, c.if-left-gt0.true))

pub returns-clause-read : goal.returns-clause-read
returns-clause-read g c = λ told inside m shows.
    let w = g.D.Disk.words in
    let b = c.begin.new.self in
    let s = c.read_changes.new.self in
    let file = w.seen c.args.disk.now c.args.journal.now.file in
    let payload = payload_at file c.args.place c.args.count in
    let o = c.in-Ok.ensures in
    let n = o.counted told inside in
    let same = ap (λ (x : Files). x c.args.journal.now.file) (sym o.untouched.seen) ∙ ap (λ (j : JournalState). w.seen c.begin.new.disk j.file) (sym o.journal) in
    let first = started file payload c.in-Ok.changes b.last b.pieces b.index m n o.last (subst (λ (x : Places). Shows file m x) (sym o.index) shows) in
    let whole = changes_into c.in-Ok.changes None payload n.at m in
    let end = c.in-Ok-read_changes.ensures.goes told payload whole (subst (λ (x : List ℕ). Midway x payload c.in-Ok.changes b.last b.pieces b.index whole) same first) in
    batch_read file payload c.in-Ok.changes b.pieces n m s.last s.pieces s.index (subst (λ (x : List ℕ). Midway x payload 0 s.last s.pieces s.index whole) (sym same) end) (omega (arith, c.left.ensures, c.if-left-gt0.false))
