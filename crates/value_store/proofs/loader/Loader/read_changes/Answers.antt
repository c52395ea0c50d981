use Rattle.std.proofs.Common.{◌≡◌, ◌+◌, ◌-◌, ℕ, suc, List, sym, ap, ◌∙◌, subst, arith}
use Rattle.disk_model.specs.Files.{Files}
use Rattle.mdb_journal.specs.Journal.{JournalState}
use Rattle.value_store.specs.BatchReading.{Midway}
use Rattle.value_store.proofs.loader.Loader.read_changes.Goals as goal

pub returns-in-Err-clause-outside : goal.returns-in-Err-clause-outside
returns-in-Err-clause-outside g c = λ told payload whole m e.
    let w = g.D.Disk.words in
    let k = c.changes.invariant in
    let s = c.changes.self in
    let n = c.args.count - (c.changes._done + 1) in
    let one : c.args.count - c.changes._done ≡ suc n = omega arith in
    let here = k.goes told payload whole m in
    let file = ap (λ (x : Files). x c.args.journal.now.file) (sym k.untouched.seen) ∙ ap (λ (j : JournalState). w.seen c.changes.disk j.file) (sym k.journal) in
    c.in-Err.ensures.outside told payload n whole
    (subst (λ (x : List ℕ). Midway x payload (suc n) s.last s.pieces s.index whole) file (subst (λ (i : ℕ). Midway (w.seen c.args.disk.now c.args.journal.now.file) payload i s.last s.pieces s.index whole) one here)) e
