use Rattle.std.proofs.Common.{◌<◌, false, length, Err, sym, ap, ◌∙◌, subst, arith}
use Rattle.disk_model.specs.Files.{Files}
use Rattle.store_model.specs.Header.{first_gate, is_width}
use Rattle.bit_keys.specs.Branch.{width_of}
use Rattle.mdb_journal.specs.Opening.{IsOpened}
use Rattle.mdb_journal.specs.GateWalk.{Ends, Walked}
use Rattle.mdb_journal.proofs.FoundFiles.{answered, other_factor, width_known, header_inside, opened, refused}
use Rattle.mdb_journal.proofs.opening.find.Goals as goal

pub returns-then-header-width-clause-refused : goal.returns-then-header-width-clause-refused
returns-then-header-width-clause-refused g c = λ told.
    let files = g.D.Disk.words.seen c.args.disk.now in
    let x = c.in-Ok-Some.active in
    let a = rw c.in-Ok-Some.field-0-is at c.in-Ok-Some.ensures in
    let is = answered _ _ (a.answer told) in
    let v = ap (λ h. h.width) c.header.view_is in
    let bytes = (g.met.D.Disk.lawful.reads_files told c.args.disk.now x.0).bytes in
    let known = width_known files x.0 x.1 is bytes (width_of c.args.branch) in
    other_factor files x.0 x.1 (width_of c.args.branch) c.factor.result c.factor-then-header-width.result c.header.inside.width is v (λ e. c.if-header-width.true (e ∙ sym c.width.ensures)) (c.factor.ensures (ap is_width v ∙ known)) (c.factor-then-header-width.ensures.value ∙ c.factor-then-header-width.ensures.power)

pub returns-in-Ok-walk-clause-found : goal.returns-in-Ok-walk-clause-found
returns-in-Ok-walk-clause-found g c = λ told.
    let files = g.D.Disk.words.seen c.args.disk.now in
    let x = c.in-Ok-Some.active in
    let a = rw c.in-Ok-Some.field-0-is at c.in-Ok-Some.ensures in
    let is = answered _ _ (a.answer told) in
    let v = ap (λ h. h.width) c.header.view_is in
    let bytes = (g.met.D.Disk.lawful.reads_files told c.args.disk.now x.0).bytes in
    let same = c.len.ensures.seen ∙ a.untouched.seen in
    let inside = header_inside files x.0 x.1 is in
    let len = c.in-Ok.ensures.contents told ∙ ap (λ (s : Files). length (s x.0)) a.untouched.seen in
    let width = sym v ∙ c.if-header-width.false ∙ c.width.ensures in
    let long : first_gate < c.in-Ok.len = omega (arith, len, inside) in
    let len' = len ∙ ap (λ (s : Files). length (s x.0)) (sym same) in
    let ends = subst (λ (s : Files). Ends (s x.0) c.in-Ok-walk.end) same (c.in-Ok-walk.ensures.end told len' long) in
    let o = opened files x.0 x.1 is bytes (width_of c.args.branch) c.in-Ok-walk.end width ends in
    subst (λ n. IsOpened (width_of c.args.branch) files (record { file = x.0; generation = n; end = c.in-Ok-walk.end; failed = false })) (sym (ap (λ h. h.generation) c.header.view_is)) o

pub returns-in-Err-walk-clause-refused : goal.returns-in-Err-walk-clause-refused
returns-in-Err-walk-clause-refused g c = λ told.
    let files = g.D.Disk.words.seen c.args.disk.now in
    let x = c.in-Ok-Some.active in
    let a = rw c.in-Ok-Some.field-0-is at c.in-Ok-Some.ensures in
    let is = answered _ _ (a.answer told) in
    let v = ap (λ h. h.width) c.header.view_is in
    let bytes = (g.met.D.Disk.lawful.reads_files told c.args.disk.now x.0).bytes in
    let same = c.len.ensures.seen ∙ a.untouched.seen in
    let inside = header_inside files x.0 x.1 is in
    let len = c.in-Ok.ensures.contents told ∙ ap (λ (s : Files). length (s x.0)) a.untouched.seen in
    let width = sym v ∙ c.if-header-width.false ∙ c.width.ensures in
    let long : first_gate < c.in-Ok.len = omega (arith, len, inside) in
    let len' = len ∙ ap (λ (s : Files). length (s x.0)) (sym same) in
    refused files x.0 x.1 is (width_of c.args.branch) c.in-Err-walk.fault width (subst (λ (s : Files). Walked (s x.0) x.0 (Err c.in-Err-walk.fault)) same (c.in-Err-walk.ensures.end told len' long))
