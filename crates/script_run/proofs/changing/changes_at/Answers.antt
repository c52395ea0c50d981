use Rattle.std.proofs.Common.{◌≡◌, ℕ, Option, sym, ap, ◌∙◌, subst}
use Rattle.std.specs.Prelude.{IfSome}
use Rattle.bit_keys.specs.Branch.{width_of}
use Rattle.trie_model.specs.Maps.{Map}
use Rattle.proof_model.specs.ChangeProofs.{proof_of_changes}
use Rattle.session_model.specs.MapsByRoot.{between}
use Rattle.change_history.specs.declared.telling.Taken.{Taken}
use Rattle.mdb_core.specs.Stores.{DbState, Keeps, held_maps}
use Rattle.mdb_core.proofs.StoreFiles.{kept_same}
use Rattle.mdb_core.specs.Spots.{IsSpotOf}
use Rattle.mdb_core.specs.Places.{GetFails}
use Rattle.script_run.specs.NamedSpots.{IsTakenBetween}
use Rattle.script_run.proofs.HeldMaps.{later_named, not_named, none_taken, none_between, proof_taken}
use Rattle.script_run.proofs.changing.changes_at.Goals as goal

pub returns-in-Ok-None-clause-proof : goal.returns-in-Ok-None-clause-proof
returns-in-Ok-None-clause-proof g c = λ tells m keeps.
    let db = c.args.db.now in
    let o = between db.width (held_maps db m) c.args.from c.args.to in
    none_taken db.width c.args.pairs c.args.bytes c.args.range.now o
    (subst (λ (t : Option Taken). IsTakenBetween c.args.pairs c.args.bytes c.args.range.now o t) c.in-Ok-None.field-0-is (c.in-Ok-None.ensures.taken m _ keeps))

pub returns-in-Err-NotHeld-clause-proof : goal.returns-in-Err-NotHeld-clause-proof
returns-in-Err-NotHeld-clause-proof g c = λ tells m keeps.
    let db = c.args.db.now in
    let w = db.width in
    let maps = held_maps db m in
    let why = subst (GetFails db _) c.in-Err-NotHeld.field-0-is c.in-Err-NotHeld.ensures.fault in
    let none = not_named db m _ keeps c.args.to why.1 in
    none_between w c.args.pairs c.args.bytes c.args.range.now (between w maps c.args.from c.args.to) (λ ms is. let no : ⊥ = cc (sym none ∙ later_named w maps c.args.from c.args.to ms is) in no)

pub returns-in-Ok-prove_changes-clause-proof : goal.returns-in-Ok-prove_changes-clause-proof
returns-in-Ok-prove_changes-clause-proof g c = λ tells m keeps.
    let db = c.args.db.now in
    let w = db.width in
    let maps = held_maps db m in
    let o = between w maps c.args.from c.args.to in
    let taken = subst (λ (t : Option Taken). IsTakenBetween c.args.pairs c.args.bytes c.args.range.now o t) c.in-Ok-Some.field-0-is (c.in-Ok-Some.ensures.taken m _ keeps) in
    let spot = c.in-Ok.ensures.spot m (record { digests = keeps.digests; past = keeps.history }) in
    let lent = subst (λ (s : DbState). Keeps s m (g.D.Disk.words.seen c.source.new.disk)) (sym c.source.ensures.stays) (kept_same db m (g.D.Disk.words.seen c.args.disk.now) (g.D.Disk.words.seen c.source.new.disk) (ap g.D.Disk.words.seen c.source.ensures.disk) keeps) in
    let width : width_of c.branch-branch.result ≡ w = c.branch-branch.ensures ∙ ap (λ (s : DbState). s.width) c.source.ensures.stays in
    proof_taken w c.args.pairs c.args.bytes c.args.range.now o c.in-Ok-Some.taken c.in-Ok-prove_changes.proof taken
    (λ ms is. subst (λ (v : ℕ). c.in-Ok-prove_changes.proof ≡ proof_of_changes v ms.1 c.args.range.now c.in-Ok-Some.taken.cut c.in-Ok-Some.taken.changes.items) width
    (c.in-Ok-prove_changes.ensures.proof ms.1 (record { tells = tells; stored = m; keeps = lent; spot = subst (λ (x : Option Map). IfSome x (IsSpotOf c.source.new.self m c.in-Ok.spot)) (later_named w maps c.args.from c.args.to ms is) spot })))
