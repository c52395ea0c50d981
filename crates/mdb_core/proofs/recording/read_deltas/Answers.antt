use Rattle.std.proofs.Common.{◌<◌, List, None, sym, ap, ◌∙◌, subst, arith}
use Rattle.std.specs.List.{sum_by}
use Rattle.std.specs.FinMap.{get}
use Rattle.std.proofs.lemmas.List.{take_all}
use Rattle.disk_model.specs.Files.{Files}
use Rattle.batch_model.specs.Batch.{Change, AreRising, after_batch}
use Rattle.history_model.specs.Changes.{deltas, delta_weight, weight}
use Rattle.value_store.specs.Values.{ValueState, Keeps}
use Rattle.mdb_core.specs.Alterations.{alterations}
use Rattle.mdb_core.proofs.AlteredKeys.{altered-deltas, altered-heavy}
use Rattle.mdb_core.proofs.recording.read_deltas.Goals as goal

pub returns-then-weight-limit-clause-deltas : goal.returns-then-weight-limit-clause-deltas
returns-then-weight-limit-clause-deltas g c = λ told m keeps.
    let w = g.D.Disk.words in
    let k = c.loop-change.invariant in
    let cs = c.changes-change-items.result.now in
    let change = c.change-item.result in
    let all = c.changes-change-items.ensures.all in
    let rising = subst (AreRising None) (sym all) c.changes-change-items.ensures.batch.rising in
    let there = subst (λ (f : Files). Keeps c.args.values.now m f) (sym k.untouched.seen) keeps in
    let still = subst (λ (v : ValueState). Keeps v m (w.seen c.loop-change.disk)) (sym k.values) there in
    let was = c.in-Ok.ensures.value told m still ∙ ap (get m) (c.deref.ensures.value ∙ ap (λ (x : Change). x.key) c.change.view_is) in
    subst (λ (l : List Change). c.args.limit < weight m (after_batch m l)) all
    (altered-heavy m cs c.loop-change.change-index c.args.limit c.loop-change.weight c.in-Ok-add.added _ change _ rising c.loop-change-test.true c.change-item.is was
    (k.weight ∙ ap (sum_by delta_weight) (k.altered told m keeps)) c.in-Ok-add.ensures.weight c.if-weight-limit.true)

pub returns-clause-deltas : goal.returns-clause-deltas
returns-clause-deltas g c = λ told m keeps.
    let cs = c.changes-change-items.result.now in
    let all = c.changes-change-items.ensures.all in
    let rising = subst (AreRising None) (sym all) c.changes-change-items.ensures.batch.rising in
    c.loop-change.invariant.altered told m keeps
    ∙ ap (alterations m) (take_all c.loop-change.change-index cs (omega (arith, c.loop-change-test.false)))
    ∙ altered-deltas m cs rising ∙ ap (λ (l : List Change). deltas m (after_batch m l)) all
