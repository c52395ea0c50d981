use Rattle.std.proofs.Common.{rules, sym, ap, ◌∙◌, subst, None, Err}
use Rattle.std.specs.FinMap.{get}
use Rattle.std.proofs.lemmas.Fn.{always_returns_same}
use Rattle.base_model.specs.Bytes.{bytes_cmp}
use Rattle.trie_model.proofs.Entries.{tied_equal}
use Rattle.batch_model.specs.Batch.{Change, AreRising, after_batch}
use Rattle.mdb_base.proofs.ChangePlaces.{searched}
use Rattle.mdb_core.proofs.BatchLookups.{value-change, value-gap}
use Rattle.mdb_core.proofs.reading.change_at.Goals as goal

pub returns-in-Ok : goal.returns-in-Ok
returns-in-Ok c = λ m.
    let cs = c.changes-changes.result.now in
    let change = c.index-changes-at.result in
    let all = c.changes-changes.ensures.all in
    let rising = subst (AreRising None) (sym all) c.changes-changes.ensures.batch.rising in
    let by_key = c.in-Ok.ensures.position (λ (x : Change). bytes_cmp x.key c.args.key.now) (always_returns_same _ _ _ (λ a r g called. search rules)) in
    let same = sym (ap (λ (x : Change). x.key) c.index-changes-at.is) in
    let found = value-change None m cs c.in-Ok.at change rising c.in-Ok.ensures.bound in
    ap (λ xs. get (after_batch m xs) c.args.key.now) (sym all) ∙ (ap (get (after_batch m cs)) (sym (tied_equal _ c.args.key.now (by_key change))) ∙ (found ∙ ap (λ (x : Change). x.value) (sym c.index-changes-at.is)))

pub returns-in-Err : goal.returns-in-Err
returns-in-Err c = λ m.
    let cs = c.changes-changes.result.now in
    let all = c.changes-changes.ensures.all in
    let rising = subst (AreRising None) (sym all) c.changes-changes.ensures.batch.rising in
    let by_key = c.in-Err.ensures.position (λ (x : Change). bytes_cmp x.key c.args.key.now) (always_returns_same _ _ _ (λ a r g called. search rules)) in
    let gap = (searched cs c.args.key.now rising (Err c.in-Err.field-0) c.in-Err.ensures.bound by_key).absent in
    ap (λ xs. get (after_batch m xs) c.args.key.now) (sym all) ∙ value-gap m cs c.args.key.now c.in-Err.field-0 rising gap
