use Rattle.std.proofs.Common.{◌∷◌, ◌+◌, drop, sym, ap, ◌∙◌}
use Rattle.std.proofs.lemmas.List.{drop_more}
use Rattle.batch_model.specs.Batch.{put_or_removed, after_batch}
use Rattle.mdb_core.proofs.digests.Digests.lay.Goals as goal

pub loop-change-init : goal.loop-change-init
loop-change-init c = record { laid = λ m is. (m, is, ap (after_batch m) c.changes-change-items.ensures.all); short = λ all. all }

pub loop-change-preserved : goal.loop-change-preserved
loop-change-preserved c = record {
  laid = λ m is.
      let changes = c.changes-change-items.result.now in
      let i = c.loop-change.change-index in
      let change = c.change-item.result in
      let before = c.loop-change.invariant.laid m is in
      let ahead = drop_more changes i change c.loop-change-test.true ∙ ap (λ x. x ∷ drop (i + 1) changes) (sym c.change-item.is) in
      (put_or_removed before.0 change.key change.value, c.in_ok-lay_change.ensures.laid before.0 before.1, sym (ap (after_batch before.0) ahead) ∙ before.2);
  short = λ all. c.in_ok-lay_change.ensures.short (c.loop-change.invariant.short all);
}
