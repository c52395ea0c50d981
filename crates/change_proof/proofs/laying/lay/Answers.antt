use Rattle.std.proofs.Common.{map, ap, ◌∙◌}
use Rattle.batch_model.specs.Batch.{Change}
use Rattle.proof_check.specs.Claims.{pair_of}
use Rattle.change_proof.specs.LaidChanges.{laid}
use Rattle.change_proof.proofs.LaidPairs.{laid_more}
use Rattle.change_proof.proofs.laying.lay.Goals as goal

pub loop-change-preserved : goal.loop-change-preserved
loop-change-preserved c =
    let key = ap (λ (c : Change). c.key) c.change.view_is in
    let more = laid_more c.args.changes.now c.loop-change.change-index c.change-item.result c.requires.changes c.loop-change-test.true c.change-item.is
    (map pair_of c.loop-change.made.items) (map pair_of c.push_below.new.laid.items) (map pair_of c.push_put.new.laid.items) c.deref.result.now c.deref-in-loop-change.result.now c.loop-change.rest.now
    c.in_ok-push_below.field-0.now c.behind-rest.result.now (laid c.args.local.now c.args.changes.now)
    c.loop-change.invariant.sorted c.loop-change.invariant.so_far (c.deref.ensures.value ∙ key) (c.deref-in-loop-change.ensures.value ∙ key) c.in_ok-push_below.ensures.pushed c.in_ok-push_below.ensures.rest c.in_ok-push_put.ensures c.behind-rest.ensures in
    record { so_far = more.0; sorted = more.1 }
