use Rattle.std.proofs.Common.{ap, ◌∙◌}
use Rattle.batch_model.specs.Batch.{Change}
use Rattle.change_proof.proofs.LaidPairs.{idle_found, idle_passed, later_same, rest_sorted}
use Rattle.change_proof.proofs.laying.first_idle.Goals as goal

pub returns-then-is_idle : goal.returns-then-is_idle
returns-then-is_idle c =
    let v = c.loop-i.invariant in
    idle_found c.args.changes.now c.loop-i.i c.index-changes-i.result c.requires.changes c.loop-i-test.true c.index-changes-i.is
    c.args.local.now c.loop-i.rest.now c.from-rest.result.now c.deref.result.now v.sorted (c.deref.ensures.value ∙ ap (λ (c : Change). c.key) c.change.view_is) c.from-rest.ensures v.none v.same c.is_idle.result c.is_idle.ensures c.if-is_idle.true

pub loop-i-preserved : goal.loop-i-preserved
loop-i-preserved c =
    let v = c.loop-i.invariant in
    let key = c.deref.ensures.value ∙ ap (λ (c : Change). c.key) c.change.view_is in
    record {
      none =
          idle_passed c.args.changes.now c.loop-i.i c.index-changes-i.result c.requires.changes c.loop-i-test.true c.index-changes-i.is
          c.args.local.now c.loop-i.rest.now c.from-rest.result.now c.deref.result.now v.sorted key c.from-rest.ensures v.none v.same c.is_idle.result c.is_idle.ensures c.if-is_idle.false;
      sorted =
          rest_sorted c.args.changes.now c.loop-i.i c.index-changes-i.result c.requires.changes c.loop-i-test.true c.index-changes-i.is
          c.args.local.now c.loop-i.rest.now c.from-rest.result.now c.deref.result.now v.sorted key c.from-rest.ensures v.none v.same c.is_idle.result c.is_idle.ensures;
      same =
          later_same c.args.changes.now c.loop-i.i c.index-changes-i.result c.requires.changes c.loop-i-test.true c.index-changes-i.is
          c.args.local.now c.loop-i.rest.now c.from-rest.result.now c.deref.result.now v.sorted key c.from-rest.ensures v.none v.same c.is_idle.result c.is_idle.ensures;
    }
