use Rattle.std.proofs.Common.{◌≡◌, ◌∙◌, None, ap, map, take, subst}
use Rattle.batch_model.specs.Batch.{AreRising, set_change, after_batch}
use Rattle.change_history.specs.Histories.{undo_of}
use Rattle.change_history.specs.NetChanges.{net_of, nets_of}
use Rattle.change_history.proofs.CallAnswers.{one_further}
use Rattle.change_history.proofs.WayBack.{one_undone}
use Rattle.change_history.proofs.undoing.undo.Goals as goal

pub loop-net-preserved : goal.loop-net-preserved
loop-net-preserved c = λ m.
    ap (after_batch m) (c.in-Ok.ensures.ok ∙ ap (set_change c.loop-net.batch) (c.change.view_is ∙ c.in_ok-change.ensures))
    ∙ one_undone m c.loop-net.batch (map undo_of (nets_of (take c.loop-net.net-index c.args.nets.now))) (undo_of (net_of c.net-item.result)) (subst (AreRising None) c.batch.view_is c.batch.invariant.rising) (c.loop-net.invariant m)
    ∙ ap (after_batch m) (one_further c.args.nets.now c.loop-net.net-index c.net-item.result c.loop-net-test.true c.net-item.is)
