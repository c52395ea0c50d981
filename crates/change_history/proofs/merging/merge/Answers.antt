use Rattle.std.proofs.Common.{◌≡◌, ◌++◌, ◌-◌, ◌∙◌, ap, drop, take, length}
use Rattle.change_history.specs.NetChanges.{nets_of}
use Rattle.change_history.specs.MergedDeltas.{added_of}
use Rattle.change_history.proofs.CallAnswers.{merge_step, turned_here, slice_rest, step_within, one_added, none_added}
use Rattle.change_history.proofs.merging.merge.Goals as goal
use Rattle.change_history.proofs.merging.merge.Goals.{in-Some-added+in_ok-push, in_default-added}

more_merged : (c : goal.Joined-step) → nets_of c.match-step.merged.items ≡ nets_of c.loop-step.merged.items ++ added_of c.in-Some.step.added
more_merged c = elim c.match-step.branch [
  | in-Some-added+in_ok-push w ↦ one_added c.loop-step.merged.items c.match-step.merged.items c.in-Some.step.added w.in-Some-added.net w.in-Some-added.is (ap (λ v. v.items) w.merged-is ∙ w.in_ok-push.ensures.items)
  | in_default-added w ↦ none_added c.loop-step.merged.items c.match-step.merged.items c.in-Some.step.added w.in_default-added.is (ap (λ v. v.items) w.merged-is)
]

pub loop-step-preserved : goal.loop-step-preserved
loop-step-preserved c =
    let older = c.args.older.now in
    let newer = c.args.newer.now in
    record {
      merging = λ p q. merge_step (nets_of older) (nets_of newer) (nets_of c.loop-step.merged.items) (nets_of c.match-step.merged.items) (added_of c.in-Some.step.added) c.loop-step.at c.loop-step.beside c.in-Some.step.older c.in-Some.step.newer
          (c.loop-step.invariant.merging p q)
          (turned_here (nets_of (take (length older - c.loop-step.at) (drop c.loop-step.at older))) (nets_of (take (length newer - c.loop-step.beside) (drop c.loop-step.beside newer))) (drop c.loop-step.at (nets_of older)) (drop c.loop-step.beside (nets_of newer))
          c.in-Some.step c.next.result c.next.ensures.turn c.in-Some.is (slice_rest older c.loop-step.at) (slice_rest newer c.loop-step.beside))
          (more_merged c);
      at = step_within older c.loop-step.at c.in-Some.step.older c.loop-step.invariant.at c.in-Some.ensures.takes.0;
      beside = step_within newer c.loop-step.beside c.in-Some.step.newer c.loop-step.invariant.beside c.in-Some.ensures.takes.1;
    }
