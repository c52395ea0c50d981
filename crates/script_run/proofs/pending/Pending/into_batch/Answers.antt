use Rattle.std.proofs.Common.{◌≡◌, List, ◌∷◌, ◌++◌, map, ap, sym, ◌∙◌}
use Rattle.batch_model.specs.Batch.{Change}
use Rattle.script_run.specs.PendingChange.{waiting}
use Rattle.script_run.proofs.WaitingChanges.{Entry, next_is_last}
use Rattle.script_run.proofs.pending.Pending.into_batch.Goals as goal

pub loop-key-preserved : goal.loop-key-preserved
loop-key-preserved c =
    let before = c.loop-key.batch in
    let change = waiting (c.in-Some.key, c.in-Some.value) in
    let rest = map waiting c.next.new.self in
    let whole : before ++ change ∷ rest ≡ map waiting c.self.inside.changes.entries =
    ap (λ (es : List Entry). before ++ map waiting es) (sym c.in-Some.ensures.steps) ∙ c.loop-key.invariant ∙ sym c.self.view_is in
    ap (λ (cs : List Change). cs ++ rest) c.in_ok-add.ensures
    ∙ next_is_last c.self.inside.changes.entries before rest change c.into_iter-key-iterator.ensures.into_iter_gives.5 whole
    ∙ c.self.view_is
