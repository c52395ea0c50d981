use Rattle.std.proofs.Common.{ap, ◌∙◌, map, List}
use Rattle.batch_model.specs.Batch.{Change, set_change}
use Rattle.script_run.specs.PendingChange.{waiting}
use Rattle.script_run.proofs.WaitingChanges.{waiting-insert_entry}
use Rattle.script_run.proofs.pending.Pending.set.Goals as goal

pub returns-clause-ok : goal.returns-clause-ok
returns-clause-ok c =
    ap (map waiting) c.in_ok-insert.ensures.entries
    ∙ waiting-insert_entry c.self.inside.changes.entries c.args.key c.args.value
    ∙ ap (λ (cs : List Change). set_change cs (waiting (c.args.key, c.args.value))) c.self.view_is
