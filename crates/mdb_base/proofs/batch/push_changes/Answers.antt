use Rattle.std.proofs.Common.{◌++◌, length, take}
use Rattle.std.specs.List.{flat_map}
use Rattle.base_model.specs.Uvarint.{uvarint}
use Rattle.batch_model.specs.Batch.{change_form}
use Rattle.mdb_base.proofs.Fronts.{front_kept}
use Rattle.mdb_base.proofs.batch.push_changes.Goals as goal

pub returns-in_err-push_change-clause-front : goal.returns-in_err-push_change-clause-front
returns-in_err-push_change-clause-front c =
    front_kept c.args.out.now.items (uvarint (length c.args.changes.now) ++ flat_map change_form (take c.loop-change.change-index c.args.changes.now)) c.loop-change.out.items c.push_change.new.out.items c.loop-change.invariant c.push_change.ensures.front
