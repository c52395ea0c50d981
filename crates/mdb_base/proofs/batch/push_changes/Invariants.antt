use Rattle.std.proofs.Common.{◌≡◌, ◌++◌, length, take}
use Rattle.std.specs.List.{flat_map}
use Rattle.base_model.specs.Uvarint.{uvarint}
use Rattle.batch_model.specs.Batch.{change_form}
use Rattle.mdb_base.proofs.batch.push_changes.Given as goal

abbrev pub invariant-loop-change : goal.invariant-loop-change
invariant-loop-change l = l.out.items ≡ l.fn.out.items ++ (uvarint (length l.changes) ++ flat_map change_form (take l.change-index l.changes))
