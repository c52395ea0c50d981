use Rattle.std.proofs.Common.{◌≡◌, ◌++◌, drop}
use Rattle.std.specs.List.{flat_map}
use Rattle.base_model.specs.Bytes.{Grown}
use Rattle.batch_model.specs.Batch.{change_form}
use Rattle.proof_check.proofs.writing.write_each.Given as goal

-- what is written, and what is left to write, are what was there and all changes
abbrev pub invariant-loop-change : goal.invariant-loop-change
invariant-loop-change l = record {
  so_far : l.out.items ++ flat_map change_form (drop l.change-index l.changes) ≡ l.fn.out.items ++ flat_map change_form l.changes;
  grown : Grown l.fn.out.items l.out.items;
}
