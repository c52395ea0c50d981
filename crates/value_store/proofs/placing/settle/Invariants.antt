use Rattle.std.proofs.Common.{◌≡◌, ◌+◌, List, ℕ, Option, length, drop}
use Rattle.std.specs.List.{flat_map}
use Rattle.batch_model.specs.Batch.{AreRising, change_form}
use Rattle.value_store.specs.ValuePlaces.{laid_all, HasRoom}
use Rattle.value_store.proofs.placing.settle.Given as goal

abbrev pub invariant-loop-change : goal.invariant-loop-change
invariant-loop-change l =
    let left = drop l.change-index l.changes in
    record {
      laid : laid_all l.at left l.index ≡ laid_all l.start l.changes l.fn.index;
      limit : l.at + length (flat_map change_form left) ≡ l.start + length (flat_map change_form l.changes);
      rising : (last : Option (List ℕ)) × AreRising last left;
      room : HasRoom l.at left l.index;
    }
