use Rattle.std.proofs.Common.{◌≡◌, ◌+◌, ◌≤◌, ℕ, List, length, drop}
use Rattle.std.specs.List.{flat_map}
use Rattle.std.specs.FinMap.{get}
use Rattle.batch_model.specs.Batch.{change_form}
use Rattle.value_store.specs.Index.{up_to}
use Rattle.value_store.specs.ValuePlaces.{with_room}
use Rattle.value_store.proofs.placing.fill_room.Given as goal

abbrev pub invariant-loop-change : goal.invariant-loop-change
invariant-loop-change l =
    let left = drop l.change-index l.changes in
    record {
      filled : with_room l.at left l.index ≡ with_room l.start l.changes l.fn.index;
      limit : l.at + length (flat_map change_form left) ≡ l.start + length (flat_map change_form l.changes);
      behind : l.start ≤ l.at;
      back : ((key : List ℕ) → up_to l.end (get l.fn.index key) ≡ get l.fn.index key) → (key : List ℕ) → up_to l.end (get l.index key) ≡ get l.fn.index key;
    }
