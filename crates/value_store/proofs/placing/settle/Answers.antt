use Rattle.std.proofs.Common.{◌≡◌, ◌+◌, ◌∷◌, Some, length, drop, sym, ap, ◌∙◌, subst, arith}
use Rattle.std.specs.Prelude.{IsSome}
use Rattle.std.specs.List.{flat_map}
use Rattle.std.specs.FinMap.{get}
use Rattle.batch_model.specs.Batch.{Change, AreRising, change_form}
use Rattle.value_store.specs.Index.{Places}
use Rattle.value_store.specs.BatchReading.{laid}
use Rattle.value_store.specs.ValuePlaces.{value_place, laid_all, HasRoom}
use Rattle.value_store.proofs.PlacesAfter.{left_is, left_length, room_now, room_later}
use Rattle.value_store.proofs.placing.settle.Goals as goal

pub loop-change-preserved : goal.loop-change-preserved
loop-change-preserved c =
    let k = c.loop-change.invariant in
    let cs = c.args.changes.now in
    let i = c.loop-change.change-index in
    let at = c.loop-change.at in
    let index = c.loop-change.index in
    let ch = c.change-item.result in
    let rest = drop (i + 1) cs in
    let left : drop i cs ≡ ch ∷ rest = left_is cs i ch c.loop-change-test.true ∙ ap (λ x. x ∷ rest) (sym c.change-item.is) in
    let size : length (flat_map change_form (drop i cs)) ≡ length (change_form ch) + length (flat_map change_form rest) =
    left_length cs i ch c.loop-change-test.true ∙ ap (λ x. length (change_form x) + length (flat_map change_form rest)) (sym c.change-item.is) in
    let rising = subst (λ l. AreRising k.rising.0 l) left k.rising.1 in
    let room = subst (λ l. HasRoom at l index) left k.room in
    let key : c.deref.result.now ≡ ch.key = c.deref.ensures.value ∙ ap (λ (x : Change). x.key) c.change.view_is in
    let place = c.spelled_at-place.ensures.place in
    let next = c.spelled_at-place.ensures.next in
    let there = λ (some : IsSome c.spelled_at-place.result.0). subst (λ n. IsSome (get index n)) (sym key) (room_now k.rising.0 at ch rest index rising room (subst (λ o. IsSome o) place some)) in
    let new : c.set_or_remove.new.index ≡ laid index ch.key (value_place at ch) =
    c.set_or_remove.ensures there ∙ ap (λ n. laid index n c.spelled_at-place.result.0) key ∙ ap (laid index ch.key) place in
    record {
      laid = ap (λ n. laid_all n rest c.set_or_remove.new.index) next ∙ ap (laid_all (at + length (change_form ch)) rest) new ∙ sym (ap (λ l. laid_all at l index) left) ∙ k.laid;
      limit = omega (arith, k.limit, size, next);
      rising = (Some ch.key, rising.1);
      room = subst (λ n. HasRoom n rest c.set_or_remove.new.index) (sym next) (subst (λ (x : Places). HasRoom (at + length (change_form ch)) rest x) (sym new) (room_later k.rising.0 at ch rest index rising room));
    }
