use Rattle.std.proofs.Common.{◌≡◌, ◌+◌, ◌∷◌, length, drop, sym, ap, ◌∙◌, arith}
use Rattle.std.specs.List.{flat_map}
use Rattle.batch_model.specs.Batch.{Change, change_form}
use Rattle.std.specs.FinMap.{get}
use Rattle.value_store.specs.Index.{Places, up_to}
use Rattle.value_store.specs.ValuePlaces.{value_place, with_room, room_for}
use Rattle.value_store.proofs.PlacesAfter.{left_is, left_length, room_behind, value_behind_start}
use Rattle.value_store.proofs.placing.fill_room.Goals as goal

pub loop-change-preserved : goal.loop-change-preserved
loop-change-preserved c =
    let k = c.loop-change.invariant in
    let cs = c.args.changes.now in
    let i = c.loop-change.change-index in
    let at = c.loop-change.at in
    let index = c.loop-change.index in
    let ch = c.change-item.result in
    let rest = drop (i + 1) cs in
    let left : drop i cs ≡ ch ∷ rest = left_is cs i ch c.loop-change-test.true ∙ ap (λ x. x ∷ rest) (sym c.change-item.is) in
    let size : length (flat_map change_form (drop i cs)) ≡ length (change_form ch) + length (flat_map change_form rest) =
    left_length cs i ch c.loop-change-test.true ∙ ap (λ x. length (change_form x) + length (flat_map change_form rest)) (sym c.change-item.is) in
    let key : c.deref.result.now ≡ ch.key = c.deref.ensures.value ∙ ap (λ (x : Change). x.key) c.change.view_is in
    let new : c.make_room.new.index ≡ room_for index ch.key (value_place at ch) =
    c.in_ok-make_room.ensures.ok ∙ ap (λ n. room_for index n c.spelled_at-place.result.0) key ∙ ap (room_for index ch.key) c.spelled_at-place.ensures.place in
    record {
      filled = ap (λ n. with_room n rest c.make_room.new.index) c.spelled_at-place.ensures.next ∙ ap (with_room (at + length (change_form ch)) rest) new ∙ sym (ap (λ l. with_room at l index) left) ∙ k.filled;
      limit = omega (arith, k.limit, size, c.spelled_at-place.ensures.next);
      behind = omega (arith, k.behind, c.spelled_at-place.ensures.next);
      back = λ before q. ap (λ (x : Places). up_to c.args.end (get x q)) new
          ∙ room_behind c.args.end c.args.index.now index ch.key (value_place at ch) (k.back before) (value_behind_start c.args.end at ch (omega (arith, k.behind, c.requires.behind))) q;
    }
