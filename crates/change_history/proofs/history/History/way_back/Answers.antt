use Rattle.std.proofs.Common.{◌≡◌, ◌∙◌, List, ap, map, subst}
use Rattle.trie_model.specs.Maps.{Map}
use Rattle.range_model.specs.Ranges.{Range, everything}
use Rattle.batch_model.specs.Batch.{Change, after_batch}
use Rattle.change_history.specs.Histories.{Recalls, held_by, undo_of}
use Rattle.change_history.specs.NetChanges.{nets_of, map_at, IsSum}
use Rattle.change_history.proofs.CallAnswers.{if_ok, led_back}
use Rattle.change_history.proofs.history.History.way_back.Goals as goal

pub returns : goal.returns
returns c =
    if_ok (λ (batch : List Change). (m : Map) → after_batch m batch ≡ after_batch m (map undo_of (nets_of c.deref.result.now))) _ c.undo.result
    (λ batch same. led_back c.args.self.now c.args.place batch c.in_ok-nets.nets.items c.deref.result.now same c.deref.ensures.value (subst (λ (r : Range). IsSum c.args.self.now r c.args.place 0 (nets_of c.in_ok-nets.nets.items)) c.whole-range.ensures c.in_ok-nets.ensures)) c.undo.ensures
