use Rattle.std.proofs.Common.{◌≡◌, ◌∙◌, ◌∷◌, sym, ap, subst}
use Rattle.change_history.specs.Histories.{HistoryState, Recalls}
use Rattle.change_history.proofs.RecalledMaps.{recalls-pushed, pushed_parts}
use Rattle.change_history.proofs.history.History.push.Goals as goal

pub returns-clause-recalls : goal.returns-clause-recalls
returns-clause-recalls c = λ w m former maps r d e.
    subst (λ (h : HistoryState). Recalls w h (m ∷ former ∷ maps)) (pushed_parts c.self.inside.ring.capacity c.self.inside.limit c.put-self-inside.new.ring.capacity c.self.inside.ring.items c.put-self-inside.new.ring.items c.new-commit.result c.self.inside.root c.args.root c.args.deltas.items c.args.self.now c.self.view_is c.new-commit.ensures c.put-self-inside.ensures.kept c.put-self-inside.ensures.capacity) (recalls-pushed w c.args.self.now c.args.deltas.items c.args.root m former maps r d e)
